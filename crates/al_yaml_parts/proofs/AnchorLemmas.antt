-- What is known of anchors, as one more is added.
use Rattle.std.proofs.Common.{◌≡◌, ℕ, List, refl, sym, ap, ◌∙◌, Bool, true, false, cond, Option, Some, None, option_map}
use Rattle.std.specs.BTreeMap.{UpdatesBy, is_at}
use Rattle.std.specs.Cmp.{eq_by_cmp_equiv}
use Rattle.std.specs.Cmp.Lexicographic.{bytes_decides, slice_cmp, nat_list_cmp_total, nat_list_eq_equiv}
use Rattle.std.specs.Global.{Vec}
use Rattle.std.specs.Map.{AreApart, IsKeyTest, KeepsOthers, lookup}
use Rattle.std.specs.Ordering.{is_eq, nat_cmp}
use Rattle.std.specs.Str.{bytes_eq}
use Rattle.std.proofs.lemmas.Map.Text.{is_eq-slice_cmp}
use Rattle.al_yaml_tree.specs.Reading.{Anchor, later_of, with_anchor}
use Rattle.al_yaml_parts.specs.Reads.{anchor_seen, anchors_view, is_later, last_anchor}
use Rattle.al_yaml_parts.specs.declared.anchors.AnchoredNode.{AnchoredNode}
use Rattle.al_yaml_parts.specs.declared.anchors.Anchors.{Anchors}

abbrev at_text : List ℕ → Vec ℕ → Bool
at_text text = is_at (λ k. slice_cmp nat_cmp text k.items)

other_entries : (eq : Vec ℕ → Vec ℕ → Bool) (test : Vec ℕ → Bool) (old new : List (Vec ℕ × AnchoredNode)) → KeepsOthers eq test old new →
    (other : Vec ℕ → Bool) → IsKeyTest eq other → AreApart test other → lookup other new ≡ lookup other old
unfolding KeepsOthers
other_entries eq test old new h = h

apart : (bs cs ks : List ℕ) → bytes_eq bs cs ≡ false → is_eq (slice_cmp nat_cmp bs ks) ≡ true → is_eq (slice_cmp nat_cmp cs ks) ≡ false
apart bs cs ks n y =
    is_eq-slice_cmp cs ks ∙ nat_list_eq_equiv.symm cs ks ∙ sym (nat_list_eq_equiv.congr bs ks cs (sym (is_eq-slice_cmp bs ks) ∙ y)) ∙ n

here_or_before : {A : Type 0} (here : Bool) (old new put : Option A) → (here ≡ true → new ≡ put) → (here ≡ false → new ≡ old) → new ≡ cond here put old
here_or_before true old new put there apart = there refl
here_or_before false old new put there apart = apart refl

later-is : (a : Anchor) (o : Option Anchor) → later_of a o ≡ cond (is_later a.at o) o (Some a)
later-is a None = refl
later-is a (Some b) = refl

-- an anchor that is put, with none of its name after it
module _ (old new : Anchors) (key : Vec ℕ) (a : AnchoredNode)
    (u : UpdatesBy (λ a b. slice_cmp nat_cmp a.items b.items) (λ k. slice_cmp nat_cmp key.items k.items) old.latest new.latest (Some a))
    (last : is_later a.at (anchors_view old key.items) ≡ false) where
  found-put : (name : List ℕ) → bytes_eq key.items name ≡ true → last_anchor new name ≡ Some a
  unfolding last_anchor
  found-put name y = ap (last_anchor new) (sym ((bytes_decides key.items name).0 y)) ∙ u.1

  found-other : (name : List ℕ) → bytes_eq key.items name ≡ false → last_anchor new name ≡ last_anchor old name
  unfolding last_anchor
  found-other name n =
      other_entries _ _ _ _ u.3 (at_text name) (λ x y. (eq_by_cmp_equiv nat_list_cmp_total).congr name x.items y.items) (λ k. apart key.items name k.items n)

  put-is : later_of (anchor_seen key.items a) (anchors_view old key.items) ≡ Some (anchor_seen key.items a)
  put-is =
      later-is (anchor_seen key.items a) (anchors_view old key.items)
      ∙ ap (λ b. cond b (anchors_view old key.items) (Some (anchor_seen key.items a))) last

  seen-put : (name : List ℕ) → bytes_eq key.items name ≡ true → anchors_view new name ≡ later_of (anchor_seen key.items a) (anchors_view old name)
  seen-put name y =
      let same = (bytes_decides key.items name).0 y in
      ap (option_map (anchor_seen name)) (found-put name y) ∙ ap (λ n. Some (anchor_seen n a)) (sym same)
      ∙ sym put-is ∙ ap (λ n. later_of (anchor_seen key.items a) (anchors_view old n)) same

  pub known-put : anchors_view new ≡ with_anchor (anchor_seen key.items a) (anchors_view old)
  known-put = λ i name.
      here_or_before (bytes_eq key.items name) (anchors_view old name) (anchors_view new name) (later_of (anchor_seen key.items a) (anchors_view old name))
      (seen-put name) (λ n. ap (option_map (anchor_seen name)) (found-other name n)) i
