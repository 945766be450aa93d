-- The tree of a file is within it, and in order if no alias is read; its texts are UTF-8; its first fault is within the file, too.
use Rattle.std.proofs.Common.{◌≡◌, refl, sym, ap, ◌∙◌, subst, ℕ, zero, suc, ◌+◌, ◌<◌, ◌≤◌, List, [], ◌∷◌, length, length-append, take, arith}
use Rattle.std.proofs.Common.{Bool, true, false, Option, Some, None, option_map, cond, Result, Ok, Err, IfOk, IsUtf8}
use Rattle.std.specs.Prelude.{IfNone}
use Rattle.std.proofs.Math.Seq.{take-length}
use Rattle.std.proofs.lemmas.Bool.{false≢true}
use Rattle.std.proofs.lemmas.Result.{IfOk-weaker}
use Rattle.std.proofs.Math.Utf8.{encode, encodes}
use Rattle.std.proofs.lemmas.Str.{encodes-chars, is_utf8-from_IsUtf8, IsUtf8-from_is_utf8, IsUtf8-nil, len_utf8_bounds, length-encode}
use Rattle.std.specs.Char.{len_utf8}
use Rattle.std.specs.Str.{chars, is_utf8}
use Rattle.std.specs.Str.Lossy.{valid_len_up_to, utf8_valid_len}
use Rattle.al_base.specs.Spans.{LiesIn}
use Rattle.al_base.specs.declared.codes.YamlCode.TheVariants as yaml
use Rattle.al_scalar.specs.declared.faults.FaultAt.{FaultAt}
use Rattle.al_scalar.specs.declared.faults.YamlFault.{YamlFault}
use Rattle.al_scalar.proofs.OffsetLemmas.{choose}
use Rattle.al_yaml_tree.specs.Bytes.{byte_fault, is_printable, unprintable_at}
use Rattle.al_scalar.specs.Characters.{character_at}
use Rattle.al_yaml_tree.specs.Document.{document_of, HasNoAlias, tree_of}
use Rattle.al_yaml_tree.specs.Limits.{unless_fault}
use Rattle.al_yaml_tree.specs.Node.{Node}
use Rattle.al_yaml_tree.specs.Laws.{IsTreeLaid}
use Rattle.al_yaml_tree.specs.Spans.{IsPlacedIn, IsLaid, IsInside, AreFrom}
use Rattle.al_yaml_tree.specs.Texts.{HasTexts}
use Rattle.al_yaml_tree.proofs.LaidLemmas.{laid-inside, laid-from, laid-wider}
use Rattle.al_yaml_tree.proofs.CharacterLemmas.{character-inside}
use Rattle.al_yaml_tree.proofs.DocumentReading.{file_of, document-lies}
use Rattle.al_yaml_tree.proofs.NodeReading.{Lies}
use Rattle.al_yaml_tree.proofs.ScalarSpans.{Answers}

-- ---- faults of the bytes

abbrev IsBelow : ℕ → Option ℕ → Type 0
IsBelow high None = Unit {0}
IsBelow high (Some at) = at < high

valid-below : (bs : List ℕ) (n : ℕ) → valid_len_up_to bs n ≤ n
valid-below bs zero = omega arith
valid-below bs (suc n) =
    choose (λ k. k ≤ suc n) (is_utf8 (take (suc n) bs)) (λ _. omega arith) (λ _. omega (arith, valid-below bs n))

-- The longest UTF-8 prefix of bytes that aren't UTF-8 is shorter than them.
valid-short : (bs : List ℕ) → is_utf8 bs ≡ false → utf8_valid_len bs < length bs
unfolding utf8_valid_len
valid-short [] e = absurd (false≢true (sym e ∙ is_utf8-from_IsUtf8 [] IsUtf8-nil))
valid-short (b ∷ bs) e =
    choose (λ k. k < suc (length bs)) (is_utf8 (b ∷ take (length bs) bs))
    (λ t. absurd (false≢true (sym e ∙ ap (λ l. is_utf8 (b ∷ l)) (sym (take-length bs)) ∙ t))) (λ _. omega (arith, valid-below (b ∷ bs) (length bs)))

unprintable-below : (high at : ℕ) (cs : List ℕ) → at + length (encodes cs) ≤ high → IsBelow high (unprintable_at at cs)
unprintable-below high at [] h = tt
unprintable-below high at (c ∷ cs) h =
    let len = length-append (encode c) (encodes cs) in
    let room : at + len_utf8 c + length (encodes cs) ≤ high = omega (arith, h, len, length-encode c) in
    choose (IsBelow high) (is_printable c) (λ _. unprintable-below high (at + len_utf8 c) cs room) (λ _. omega (arith, room, len_utf8_bounds c))

answered : {A : Type 0} (size : ℕ) (P : A → Type 0) (r : Result A FaultAt) → Answers size P r → IfOk r P
answered size P (Ok x) h = h
answered size P (Err e) h = tt

unless-fault : {A : Type 0} (o : Option FaultAt) (r : Result A FaultAt) (P : A → Type 0) → IfOk r P → IfOk (unless_fault o r) P
unless-fault None r P h = h
unless-fault (Some f) r P h = tt

-- bytes in which no fault was found
pub no-fault : (bs : List ℕ) (o : Option YamlFault) → ((f : YamlFault) → o ≡ Some f → ⊥) → IfNone o (IsUtf8 bs) → IsUtf8 bs
no-fault bs None n h = h
no-fault bs (Some f) n h = absurd (n f refl)

module _ (bytes : List ℕ) where
  -- the property of a tree's root, whose nodes are in order if `plain` holds
  abbrev pub LiesIf : Type 0 → Node → Type 0
  LiesIf plain = Lies (file_of bytes plain) 0 (length bytes)

  pub document-root : (plain : Type 0) → (plain → HasNoAlias bytes) → (root : Node) → document_of bytes ≡ Ok root → LiesIf plain root
  document-root plain none root h = subst (Answers (length bytes) (LiesIf plain)) h (document-lies bytes plain none)

  document-ok : (plain : Type 0) → (plain → HasNoAlias bytes) → IfOk (document_of bytes) (LiesIf plain)
  document-ok plain none = answered (length bytes) (LiesIf plain) (document_of bytes) (document-lies bytes plain none)

  -- ---- the file

  -- the root, or a fault within the file, which is UTF-8 if `good` holds
  abbrev LiesAmong : Bool → Result Node FaultAt → Type 0
  LiesAmong good (Ok root) = LiesIf ⊥ root
  LiesAmong good (Err f) = LiesIn (length bytes) (cond good (character_at bytes f.at) (record { start = f.at; end = f.at + 1 }))

  answer_lies : (r : Result Node FaultAt) → Answers (length bytes) (LiesIf ⊥) r → LiesAmong true r
  answer_lies (Ok root) h = h
  answer_lies (Err f) h = character-inside bytes f.at h

  -- the tree, unless the bytes have a fault

  printed : (o : Option ℕ) → IsBelow (length bytes) o
      → LiesAmong true (unless_fault (option_map (λ at. record { code = yaml.ControlCharacter; at = at }) o) (document_of bytes))
  printed None h = answer_lies (document_of bytes) (document-lies bytes ⊥ (λ e. absurd e))
  printed (Some at) h = character-inside bytes at (omega (arith, h))

  formed : (good : Bool) → is_utf8 bytes ≡ good → LiesAmong good (unless_fault
      (cond good (option_map (λ at. record { code = yaml.ControlCharacter; at = at }) (unprintable_at 0 (chars bytes)))
      (Some (record { code = yaml.NotUtf8; at = utf8_valid_len bytes }))) (document_of bytes))
  formed true e =
      let whole = ap length (encodes-chars bytes (IsUtf8-from_is_utf8 bytes e)) in
      printed (unprintable_at 0 (chars bytes)) (unprintable-below (length bytes) 0 (chars bytes) (omega (arith, whole)))
  formed false e = record { ordered = omega arith; inside = omega (arith, valid-short bytes e) }

  pub tree-laid_in : IsTreeLaid bytes (tree_of bytes)
  tree-laid_in = whole (tree_of bytes) (formed (is_utf8 bytes) refl)
    where
      whole : (r : Result Node FaultAt) → LiesAmong (is_utf8 bytes) r → IsTreeLaid bytes r
      whole (Ok root) h = h.laid
      whole (Err f) h = h

  -- ---- the tree of the file

  tree-lies : (plain : Type 0) → (plain → HasNoAlias bytes) → IfOk (tree_of bytes) (LiesIf plain)
  tree-lies plain none = unless-fault (byte_fault bytes) (document_of bytes) (LiesIf plain) (document-ok plain none)

  tree-follows : (Q : Node → Type 0) → ((root : Node) → LiesIf ⊥ root → Q root) → IfOk (tree_of bytes) Q
  tree-follows Q f = IfOk-weaker (tree_of bytes) (LiesIf ⊥) Q f (tree-lies ⊥ (λ e. absurd e))

  pub tree-inside : IfOk (tree_of bytes) (IsInside (length bytes))
  tree-inside = tree-follows (IsInside (length bytes)) (λ root h. laid-inside (length bytes) (length bytes) root h.laid)

  pub tree-from : IfOk (tree_of bytes) (AreFrom (length bytes))
  tree-from = tree-follows (AreFrom (length bytes)) (λ root h. laid-from (length bytes) root h.laid)

  pub tree-laid : length bytes ≤ 1048576 → IfOk (tree_of bytes) (IsLaid (length bytes))
  tree-laid a = tree-follows (IsLaid (length bytes))
      (λ root h. laid-wider (length bytes) (length bytes) 1048576 (length bytes) a (omega arith) root h.laid)

  -- Without aliases, each node is within the one around it, and after those before it.

  pub tree-nested : HasNoAlias bytes → IfOk (tree_of bytes) (IsPlacedIn (length bytes) 0 (length bytes))
  tree-nested u = IfOk-weaker (tree_of bytes) (LiesIf (Unit {0})) _ (λ root h. h.placed tt) (tree-lies (Unit {0}) (λ _. u))

  -- The texts are UTF-8.
  pub tree-text : IfOk (tree_of bytes) HasTexts
  tree-text =
      choose (λ (o : Option FaultAt). IfOk (unless_fault o (document_of bytes)) HasTexts) (is_utf8 bytes)
      (λ e. unless-fault _ (document_of bytes) HasTexts (IfOk-weaker (document_of bytes) (LiesIf ⊥) HasTexts
      (λ root h. h.texts (IsUtf8-from_is_utf8 bytes e)) (document-ok ⊥ (λ e. absurd e)))) (λ _. tt)
