-- A script has exactly one output, since its commands and its end are determined.
use Rattle.std.proofs.Common.{◌≡◌, ◌≢◌, ℕ, zero, suc, ◌+◌, ◌<◌, ◌≤◌, List, [], ◌∷◌, ◌++◌, length, sym, subst, ap, ◌∙◌, refl, arith, append_assoc, length-append, All, inl, inr, codes, Option}
use Rattle.std.proofs.lemmas.List.{take-append-le}
use Rattle.std.proofs.lemmas.List.Elements.{All-tail}
use Rattle.std.specs.Io.KnownBytes.{Appends}
use Rattle.std.specs.List.{flat_map, fold}
use Rattle.al_base.specs.Counted.{AppendsPrefix}
use Rattle.al_base.proofs.Bytes.{AppendsPrefix-after, AppendsPrefix-wider}
use Rattle.al_cli_scripts.specs.Script.{Command, command_bytes, line_bytes, line_of, body_of, PutLine, IsCommand, IsWrong, BeginsWithCommand}
use Rattle.al_cli_scripts.specs.Runs.{Steps, Served, Puts, Ends, PutsPrefix, replies_to}
use Rattle.al_cli_scripts.proofs.Deciding.{begins_or_not}
use Rattle.al_cli_scripts.proofs.Laws.{command_unique, wrong_never, wrong_nonempty}
use Rattle.al_cli_scripts.proofs.Serving.{Served-none, Served-one, Served-then}

pub wrong_stays : (bytes more : List ℕ) → IsWrong bytes → IsWrong (bytes ++ more)
wrong_stays bytes more w = elim w [
  | inl v ↦ inl (v.0, v.1 ++ more, ap (λ l. l ++ more) v.2 ∙ append_assoc v.0 (10 ∷ v.1) more, v.3, v.4)
  | inr v ↦ elim v [
    | inl u ↦
        let long : 2049 ≤ length bytes = u.0 in
        inr (inl (omega (arith, length-append bytes more), subst (All (λ b. b ≢ 10)) (sym (take-append-le 2049 bytes more long)) u.1))
    | inr u ↦ inr (inr (
      u.0,
      u.1,
      u.2,
      u.3 ++ more,
      u.4,
      ap (λ l. l ++ more) u.5 ∙ append_assoc (line_bytes (PutLine u.0 (length u.1)) ++ 10 ∷ u.1) (u.2 ∷ u.3) more,
      u.6,
    ))
  ]
]

-- removing a command leaves fewer bytes
pub command_shorter : (c : Command) (bytes more : List ℕ) → bytes ≡ command_bytes c ++ more → length more < length bytes
command_shorter c bytes more e =
    let line : List ℕ = line_bytes (line_of c) in
    let size : length bytes ≡ length ((line ++ 10 ∷ body_of c) ++ more) = ap length e in
    omega (arith, size, length-append (line ++ 10 ∷ body_of c) more, length-append line (10 ∷ body_of c))

pub unbegun_empty : BeginsWithCommand [] → ⊥
unbegun_empty b = let short : length b.1 < 0 = command_shorter b.0 [] b.1 b.3 in omega (arith, short)

same_commands : (cs ds : List Command) (x y : List ℕ) → All IsCommand cs → All IsCommand ds → (BeginsWithCommand x → ⊥) → (BeginsWithCommand y → ⊥)
    → flat_map command_bytes cs ++ x ≡ flat_map command_bytes ds ++ y → (cs ≡ ds) × (x ≡ y)
same_commands [] [] x y p q none none' e = (refl, e)
same_commands [] (d ∷ ds) x y p q none none' e =
    absurd (none (d, flat_map command_bytes ds ++ y, q 0 d (omega arith), e ∙ append_assoc (command_bytes d) (flat_map command_bytes ds) y))
same_commands (c ∷ cs) [] x y p q none none' e =
    absurd (none' (c, flat_map command_bytes cs ++ x, p 0 c (omega arith), sym e ∙ append_assoc (command_bytes c) (flat_map command_bytes cs) x))
same_commands (c ∷ cs) (d ∷ ds) x y p q none none' e =
    let first = command_unique c d (flat_map command_bytes cs ++ x) (flat_map command_bytes ds ++ y) (p 0 c (omega arith)) (q 0 d (omega arith))
    (sym (append_assoc (command_bytes c) (flat_map command_bytes cs) x) ∙ e ∙ append_assoc (command_bytes d) (flat_map command_bytes ds) y) in
    let more = same_commands cs ds x y (All-tail IsCommand c cs p) (All-tail IsCommand d ds q) none none' first.1 in
    let one : c ≡ d = first.0 in
    let others : cs ≡ ds = more.0 in
    (cc, more.1)

module _ {F : Type 0} (steps : Steps F) where
  ends_one : (f : F) (r out out' : List ℕ) (a a' : ℕ) → Ends steps f r out a → Ends steps f r out' a' → (out ≡ out') × (a ≡ a')
  ends_one f r out out' a a' p q = elim p [
    | inl x ↦ elim q [
      | inl y ↦ (x.1 ∙ sym y.1, x.2 ∙ sym y.2)
      | inr y ↦ absurd (y.0 x.0)
    ]
    | inr x ↦ elim q [
      | inl y ↦ absurd (x.0 y.0)
      | inr y ↦ (x.2 ∙ sym y.2, x.3 ∙ sym y.3)
    ]
  ]

  unbegun : (f : F) (r out : List ℕ) (a : ℕ) → Ends steps f r out a → BeginsWithCommand r → ⊥
  unbegun f r out a e b = elim e [
    | inl z ↦ unbegun_empty (subst BeginsWithCommand z.0 b)
    | inr z ↦ z.1 b
  ]

module _ {F : Type 0} {steps : Steps F} where
  pub one_output : {f : F} {r out out' : List ℕ} {a a' : ℕ} → Puts steps f r out a → Puts steps f r out' a' → (out ≡ out') × (a ≡ a')
  one_output {f} {a = a} {a' = a'} p q =
      let same = same_commands p.served.commands q.served.commands p.rest q.rest p.served.each q.served.each
      (unbegun steps p.folder p.rest p.last a p.ends) (unbegun steps q.folder q.rest q.last a' q.ends) (sym p.served.whole ∙ q.served.whole) in
      let commands : p.served.commands ≡ q.served.commands = same.0 in
      let folder : p.folder ≡ q.folder = p.served.leaves ∙ ap (fold steps.after f) commands ∙ sym q.served.leaves in
      let replies : p.replies ≡ q.replies = p.served.answered ∙ ap (replies_to steps f) commands ∙ sym q.served.answered in
      let ends = ends_one steps p.folder p.rest p.last q.last a a' p.ends (rw (folder, same.1) q.ends) in
      (p.whole ∙ ap (λ l. l ++ p.last) replies ∙ ap (λ l. q.replies ++ l) ends.0 ∙ sym q.whole, ends.1)

  -- the output of a script that ends here, and of one that begins with commands
  pub Puts-end : (f : F) (r out : List ℕ) (a : ℕ) → Ends steps f r out a → Puts steps f r out a
  Puts-end f r out a e = record { folder = f; replies = []; rest = r; last = out; served = Served-none f r; ends = e; whole = refl }

  pub Puts-bad : (f : F) (r : List ℕ) → r ≢ [] → (BeginsWithCommand r → ⊥) → Puts steps f r (codes "bad command\n") 2
  Puts-bad f r some none = Puts-end f r _ _ (inr (some, none, refl, refl))

  pub Puts-after : {f g : F} {r replies rest out : List ℕ} {a : ℕ} → Served steps f r g replies rest → Puts steps g rest out a → Puts steps f r (replies ++ out) a
  Puts-after {replies = replies} s p = record {
    folder = p.folder;
    replies = replies ++ p.replies;
    rest = p.rest;
    last = p.last;
    served = Served-then s p.served;
    ends = p.ends;
    whole = ap (λ l. replies ++ l) p.whole ∙ sym (append_assoc replies p.replies p.last);
  }

  -- a script of fewer than `n` bytes has an output
  some_within : (n : ℕ) (f : F) (r : List ℕ) → length r < n → (out : List ℕ) × (a : ℕ) × Puts steps f r out a
  some_within zero f r h = absurd (omega arith)
  some_within (suc n) f [] h = ([], steps.status f, Puts-end f [] _ _ (inl (refl, refl, refl)))
  some_within (suc n) f (x ∷ xs) h = elim (begins_or_not (x ∷ xs)) [
    | inl b ↦
        let p = some_within n (steps.after f b.0) b.1 (let less = command_shorter b.0 (x ∷ xs) b.1 b.3 in omega (arith, less, h)) in
        (steps.reply f b.0 ++ p.0, p.1, subst (λ l. Puts steps f l (steps.reply f b.0 ++ p.0) p.1) (sym b.3) (Puts-after (Served-one f b.0 b.1 b.2) p.2))
    | inr none ↦ (codes "bad command\n", 2, Puts-bad f (x ∷ xs) (λ e. absurd cc) none)
  ]

  pub some_output : (f : F) (r : List ℕ) → (out : List ℕ) × (a : ℕ) × Puts steps f r out a
  some_output f r = some_within (length r + 1) f r (omega arith)

  -- ---- a prefix of the output was written

  pub Prefix-all : {f : F} {r out : List ℕ} {a : ℕ} (wrote now : Option (List ℕ)) → Puts steps f r out a → AppendsPrefix wrote now out → PutsPrefix steps f r wrote now
  Prefix-all wrote now p w = λ out a q. rw (one_output q p).0 w

  -- a prefix of the replies, or the replies and a prefix of what follows
  pub Prefix-replies : {f g : F} {r replies rest : List ℕ} (wrote now : Option (List ℕ)) → Served steps f r g replies rest → AppendsPrefix wrote now replies
      → PutsPrefix steps f r wrote now
  Prefix-replies {g = g} {replies = replies} {rest = rest} wrote now s w =
      let more = some_output g rest in
      Prefix-all wrote now (Puts-after s more.2) (AppendsPrefix-wider wrote now replies more.0 w)

  pub Prefix-after : {f g : F} {r replies rest : List ℕ} (wrote mid now : Option (List ℕ)) → Served steps f r g replies rest → Appends wrote mid replies
      → PutsPrefix steps g rest mid now → PutsPrefix steps f r wrote now
  Prefix-after {g = g} {replies = replies} {rest = rest} wrote mid now s w h =
      let more = some_output g rest in
      Prefix-all wrote now (Puts-after s more.2) (AppendsPrefix-after wrote mid now replies more.0 w (h more.0 more.1 more.2))

pub Prefix-bad : {F : Type 0} (steps : Steps F) (f : F) (r more : List ℕ) (wrote now : Option (List ℕ)) → IsWrong r → AppendsPrefix wrote now (codes "bad command\n")
    → PutsPrefix steps f (r ++ more) wrote now
Prefix-bad steps f r more wrote now wrong w = Prefix-all wrote now (Puts-bad f (r ++ more) (wrong_nonempty r more wrong) (wrong_never r more wrong)) w
