use Rattle.std.proofs.Common.{◌≡◌, ◌++◌, ◌∷◌, [], List, ℕ, subst, append_assoc}
use Rattle.al_base.specs.Streams.{WritesOrFails}
use Rattle.al_text.proofs.snippets.write_text.Goals as goal

-- the appended parts, reassociated to the left
lines_are : (a d t : List ℕ) →
    a ++ ((32 ∷ 124 ∷ 10 ∷ []) ++ (d ++ ((32 ∷ 124 ∷ 32 ∷ []) ++ (t ++ ((10 ∷ []) ++ [])))))
    ≡ a ++ 32 ∷ 124 ∷ 10 ∷ [] ++ d ++ 32 ∷ 124 ∷ 32 ∷ [] ++ t ++ 10 ∷ []
lines_are a d t = simp append_assoc

pub returns : goal.returns
returns g c = subst (WritesOrFails _ _ _ _) (lines_are _ c.args.number.now c.args.text.now) (rw (c.as_bytes.ensures.value, c.as_bytes-2.ensures.value) at c.write_fragments.ensures)
