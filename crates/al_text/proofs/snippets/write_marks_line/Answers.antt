use Rattle.std.proofs.Common.{◌≡◌, ◌++◌, ◌∷◌, [], List, ℕ, subst, append_assoc}
use Rattle.al_base.specs.Streams.{WritesOrFails}
use Rattle.al_text.proofs.snippets.write_marks_line.Goals as goal

-- the appended parts, reassociated to the left
line_is : (a b w : List ℕ) →
    a ++ ((32 ∷ 124 ∷ 32 ∷ []) ++ (b ++ ((94 ∷ []) ++ (w ++ ((10 ∷ []) ++ []))))) ≡ a ++ 32 ∷ 124 ∷ 32 ∷ [] ++ b ++ 94 ∷ [] ++ w ++ 10 ∷ []
line_is a b w = simp append_assoc

pub returns : goal.returns
returns g c = subst (WritesOrFails _ _ _ _) (line_is _ _ _) (rw c.as_bytes.ensures.value at c.write_fragments.ensures)
