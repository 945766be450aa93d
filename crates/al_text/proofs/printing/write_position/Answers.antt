use Rattle.std.proofs.Common.{◌≡◌, ◌++◌, ◌∷◌, [], ℕ, List, subst, append_assoc}
use Rattle.al_base.specs.Streams.{WritesOrFails}
use Rattle.al_text.proofs.printing.write_position.Goals as goal

-- the appended parts, reassociated to the left
position_is : (p l c : List ℕ) →
    p ++ ((58 ∷ []) ++ (l ++ ((58 ∷ []) ++ (c ++ ((58 ∷ 32 ∷ []) ++ []))))) ≡ p ++ 58 ∷ [] ++ l ++ 58 ∷ [] ++ c ++ 58 ∷ 32 ∷ []
position_is p l c = simp append_assoc

pub returns : goal.returns
returns g c =
    subst (WritesOrFails _ _ _ _) (position_is c.args.path.now c.args.line.now c.args.column.now)
    (rw (c.as_bytes.ensures.value, c.as_bytes-2.ensures.value, c.as_bytes-3.ensures.value) at c.write_fragments.ensures)
