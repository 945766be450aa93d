-- Joining an array type of some depth with another type, by the depth of the other.
use Rattle.std.proofs.Common.{◌≡◌, ℕ, min, List, sym, ap, ◌∙◌}
use Rattle.al_types.specs.Types.{Type', Any, ArrayOf, Parts, fuse_type}
use Rattle.al_expr_types.specs.Types.{arrays_of, base_type, type_in}
use Rattle.al_expr_types.specs.declared.ty.Base.{Base}
use Rattle.al_expr_types.specs.declared.ty.Ty.{Ty}
use Rattle.al_expr_types.proofs.Fusing.{beside_array, fuse_even, fuse_uneven}

-- of another depth
pub uneven : (ms : List Parts) (j m : ℕ) (x : Type') (b t : Ty) → ((a : Type') → fuse_type x (ArrayOf a) ≡ Any) → (j ≡ b.arrays → ⊥) → m ≡ min j b.arrays →
    type_in ms t ≡ arrays_of m Any → type_in ms t ≡ fuse_type (arrays_of j x) (type_in ms b)
uneven ms j m x b t beside ne is e = e ∙ sym (fuse_uneven j b.arrays m x (base_type ms b.of) beside (λ a. (beside_array ms b.of a).0) ne is)

-- of the same depth
pub even : (ms : List Parts) (j : ℕ) (x : Type') (b : Ty) (y : Base) (r : Type') → j ≡ b.arrays → b.of ≡ y → fuse_type x (base_type ms y) ≡ r →
    arrays_of j r ≡ fuse_type (arrays_of j x) (type_in ms b)
even ms j x b y r e by h =
    sym (ap (λ k. fuse_type (arrays_of j x) (arrays_of k (base_type ms b.of))) (sym e) ∙ fuse_even j x (base_type ms b.of)
    ∙ ap (arrays_of j) (ap (λ z. fuse_type x (base_type ms z)) by ∙ h))
