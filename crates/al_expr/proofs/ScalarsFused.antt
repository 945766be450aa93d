-- A scalar fused with an array or an object is `Any`; for `fuse_scalar`.
use Rattle.std.proofs.Common.{◌≡◌, ℕ, List, refl}
use Rattle.al_types.specs.Types.{Type', Any, ArrayOf, ObjectOf, Optional, fuse_type}
use Rattle.al_expr_types.specs.Types.{scalar_type}
use Rattle.al_expr_types.specs.declared.ty.Scalar.{Scalar}
use Rattle.al_expr_types.specs.declared.ty.Scalar.TheVariants as scalar

pub scalar_array : (s : Scalar) (a : Type') → fuse_type (scalar_type s) (ArrayOf a) ≡ Any
scalar_array scalar.Any a = refl
scalar_array _ a = refl

pub scalar_object : (s : Scalar) (at : List ℕ → Optional) (rest all : Optional) → fuse_type (scalar_type s) (ObjectOf at rest all) ≡ Any
scalar_object scalar.Any at rest all = refl
scalar_object _ at rest all = refl

pub ruleset with_part = (scalar_array, scalar_object)
