-- Interfaces that compare equal are equal.
use Rattle.std.specs.Prelude.{◌≡◌, ℕ, List, [], ◌∷◌, Bool, true, ◌&&◌, Option, Some, None, bytes_eq}
use Rattle.std.proofs.Common.{refl, ap}
use mathlib.Core.Bool.{beq}
use Rattle.std.specs.Cmp.{booleans_Decides}
use Rattle.std.specs.Cmp.Lexicographic.{pointwise}
use Rattle.std.specs.Option.{option_eq}
use Rattle.std.proofs.lemmas.Bool.{and_parts}
use Rattle.std.proofs.lemmas.Slice.Eq.{bytes_eq-Decides}
use Rattle.al_tree.specs.declared.inputs.InputType.{InputType}
use Rattle.al_tree.specs.declared.inputs.InputType.TheVariants as T
use Rattle.al_tree.specs.contracts.inputs.InputTypePartialEq.TheImpl as takes
use Rattle.al_check_interfaces.specs.declared.interfaces.Interface.{Interface}
use Rattle.al_check_interfaces.specs.declared.interfaces.Interface.TheVariants.{Readable, Unreadable}
use Rattle.al_check_interfaces.specs.declared.interfaces.Role.{Role}
use Rattle.al_check_interfaces.specs.declared.interfaces.Role.TheVariants as R
use Rattle.al_check_interfaces.specs.declared.interfaces.Parameter.{Parameter}
use Rattle.al_check_interfaces.specs.declared.interfaces.Signature.{Signature}
use Rattle.al_check_interfaces.specs.contracts.interfaces.RolePartialEq.TheImpl as role
use Rattle.al_check_interfaces.specs.contracts.interfaces.ParameterPartialEq.TheImpl as one
use Rattle.al_check_interfaces.specs.contracts.interfaces.SignaturePartialEq.TheImpl as shown
use Rattle.al_check_interfaces.specs.contracts.interfaces.InterfacePartialEq.TheImpl as iface

both : {a b : Bool} {P Q : Type 0} → (a ≡ true → P) → (b ≡ true → Q) → (a && b) ≡ true → P × Q
both {a} {b} f g h = let parts = and_parts a b h in (f parts.0, g parts.1)

lists_exact : {A : Type 0} (eq : A → A → Bool) → ((x y : A) → eq x y ≡ true → x ≡ y) → (xs ys : List A) → pointwise eq xs ys ≡ true → xs ≡ ys
lists_exact eq same [] [] h = refl
lists_exact eq same (x ∷ xs) (y ∷ ys) h = let e = both (same x y) (lists_exact eq same xs ys) h in λ i. e.0 i ∷ e.1 i
lists_exact eq same _ _ h = absurd cc

bool_exact : (a b : Bool) → beq a b ≡ true → a ≡ b
bool_exact a b = (booleans_Decides a b).0

type_exact : (a b : InputType) → takes.ghosts.eq a b ≡ true → a ≡ b
type_exact T.Boolean T.Boolean h = refl
type_exact T.Number T.Number h = refl
type_exact T.String T.String h = refl
type_exact _ _ h = absurd cc

role_exact : (a b : Role) → role.ghosts.eq a b ≡ true → a ≡ b
role_exact R.Workflow R.Workflow h = refl
role_exact R.Callable R.Callable h = refl
role_exact R.Composite R.Composite h = refl
role_exact R.Action R.Action h = refl
role_exact _ _ h = absurd cc

name_exact : (a b : List ℕ) → bytes_eq a b ≡ true → a ≡ b
name_exact a b = (bytes_eq-Decides a b).0

option_exact : (a b : Option (List ℕ)) → option_eq bytes_eq a b ≡ true → a ≡ b
option_exact None None h = refl
option_exact (Some a) (Some b) h = ap Some (name_exact a b h)
option_exact _ _ h = absurd cc

one_exact : (a b : Parameter) → one.ghosts.eq a b ≡ true → a ≡ b
one_exact a b h =
    let e = both (name_exact a.name b.name) (both (bool_exact a.required b.required) (both (bool_exact a.has_default b.has_default) (type_exact a.takes b.takes))) h in
    λ i. record { name = e.0 i; required = e.1.0 i; has_default = e.1.1.0 i; takes = e.1.1.1 i }

shown_exact : (a b : Signature) → shown.ghosts.eq a b ≡ true → a ≡ b
shown_exact a b h =
    let parameters = lists_exact one.ghosts.eq one_exact in
    let e = both (option_exact a.name b.name) (both (role_exact a.role b.role) (both (parameters a.inputs b.inputs)
    (both (parameters a.secrets b.secrets) (lists_exact bytes_eq name_exact a.outputs b.outputs)))) h in
    λ i. record { name = e.0 i; role = e.1.0 i; inputs = e.1.1.0 i; secrets = e.1.1.1.0 i; outputs = e.1.1.1.1 i }

pub exact : (a b : Interface) → iface.ghosts.eq a b ≡ true → a ≡ b
exact Unreadable Unreadable h = refl
exact (Readable a) (Readable b) h = ap Readable (shown_exact a b h)
exact _ _ h = absurd cc
