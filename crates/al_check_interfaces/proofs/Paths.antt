-- Bytes as paths.
use Rattle.std.proofs.Common.{◌≡◌, ℕ, Bool, true, false, List, Option, Some, None, cond, ◌&&◌, ap, refl}
use Rattle.std.specs.Option.{is_none}
use Rattle.std.specs.Str.{IsUtf8, is_utf8}
use Rattle.std.proofs.lemmas.Str.{IsUtf8-from_is_utf8, is_utf8-from_IsUtf8}
use Rattle.al_base.specs.Paths.{path_fault_of}
use Rattle.al_base.specs.declared.paths.PathFault.{PathFault}
use Rattle.al_check_interfaces.specs.Forms.{path_in}

when_no_text : (b : Bool) (bs : List ℕ) (o : Option PathFault) → (b ≡ true → ⊥) → None ≡ cond (b && is_none o) (Some bs) None
when_no_text true bs o h = absurd (h refl)
when_no_text false bs o h = refl

pub no_text : (bs : List ℕ) → (IsUtf8 bs → ⊥) → None ≡ path_in bs
no_text bs h = when_no_text (is_utf8 bs) bs (path_fault_of bs) (λ e. h (IsUtf8-from_is_utf8 bs e))

-- UTF-8 bytes are a path if and only if they have no path fault
pub as_text : (bs : List ℕ) → IsUtf8 bs → path_in bs ≡ cond (is_none (path_fault_of bs)) (Some bs) None
as_text bs u = ap (λ b. cond (b && is_none (path_fault_of bs)) (Some bs) None) (is_utf8-from_IsUtf8 bs u)
