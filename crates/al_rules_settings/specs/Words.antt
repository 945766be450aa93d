-- Terms of the rules: texts with their spans, and faults that name them.
use Rattle.std.specs.Prelude.{ℕ, List, [], ◌∷◌, Bool, map, if◌then◌else◌}
use Rattle.std.specs.Str.Lossy.{utf8_lossy}
use Rattle.al_base.specs.declared.codes.Code.TheVariants as code
use Rattle.al_base.specs.declared.codes.RuleCode.{RuleCode}
use Rattle.al_base.specs.declared.faults.Fault.{Fault}
use Rattle.al_base.specs.declared.faults.Span.{Span}
use Rattle.al_scalar.specs.Scalar.{Scalar, text_of}
use Rattle.al_base.specs.Names.{among}

-- a text of a file, and its span
pub record Named : Type 0 where
  pub text : List ℕ
  pub span : Span

abbrev pub of_scalar : Scalar → Named
of_scalar s = record { text = text_of s; span = s.span }

-- A fault with these texts as arguments, which are UTF-8: bytes that aren't become U+FFFD, but no
-- file that was read has any.
abbrev pub rule_fault : RuleCode → Span → List (List ℕ) → Fault
rule_fault rule at texts = record { span = at; code = code.Rule rule; args = map utf8_lossy texts }

-- a fault that names a text
abbrev pub about : RuleCode → Named → List Fault
about rule n = rule_fault rule n.span (n.text ∷ []) ∷ []

-- the fault of a text, unless it is valid
abbrev pub unless : Bool → RuleCode → Named → List Fault
unless right rule n = if right then [] else about rule n

-- the fault of a text that isn't one of these
abbrev pub unless_among : RuleCode → List (List ℕ) → Named → List Fault
unless_among rule names n = unless (among names n.text) rule n
