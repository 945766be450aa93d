-- Deprecated commands in a text (GitHub, "Workflow commands").
use Rattle.std.specs.Prelude.{ℕ, List, [], ◌∷◌, ◌^◌, map, codes, ◌+◌, ◌-◌, length, nat_lt}
use Rattle.std.specs.Prelude.{if◌then◌else◌}
use Rattle.std.specs.List.{flat_map}
use Rattle.memchr.specs.Find.{matches}
use Rattle.al_base.specs.declared.codes.RuleCode.TheVariants.{DeprecatedCommand}
use Rattle.al_base.specs.declared.faults.Fault.{Fault}
use Rattle.al_base.specs.declared.faults.Span.{Span}
use Rattle.al_scalar.specs.Scalar.{Scalar, offset_of, text_of}
use Rattle.al_rules_settings.specs.Words.{rule_fault}

-- the offset after this one; no file has the offset 2^32 - 1
abbrev pub place_after : ℕ → ℕ
place_after at = if nat_lt at (2 ^ 32 - 1) then at + 1 else at

-- the span in the file of n bytes from the index i on
abbrev pub part_span : Scalar → ℕ → ℕ → Span
part_span s i n = record { start = offset_of s i; end = place_after (offset_of s (i + n - 1)) }

-- a command: the text that it begins with, and its name
abbrev pub commands : List (List ℕ × List ℕ)
commands =
    (codes "::set-output name=", codes "set-output")
    ∷ (codes "::save-state name=", codes "save-state")
    ∷ (codes "::set-env name=", codes "set-env") ∷ (codes "::add-path::", codes "add-path") ∷ []

abbrev pub command_fault : Scalar → List ℕ → List ℕ → ℕ → Fault
command_fault s needle name i =
    rule_fault DeprecatedCommand (part_span s i (length needle)) (name ∷ [])

-- each occurrence of a command from the left, without those that overlap the one before
abbrev pub one_command : Scalar → List ℕ × List ℕ → List Fault
one_command s c = map (command_fault s c.0 c.1) (matches (text_of s) c.0 0)

abbrev pub command_faults : Scalar → List Fault
command_faults s = flat_map (one_command s) commands
