-- A fault by its parts.
use Rattle.std.specs.Prelude.{ℕ, List}
use Rattle.al_base.specs.declared.codes.Code.{Code}
use Rattle.al_base.specs.declared.faults.Fault.{Fault}
use Rattle.al_base.specs.declared.faults.Span.{Span}

abbrev pub fault_from : Span → Code → List (List ℕ) → Fault
fault_from at code texts = record { span = at; code = code; args = texts }
