-- The outputs known from answers: those of a composite action for a step, those of a callable
-- workflow for a job.
use Rattle.std.specs.Prelude.{ℕ, List, Bool, true, false, Option, map, option_and_then}
use Rattle.std.specs.Bool.{then_some}
use Rattle.al_check_contexts.specs.Answered.{OutputsOfCall, known_in}
use Rattle.al_check_contexts.specs.Contexts.{OutputNames}
use Rattle.al_check_interfaces.specs.Uses.{site_caller}
use Rattle.al_check_interfaces.specs.declared.interfaces.Role.{Role}
use Rattle.al_check_interfaces.specs.declared.interfaces.Role.TheVariants as role
use Rattle.al_check_calls.specs.Answers.{Answered}
use Rattle.al_check_calls.specs.CallFaults.{callable_signature}

-- which outputs an action that isn't composite sets depends on its code
abbrev pub shows_outputs : Role → Bool
shows_outputs role.Action = false
shows_outputs r = true

-- the outputs of a call, if they are known
abbrev pub called_outputs : Answered → Option (List (List ℕ))
called_outputs a =
    option_and_then (λ s. then_some (shows_outputs s.role) s.outputs)
    (callable_signature (site_caller a.call.site) a.answer)

-- what is known of the outputs of a call
abbrev pub known_of_call : Answered → OutputsOfCall
known_of_call a =
    record { job = a.call.site.job; step = a.call.site.step; names = called_outputs a }

-- what is known of the outputs of all calls of a file
abbrev pub known_from_calls : List Answered → OutputNames
known_from_calls found = known_in (map known_of_call found)
