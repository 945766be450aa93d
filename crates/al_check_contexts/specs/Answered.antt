-- What is known of the outputs of calls, as a list.
use Rattle.std.specs.Prelude.{ℕ, List, Bool, ◌&&◌, ◌==◌, Option, option_and_then, find, map}
use Rattle.std.specs.Prelude.{slice_get}
use Rattle.std.specs.Option.{option_copied, option_eq}
use Rattle.std.specs.Str.{bytes_eq}
use Rattle.al_check_contexts.specs.Contexts.{OutputNames}
use Rattle.al_check_contexts.specs.declared.known.Answer.{Answer}
use Rattle.al_check_contexts.specs.declared.known.Answers.{Answers}

-- the names of the outputs of a job or, with its index, of a step of a job or of an action; None if
-- nothing is known of them
pub record OutputsOfCall : Type 0 where
  pub job : Option (List ℕ)
  pub step : Option ℕ
  pub names : Option (List (List ℕ))

-- whether it is about this job and step
abbrev pub is_call_at : Option (List ℕ) → Option ℕ → OutputsOfCall → Bool
is_call_at job step b = option_eq (λ i k. i == k) b.step step && option_eq bytes_eq b.job job

-- the names in the first answer for a job or a step
abbrev pub known_in : List OutputsOfCall → OutputNames
known_in bs job step = option_and_then (λ b. b.names) (find (is_call_at job step) bs)

-- the meaning of the program's answer, given the lists of names that its position refers to
abbrev pub call_outputs : List (List (List ℕ)) → Answer → OutputsOfCall
call_outputs lists a =
    record {
      job = option_copied a.job;
      step = a.step;
      names = option_and_then (slice_get lists) a.names;
    }

abbrev pub known_of : Answers → OutputNames
known_of known = known_in (map (call_outputs (map (λ l. l.now) known.lists.now)) known.answers.now)
