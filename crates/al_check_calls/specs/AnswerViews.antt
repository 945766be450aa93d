-- The code's calls with their answers, and what it knows from them, as the specification has them.
use Rattle.std.specs.Prelude.{map}
use Rattle.std.specs.Option.{option_copied}
use Rattle.al_yaml_tree.specs.View.{view}
use Rattle.al_check_contexts.specs.Answered.{call_outputs, known_in, known_of}
use Rattle.al_check_contexts.specs.Contexts.{OutputNames}
use Rattle.al_check_contexts.specs.declared.env.File.{File}
use Rattle.al_check_interfaces.specs.CallViews.{call_of}
use Rattle.al_check_calls.specs.Answers.{Answered, Typing}
use Rattle.al_check_calls.specs.Types.{typing}
use Rattle.al_check_calls.specs.declared.answers.Answered as code_answers
use Rattle.al_check_calls.specs.declared.known.KnownOutputs.{KnownOutputs}

abbrev pub answered_of : code_answers.Answered → Answered
answered_of a = record { call = call_of a.call; answer = option_copied a.answer }

abbrev pub outputs_known : KnownOutputs → OutputNames
outputs_known known =
    let lists = map (λ l. l.now) known.lists.lists.items in
    known_in (map (call_outputs lists) known.answers.items)

-- the types that the calls of a file give
abbrev pub typing_in : File → Typing
typing_in f = typing f.kind (known_of f.known) (view f.root.now)
