-- Which answer belongs to which call, and the faults of all calls of files in the folder that a
-- file has.
use Rattle.std.specs.Prelude.{List, [], ◌∷◌, drop, Option, None, option_map, slice_index_or}
use Rattle.std.specs.List.{cons_option, flat_map}
use Rattle.std.specs.Option.{option_map_or}
use Rattle.al_base.specs.declared.faults.Fault.{Fault}
use Rattle.al_scalar.specs.Scalar.{Scalar}
use Rattle.al_types.specs.Types.{Type'}
use Rattle.al_yaml_tree.specs.Node.{Node}
use Rattle.al_tree.specs.declared.files.FileKind.{FileKind}
use Rattle.al_check_interfaces.specs.declared.interfaces.Interface.{Interface}
use Rattle.al_check_interfaces.specs.declared.interfaces.ParameterKind.TheVariants.{Input}
use Rattle.al_check_interfaces.specs.Uses.{Call, Site, calls_in, target_in}
use Rattle.al_check_calls.specs.CallFaults.{Given, call_faults, given_by, values_of}

-- a call of a file in the folder with its answer: the next of the answers, which are in the order
-- of these calls
pub record Answered : Type 0 where
  pub call : Call
  pub answer : Option Interface

abbrev pub answered_by : Call → Option Interface → Answered
answered_by c answer = record { call = c; answer = answer }

abbrev pub calls_with_answers : List Call → List (Option Interface) → List Answered
calls_with_answers [] answers = []
calls_with_answers (c ∷ cs) answers =
    cons_option (option_map (λ t. answered_by c (slice_index_or answers 0 None)) (target_in c.form))
    (calls_with_answers cs (option_map_or (λ t. drop 1 answers) (target_in c.form) answers))

-- the type of a value that a call passes, by its key and its scalar
abbrev pub Typing : Type 0
Typing = Site → Scalar → Scalar → Type'

-- the values under `with` of a call, each with its type
abbrev pub values_in : Typing → Call → List Given
values_in typing c = values_of (typing c.site) (given_by Input c.site.node)

abbrev pub answered_faults : Typing → Answered → List Fault
answered_faults typing a = call_faults a.call (values_in typing a.call) a.answer

-- The faults of all calls of files in the folder that a file has, given their answers in order.
abbrev pub call_faults_in : FileKind → Typing → Node → List (Option Interface) → List Fault
call_faults_in kind typing root answers =
    flat_map (answered_faults typing) (calls_with_answers (calls_in kind root) answers)
