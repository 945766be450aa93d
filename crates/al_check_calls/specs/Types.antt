-- The types of the values that calls pass to inputs.
use Rattle.std.specs.Prelude.{ℕ, List, [], ◌∷◌, ◌-◌, true, codes, length, slice_range, unwrap_or}
use Rattle.std.specs.Option.{option_map_or}
use Rattle.al_scalar.specs.Scalar.{Scalar, text_of}
use Rattle.al_yaml_tree.specs.Node.{Node}
use Rattle.al_tree.specs.declared.files.FileKind.{FileKind}
use Rattle.al_tree.specs.declared.files.FileKind.TheVariants as kind
use Rattle.al_expr_grammar.specs.Building.{tree_of_content}
use Rattle.al_expr_grammar.specs.Refusal.{fault_of_content}
use Rattle.al_expr_names.specs.Scopes.{Scope}
use Rattle.al_types.specs.Types.{Type', Any}
use Rattle.al_expr_typing.specs.Meaning.{meaning_of, type_found}
use Rattle.al_check_places.specs.Places.{Place, place_at}
use Rattle.al_check_places.specs.Ways.{under}
use Rattle.al_check_objects.specs.Scalars.{scalar_type_with}
use Rattle.al_check_contexts.specs.Contexts.{OutputNames}
use Rattle.al_check_contexts.specs.Scopes.{scope_at}
use Rattle.al_check_calls.specs.Answers.{Typing}

-- the type of an expression: any if it has a fault
abbrev pub content_type : Scope → List ℕ → Type'
content_type sc content =
    option_map_or (λ f. Any) (fault_of_content content)
    (type_found (meaning_of sc (tree_of_content content)))

-- the type of a scalar: one expression, in its braces, has its own type
abbrev pub type_of_given : Scope → Scalar → Type'
type_of_given sc s =
    let content = slice_range (text_of s) 3 (length (text_of s) - 2) in
    scalar_type_with (content_type sc content) s

-- the place of the value under a key of `with` of a job
abbrev pub place_of_value : List ℕ → Scalar → Scalar → Place
place_of_value job key s =
    let way = under (codes "jobs") ∷ under job ∷ under (codes "with") ∷ under (text_of key) ∷ [] in
    place_at kind.Workflow way true s

-- its type, given what expressions can refer to there
abbrev pub value_type_in_job : FileKind → OutputNames → Node → List ℕ → Scalar → Scalar → Type'
value_type_in_job kind known root job key s =
    type_of_given (scope_at kind known root (place_of_value job key s)) s

-- the types of the values that calls pass; those of steps aren't used
abbrev pub typing : FileKind → OutputNames → Node → Typing
typing kind known root site = value_type_in_job kind known root (unwrap_or site.job [])
