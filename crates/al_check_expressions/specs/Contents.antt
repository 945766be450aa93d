-- The faults of the expressions in a scalar, with their spans in the file.
use Rattle.std.specs.Prelude.{ℕ, List, [], ◌∷◌, ◌++◌, ◌+◌, ◌-◌, ◌==◌, ◌<◌, ◌^◌, Bool, true}
use Rattle.std.specs.Prelude.{◌||◌, ◌&&◌, not, map}
use Rattle.std.specs.Prelude.{slice_range, if◌then◌else◌}
use Rattle.std.specs.List.{flat_map}
use Rattle.std.specs.Option.{option_map_or, option_to_list}
use Rattle.al_base.specs.declared.codes.ExpressionCode.TheVariants as code
use Rattle.al_base.specs.declared.faults.Fault.{Fault}
use Rattle.al_base.specs.declared.faults.Span.{Span}
use Rattle.al_scalar.specs.Scalar.{Scalar, offset_of, text_of}
use Rattle.al_expr_grammar.specs.Building.{tree_of_content}
use Rattle.al_expr_grammar.specs.Chunks.{Chunked, chunks_of}
use Rattle.al_expr_grammar.specs.Extents.{extent}
use Rattle.al_expr_grammar.specs.Refusal.{expression_fault, fault_of_content}
use Rattle.al_expr_grammar.specs.Tree.{Tree}
use Rattle.al_expr_names.specs.Scopes.{Scope}
use Rattle.al_expr_grammar.specs.Lone.{is_lone_chunk}
use Rattle.al_expr_grammar.specs.declared.lone.Around.TheVariants.{Nothing}
use Rattle.al_types.specs.Types.{Type', is_collection}
use Rattle.al_expr_typing.specs.Meaning.{faults_found, meaning_of, type_found}
use Rattle.al_tree.specs.Faults.{has_chunk}
use Rattle.al_check_places.specs.Places.{Place}

-- there is an offset after each byte of the text, and after the scalar
abbrev pub HasRoom : Scalar → Type 0
HasRoom s = (i : ℕ) → offset_of s i + 1 < 2 ^ 32

-- the span in the file of the bytes of a scalar's text between two indexes; an empty one is at the
-- first
abbrev pub span_in_file : Scalar → ℕ → ℕ → Span
span_in_file s i j =
    if i == j then record { start = offset_of s i; end = offset_of s i }
    else record { start = offset_of s i; end = offset_of s (j - 1) + 1 }

-- a fault of an expression that begins at an index
abbrev pub fault_in_file : Scalar → ℕ → Fault → Fault
fault_in_file s by f = record f { span = span_in_file s (by + f.span.start) (by + f.span.end) }

-- X18: an object or array with other text around it, or where only a scalar is accepted
abbrev pub collection_faults : Bool → Bool → Type' → Tree → List Fault
collection_faults is_lone is_scalar_only t tree =
    if is_collection t && (not is_lone || is_scalar_only) then
    expression_fault code.NotText (extent tree) [] ∷ [] else []

abbrev pub tree_faults : Scope → Bool → Bool → Tree → List Fault
tree_faults sc is_lone is_scalar_only tree =
    faults_found (meaning_of sc tree)
    ++ collection_faults is_lone is_scalar_only (type_found (meaning_of sc tree)) tree

-- an expression with X1 to X6 has no other fault
abbrev pub content_faults : Scope → Bool → Bool → List ℕ → List Fault
content_faults sc is_lone is_scalar_only bytes =
    option_map_or (λ f. f ∷ []) (fault_of_content bytes)
    (tree_faults sc is_lone is_scalar_only (tree_of_content bytes))

abbrev pub chunk_faults : Scope → Bool → Scalar → Span → List Fault
chunk_faults sc is_scalar_only s c =
    map (fault_in_file s c.start)
    (content_faults sc (is_lone_chunk Nothing (text_of s)) is_scalar_only
    (slice_range (text_of s) c.start c.end))

abbrev pub chunked_faults : Scope → Bool → Scalar → Chunked → List Fault
chunked_faults sc is_scalar_only s cs =
    flat_map (chunk_faults sc is_scalar_only s) cs.chunks
    ++ map (fault_in_file s 0) (option_to_list cs.fault)

-- a condition without `${{` is one expression
abbrev pub is_whole : Place → Bool
is_whole p = p.is_condition && not (has_chunk (text_of p.word))

abbrev pub place_faults : Scope → Place → List Fault
place_faults sc p =
    if is_whole p
    then map (fault_in_file p.word 0) (content_faults sc true p.is_scalar_only (text_of p.word))
    else chunked_faults sc p.is_scalar_only p.word (chunks_of (text_of p.word))
