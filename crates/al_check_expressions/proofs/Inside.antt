-- Each fault of an expression is within the file.
use Rattle.std.proofs.Common.{◌≡◌, ◌≤◌, ◌<◌, ◌+◌, ◌-◌, ℕ, List, [], ◌∷◌, length, drop, map, arith, Bool, true, false, cond}
use Rattle.std.proofs.Common.{nat_eq, ◌&&◌, ◌||◌, not, Option, Some, None, refl, inl, inr}
use Rattle.std.specs.Prelude.{slice_range}
use Rattle.std.specs.List.{flat_map}
use Rattle.std.specs.Option.{option_map_or, option_to_list}
use Rattle.std.proofs.lemmas.Bool.Decides.{nat_tests}
use Rattle.std.proofs.lemmas.Bool.{cases_lt}
use Rattle.std.proofs.lemmas.List.{length-map, length-take}
use Rattle.std.proofs.lemmas.List.Elements.{recursion_from_All}
use Rattle.al_base.proofs.Elements.{each_as, each_both, each_either, each_of}
use Rattle.al_base.specs.Spans.{LiesIn}
use Rattle.al_base.specs.declared.codes.ExpressionCode.TheVariants as code
use Rattle.al_base.specs.declared.faults.Fault.{Fault}
use Rattle.al_base.specs.declared.faults.Span.{Span}
use Rattle.al_scalar.specs.Offsets.{IsFrom, IsPlaced, reach}
use Rattle.al_scalar.specs.Scalar.{Scalar, offset_of, text_of}
use Rattle.al_expr_grammar.specs.Building.{tree_of_content}
use Rattle.al_expr_grammar.specs.Chunks.{chunks_of}
use Rattle.al_expr_grammar.specs.Extents.{extent}
use Rattle.al_expr_grammar.specs.Refusal.{expression_fault, fault_of_content}
use Rattle.al_expr_grammar.specs.Tree.{Tree}
use Rattle.al_expr_grammar.proofs.Inside.{TreeLies, chunks_lie, content_fault_lies, extent_lies, tree_lies}
use Rattle.al_expr_grammar.proofs.Spelled.{only_spelled}
use Rattle.al_expr_names.specs.Scopes.{Scope}
use Rattle.al_types.specs.Types.{Type', is_collection}
use Rattle.al_expr_typing.specs.Meaning.{faults_found, meaning_of, type_found}
use Rattle.al_expr_typing.proofs.Inside.{meaning_lies}
use Rattle.al_yaml_tree.specs.Node.{Node}
use Rattle.al_yaml_tree.specs.Spans.{AreFrom, IsLaid}
use Rattle.al_tree.specs.declared.files.FileKind.{FileKind}
use Rattle.al_check_places.specs.Places.{Place, places_of}
use Rattle.al_check_contexts.specs.Contexts.{OutputNames}
use Rattle.al_check_contexts.specs.Scopes.{scope_at}
use Rattle.al_check_expressions.specs.FileExpressions.{expression_faults}
use Rattle.al_expr_grammar.specs.Lone.{is_lone_chunk}
use Rattle.al_expr_grammar.specs.declared.lone.Around.TheVariants.{Nothing}
use Rattle.al_check_expressions.specs.Contents.{chunk_faults, chunked_faults, collection_faults, content_faults, is_whole, span_in_file, fault_in_file, place_faults, tree_faults}
use Rattle.al_expr_grammar.specs.Inside.{AllLie}
use Rattle.al_check_expressions.specs.Inside.{IsThere}
use Rattle.al_scalar.proofs.Locating.{offset_or-end}
use Rattle.al_scalar.proofs.PlacedLemmas.{offset-order}
use Rattle.al_check_expressions.proofs.Places.{places_there}

abbrev Lies : ℕ → Fault → Type 0
Lies size f = LiesIn size f.span

-- ---- the faults of a scalar's text, by their positions in the file

module _ (size : ℕ) (s : Scalar) (there : LiesIn size s.span) (p : IsPlaced 1048576 s) (from : IsFrom size s) where
  inside_at : (i : ℕ) → offset_of s i ≤ size
  inside_at i = elim (cases_lt i (length (text_of s))) [
    | inl h ↦ let below = from i h in omega (arith, below)
    | inr h ↦
        let same = length-map s.cells (λ c. c.0) in
        let e : offset_of s i ≡ s.span.end = offset_or-end s.cells s.span.end i (omega (arith, h, same)) in
        let in_file = there.inside in
        omega (arith, e, in_file)
  ]

  located_at : (t : Bool) (i j : ℕ) → nat_eq i j ≡ t → i ≤ j → j ≤ length (text_of s)
      → LiesIn size (cond t (record { start = offset_of s i; end = offset_of s i })
      (record { start = offset_of s i; end = offset_of s (j - 1) + 1 }))
  located_at true i j e o h = let here = inside_at i in record { ordered = omega arith; inside = here }
  located_at false i j e o h =
      let apart : i < j = grind (arith, nat_tests) in
      let same = length-map s.cells (λ c. c.0) in
      let last : offset_of s (j - 1) < size = from (j - 1) (omega (arith, apart, h)) in
      let up : offset_of s i ≤ offset_of s (j - 1) =
      offset-order s.span.start (reach 1048576 s.style s.span.end) s.span.end s.cells i (j - 1) p.rising (omega (arith, apart)) (omega (arith, apart, h, same)) in
      record { ordered = omega (arith, up); inside = omega (arith, last) }

  located_lies : (i j : ℕ) → i ≤ j → j ≤ length (text_of s) → LiesIn size (span_in_file s i j)
  located_lies i j o h = located_at (nat_eq i j) i j refl o h

  moved_lie : (by n : ℕ) (fs : List Fault) → AllLie n fs → by + n ≤ length (text_of s) → AllLie size (map (fault_in_file s by) fs)
  moved_lie by n fs l h =
      each_as (Lies n) (Lies size) (fault_in_file s by)
      (λ f p. let o = p.ordered in let i = p.inside in located_lies (by + f.span.start) (by + f.span.end) (omega (arith, o)) (omega (arith, i, h))) fs l

-- ---- the faults of a content

by_fault : (n : ℕ) (o : Option Fault) (rest : List Fault) → AllLie n (option_to_list o) → (o ≡ None → AllLie n rest) → AllLie n (option_map_or (λ f. f ∷ []) o rest)
by_fault n None rest a b = b refl
by_fault n (Some f) rest a b = a

content_tree_lies : (content : List ℕ) → fault_of_content content ≡ None → TreeLies (length content) 0 (tree_of_content content)
content_tree_lies content none =
    let s = only_spelled content (tree_of_content content) none refl in
    tree_lies content s.tokens (tree_of_content content) s.reads s.derives

collection_lies : (n : ℕ) (alone only : Bool) (ty : Type') (t : Tree) → TreeLies n 0 t → AllLie n (collection_faults alone only ty t)
collection_lies n alone only ty t l = each_either (Lies n) (is_collection ty && (not alone || only)) (expression_fault code.NotText (extent t) [] ∷ []) [] (extent_lies n t l, tt) tt

tree_faults_lie : (n : ℕ) (sc : Scope) (alone only : Bool) (t : Tree) → TreeLies n 0 t → AllLie n (tree_faults sc alone only t)
tree_faults_lie n sc alone only t l =
    each_both (Lies n) (faults_found (meaning_of sc t)) (collection_faults alone only (type_found (meaning_of sc t)) t) (meaning_lies n t sc false 0 l)
    (collection_lies n alone only (type_found (meaning_of sc t)) t l)

content_lies : (sc : Scope) (alone only : Bool) (content : List ℕ) → AllLie (length content) (content_faults sc alone only content)
content_lies sc alone only content =
    by_fault (length content) (fault_of_content content) (tree_faults sc alone only (tree_of_content content)) (content_fault_lies content)
    (λ none. tree_faults_lie (length content) sc alone only (tree_of_content content) (content_tree_lies content none))

-- ---- the faults at a place

module _ (size : ℕ) (sc : Scope) (only : Bool) (s : Scalar) (there : LiesIn size s.span) (p : IsPlaced 1048576 s) (from : IsFrom size s) where
  chunk_lies : (c : Span) → LiesIn (length (text_of s)) c → AllLie size (chunk_faults sc only s c)
  chunk_lies c i =
      let ordered = i.ordered in
      let inside = i.inside in
      let cut = length-take (c.end - c.start) (drop c.start (text_of s)) in
      moved_lie size s there p from c.start (length (slice_range (text_of s) c.start c.end)) (content_faults sc (is_lone_chunk Nothing (text_of s)) only (slice_range (text_of s) c.start c.end))
      (content_lies sc (is_lone_chunk Nothing (text_of s)) only (slice_range (text_of s) c.start c.end)) (omega (arith, cut, ordered, inside))

  chunked_lies : AllLie size (chunked_faults sc only s (chunks_of (text_of s)))
  chunked_lies =
      let all = chunks_lie (text_of s) in
      each_both (Lies size) (flat_map (chunk_faults sc only s) (chunks_of (text_of s)).chunks)
      (map (fault_in_file s 0) (option_to_list (chunks_of (text_of s)).fault))
      (each_of (λ c. LiesIn (length (text_of s)) c) (Lies size) (chunk_faults sc only s) chunk_lies (chunks_of (text_of s)).chunks all.0)
      (moved_lie size s there p from 0 (length (text_of s)) (option_to_list (chunks_of (text_of s)).fault) all.1 (omega arith))

  whole_lies : AllLie size (map (fault_in_file s 0) (content_faults sc true only (text_of s)))
  whole_lies = moved_lie size s there p from 0 (length (text_of s)) (content_faults sc true only (text_of s)) (content_lies sc true only (text_of s)) (omega arith)

place_lies : (size : ℕ) (sc : Scope) (p : Place) → IsThere size p → AllLie size (place_faults sc p)
place_lies size sc p is =
    each_either (Lies size) (is_whole p) (map (fault_in_file p.word 0) (content_faults sc true p.is_scalar_only (text_of p.word)))
    (chunked_faults sc p.is_scalar_only p.word (chunks_of (text_of p.word)))
    (whole_lies size sc p.is_scalar_only p.word is.span is.placed is.from) (chunked_lies size sc p.is_scalar_only p.word is.span is.placed is.from)

pub expression_faults_lie : (size : ℕ) (kind : FileKind) (known : OutputNames) (root : Node) → IsLaid size root → AreFrom size root → AllLie size (expression_faults kind known root)
expression_faults_lie size kind known root w f =
    let scope = scope_at kind known root in
    each_of (IsThere size) (Lies size) (λ p. place_faults (scope p) p) (λ p is. place_lies size (scope p) p is) (places_of kind root)
    (recursion_from_All (IsThere size) (places_of kind root) (places_there size kind root w f))
