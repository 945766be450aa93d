use Rattle.std.proofs.Common.{◌≡◌, ◌∙◌, ◌≤◌, ◌-◌, List, Bool, Option, true, false, cond, ap, length, map, refl, rules, sym}
use Rattle.std.proofs.lemmas.Bool.Decides.{nat_tests}
use Rattle.std.specs.Prelude.{slice_range}
use Rattle.std.specs.Str.{IsUtf8}
use Rattle.al_base.specs.declared.faults.Fault.{Fault}
use Rattle.al_base.specs.declared.faults.Span.{Span}
use Rattle.al_expr_grammar.specs.Chunks.{chunks_of, span_of_chunk}
use Rattle.al_expr_typing.specs.Scopes.{scope_view}
use Rattle.al_expr_grammar.specs.Lone.{is_lone, is_lone_chunk}
use Rattle.al_expr_grammar.specs.declared.lone.Around.TheVariants.{Nothing}
use Rattle.al_expr_grammar.proofs.LoneChunks.{lone_if_short}
use Rattle.al_scalar.specs.Scalar.{Scalar, text_of}
use Rattle.al_tree.specs.Faults.{has_chunk}
use Rattle.al_types.specs.Types.{Type', String}
use Rattle.al_check_objects.specs.Scalars.{scalar_type_with}
use Rattle.al_check_calls.specs.Types.{content_type}
use Rattle.al_check_calls.proofs.types.scalar_type.Goals as goal

-- a text with these chunks and this fault after them, which is one expression or not
by_chunks : (one : Type') (s : Scalar) (spans : List Span) (fault : Option Fault) (lone : Bool) → IsUtf8 (text_of s) → length (text_of s) ≤ 4194304
    → spans ≡ (chunks_of (text_of s)).chunks → fault ≡ (chunks_of (text_of s)).fault → has_chunk (text_of s) ≡ true
    → is_lone Nothing (text_of s) spans fault ≡ lone → scalar_type_with one s ≡ cond lone one String
by_chunks one s spans fault lone u h es ef has is =
    let whole : is_lone_chunk Nothing (text_of s) ≡ lone =
    sym (lone_if_short Nothing (text_of s) u h) ∙ ap (λ cs. is_lone Nothing (text_of s) cs (chunks_of (text_of s)).fault) (sym es)
    ∙ ap (λ f. is_lone Nothing (text_of s) spans f) (sym ef) ∙ is in
    rw (has, whole) refl

pub returns-in-None-clause-ty : goal.returns-in-None-clause-ty
returns-in-None-clause-ty c =
    let s = c.args.scalar.now in
    let has : has_chunk (text_of s) ≡ true = search (rules, nat_tests) in
    let spans : map span_of_chunk c.as_slice.result.now ≡ (chunks_of (text_of s)).chunks = search rules in
    let fault : c.in_ok-found.fault ≡ (chunks_of (text_of s)).fault = search rules in
    let lone : is_lone Nothing (text_of s) (map span_of_chunk c.as_slice.result.now) c.in_ok-found.fault ≡ false = search rules in
    sym (by_chunks _ s _ _ false c.requires.utf8 c.requires.small spans fault has lone)

pub returns-clause-ty : goal.returns-clause-ty
returns-clause-ty c =
    let s = c.args.scalar.now in
    let has : has_chunk (text_of s) ≡ true = search (rules, nat_tests) in
    let spans : map span_of_chunk c.as_slice.result.now ≡ (chunks_of (text_of s)).chunks = search rules in
    let fault : c.in_ok-found.fault ≡ (chunks_of (text_of s)).fault = search rules in
    let lone : is_lone Nothing (text_of s) (map span_of_chunk c.as_slice.result.now) c.in_ok-found.fault ≡ true = search rules in
    let cut : c.in-Some.content.now ≡ slice_range (text_of s) 3 (length (text_of s) - 2) = search rules in
    let one = content_type (scope_view c.args.types.now c.args.scope.now) (slice_range (text_of s) 3 (length (text_of s) - 2)) in
    rw (by_chunks one s _ _ true c.requires.utf8 c.requires.small spans fault has lone, ← cut) c.content_type.ensures.ty
