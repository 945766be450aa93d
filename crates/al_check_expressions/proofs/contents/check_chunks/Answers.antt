use Rattle.std.proofs.Common.{rules, arith, ◌≡◌, ◌∙◌, ◌++◌, ◌≤◌, ℕ, List, All, ap, append_assoc, drop, length, map, sym}
use Rattle.std.specs.List.{flat_map}
use Rattle.std.proofs.lemmas.Grind.{common_steps}
use Rattle.std.proofs.lemmas.List.{append-nil, drop_all}
use Rattle.al_base.proofs.Growing.{begins_trans}
use Rattle.al_base.specs.declared.faults.Fault.{Fault}
use Rattle.al_base.specs.declared.faults.Span.{Span}
use Rattle.al_expr_grammar.specs.Chunks.{IsCutFrom, chunks_of, span_of_chunk}
use Rattle.al_expr_typing.proofs.Shown.{scope_stays, shown_stays}
use Rattle.al_scalar.specs.Scalar.{text_of}
use Rattle.al_expr_grammar.specs.Lone.{is_lone_chunk}
use Rattle.al_expr_grammar.specs.declared.lone.Around.TheVariants.{Nothing}
use Rattle.al_expr_grammar.proofs.LoneChunks.{lone_if_short}
use Rattle.al_check_expressions.proofs.contents.check_chunks.Goals as goal

pub loop-chunk-preserved : goal.loop-chunk-preserved
loop-chunk-preserved c =
    let was = c.loop-chunk.invariant in
    let made = c.in_ok-check_expression.ensures in
    let scope = c.args.scope.now in
    let bytes = text_of c.args.place.now.scalar.now in
    let cut : All (IsCutFrom bytes) c.deref-chunk-items.result.now = search rules in
    let alone : c.is_lone.result ≡ is_lone_chunk Nothing bytes = search (rules, lone_if_short Nothing bytes c.requires.readable.utf8 c.requires.readable.small) in
    record {
      shown = shown_stays c.check_expression.new.types c.loop-chunk.types scope was.shown made.kept;
      kept = begins_trans _ _ _ was.kept made.kept;
      all = grind (
        arith,
        common_steps,
        rw (scope_stays c.loop-chunk.types c.args.types.now scope was.kept c.requires.shown, cut c.loop-chunk.chunk-index _ c.loop-chunk-test.true, alone) at made.ok,
      );
      fault = was.fault;
    }

-- the faults of all chunks, after the last one
all_found : {X : Type 0} (f : Span → List Fault) (g : X → Span) (xs : List X) (i : ℕ) (spans : List Span) (old now : List Fault) → length xs ≤ i →
    map g xs ≡ spans → now ++ flat_map f (map g (drop i xs)) ≡ old ++ flat_map f (map g xs) → now ≡ old ++ flat_map f spans
all_found f g xs i spans old now h same e =
    sym (append-nil now) ∙ ap (λ l. now ++ flat_map f (map g l)) (sym (drop_all i xs h)) ∙ e ∙ ap (λ l. old ++ flat_map f l) same

pub returns-in-Some-clause-ok : goal.returns-in-Some-clause-ok
returns-in-Some-clause-ok c =
    let spans = ap (map span_of_chunk) c.deref-chunk-items.ensures.value ∙ c.in_ok-found.ensures.spans ∙ ap (λ t. (chunks_of t).chunks) c.as_str-content.ensures in
    let all = all_found _ _ _ _ _ _ _ (omega (arith, c.loop-chunk-test.false)) spans c.loop-chunk.invariant.all in
    let fault = sym c.loop-chunk.invariant.fault ∙ c.in-Some.is in
    rw (fault, ← append_assoc) (rw (all, c.move_fault.ensures) at c.push.ensures)

pub returns-clause-ok : goal.returns-clause-ok
returns-clause-ok c =
    let spans = ap (map span_of_chunk) c.deref-chunk-items.ensures.value ∙ c.in_ok-found.ensures.spans ∙ ap (λ t. (chunks_of t).chunks) c.as_str-content.ensures in
    let all = all_found _ _ _ _ _ _ _ (omega (arith, c.loop-chunk-test.false)) spans c.loop-chunk.invariant.all in
    let none = sym c.loop-chunk.invariant.fault ∙ c.in-None.is in
    rw none (all ∙ ap (λ l. c.args.faults.now ++ l) (sym (append-nil _)))
