use Rattle.std.proofs.Common.{◌≡◌, ◌∙◌, ◌-◌, ℕ, List, [], ◌∷◌, All, Option, ap, arith, get_or, length, map, rules, sym, true}
use Rattle.std.proofs.lemmas.Bool.Decides.{nat_tests}
use Rattle.std.specs.Prelude.{slice_range}
use Rattle.al_base.specs.declared.faults.Fault.{Fault}
use Rattle.al_expr_grammar.specs.Chunks.{IsCutFrom, chunks_of, span_of_chunk}
use Rattle.al_expr_grammar.specs.declared.chunk.Chunk.{Chunk}
use Rattle.al_expr_grammar.specs.Lone.{is_lone}
use Rattle.al_expr_grammar.specs.declared.lone.Around.TheVariants.{Nothing}
use Rattle.al_expr_grammar.proofs.LoneChunks.{lone_content}
use Rattle.al_check_calls.proofs.types.content_of.Goals as goal

-- the content of the only chunk
content : (text : List ℕ) (xs : List Chunk) (f : Option Fault) (x : Chunk) → All (IsCutFrom text) xs → map span_of_chunk xs ≡ (chunks_of text).chunks
    → is_lone Nothing text (map span_of_chunk xs) f ≡ true → x ≡ get_or xs 0 x → x.content.now ≡ slice_range text 3 (length text - 2)
content text [] f x cut e lone is = absurd cc
content text (y ∷ []) f x cut e lone is =
    let ends = lone_content text y.span f (sym e) lone in
    ap (λ (c : Chunk). c.content.now) is ∙ cut 0 y (omega arith) ∙ ap (λ i. slice_range text i y.span.end) ends.0
    ∙ ap (λ j. slice_range text 3 j) ends.1
content text (y ∷ z ∷ xs) f x cut e lone is = absurd cc

pub returns : goal.returns
returns c =
    let lone : is_lone Nothing c.args.text.now (map span_of_chunk c.args.chunks.now) c.args.fault.now ≡ true = grind (arith, nat_tests, c.is_lone.ensures, c.if-not-is_lone.false) in
    let found : c.in_ok-first.field-0.now ≡ get_or c.args.chunks.now 0 c.in_ok-first.field-0.now = search rules in
    (lone, content c.args.text.now c.args.chunks.now c.args.fault.now c.in_ok-first.field-0.now c.requires.cut c.requires.found lone found)
