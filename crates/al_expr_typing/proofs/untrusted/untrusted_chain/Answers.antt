use Rattle.std.proofs.Common.{◌∷◌, ap, map, ◌∙◌, option_map}
use Rattle.std.proofs.lemmas.Result.{IfOk-weaker}
use Rattle.std.specs.List.{join_with_byte}
use Rattle.std.specs.Cmp.Lexicographic.{pointwise}
use Rattle.al_base.specs.Ascii.{ascii}
use Rattle.al_base.specs.Names.{same_name}
use Rattle.al_expr_grammar.specs.View.{step_of}
use Rattle.al_expr_typing.specs.Untrusted.{chain_part, untrusted_chains}
use Rattle.al_expr_typing.proofs.ChainTexts.{text_found}
use Rattle.al_expr_typing.proofs.untrusted.untrusted_chain.Goals as goal

pub returns : goal.returns
returns c =
    let parts = c.args.name.now ∷ map chain_part (map step_of c.args.steps.now) in
    IfOk-weaker c.chain_text.result _ _
    (λ t is. is ∙ ap (option_map (join_with_byte (ascii "."))) c.in_ok-found.ensures ∙ text_found (λ ps. pointwise same_name ps parts) untrusted_chains)
    c.chain_text.ensures
