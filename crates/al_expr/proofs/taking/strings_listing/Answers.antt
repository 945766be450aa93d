use Rattle.std.proofs.Common.{◌∙◌, ap, arith, map}
use Rattle.std.proofs.lemmas.List.{take_all}
use Rattle.std.proofs.lemmas.Result.{IfOk-weaker}
use Rattle.al_types.specs.Puts.{firsts}
use Rattle.al_types.specs.Strings.{strings}
use Rattle.al_types.specs.Types.{Absent, parts_with}
use Rattle.al_types.proofs.StringFields.{first_strings}
use Rattle.al_expr.specs.Trees.{field_of}
use Rattle.al_expr.proofs.taking.strings_listing.Goals as goal

pub returns : goal.returns
returns c =
    let ns = c.args.names.now in
    let all = c.loop-i.invariant ∙ ap strings (take_all c.loop-i.i ns (omega (arith, c.loop-i-test.false, c.len-i-end.ensures))) in
    let read = ap (map field_of) c.as_slice.ensures.value ∙ all in
    IfOk-weaker c.of.result _ _ (λ l is. is ∙ ap (λ ts. parts_with (firsts ts) Absent) read ∙ first_strings ns) c.of.ensures
