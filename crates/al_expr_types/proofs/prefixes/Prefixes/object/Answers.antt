use Rattle.std.proofs.Common.{◌∙◌, ap, subst}
use Rattle.std.proofs.lemmas.Result.{IfOk-weaker}
use Rattle.al_expr_types.specs.Prefixes.{HasPrefix, map_in}
use Rattle.al_expr_types.specs.Tables.{objects_of}
use Rattle.al_expr_types.proofs.PrefixLemmas.{IsAfter, same_by}
use Rattle.al_expr_types.proofs.prefixes.Prefixes.object.Goals as goal

pub returns-in_ok-own-in-Some-clause-object : goal.returns-in_ok-own-in-Some-clause-object
returns-in_ok-own-in-Some-clause-object c =
    let types = c.args.types.now in
    let m = map_in c.args.self.now in
    let own = c.in_ok-own-in-Some in
    let base = subst (HasPrefix types m) c.in-Some.is c.requires.base in
    let all = c.as_slice-all.ensures.value ∙ ap (λ f. f.types.items) c.deref.ensures in
    let after = subst (λ ts. IsAfter ts c.in-Some.base.count own.own.items c.args.count) all own.ensures.part in
    IfOk-weaker c.push.result _ _
    (λ n is. is ∙ same_by (objects_of types) c.in_ok-map.map.value c.in-Some.base own.own.items m c.args.count c.in_ok-map.ensures.cases after base.1)
    c.push.ensures.number
