use Rattle.std.proofs.Common.{◌≡◌, length, suc, ap, arith}
use Rattle.std.proofs.lemmas.Bool.{eqb-true}
use Rattle.al_scalar.proofs.RunLemmas.{goes-on}
use Rattle.al_scalar.proofs.texts.Runs.goes_on.Goals as goal

pub returns-then-last-at : goal.returns-then-last-at
returns-then-last-at c = λ same.
    let count : length c.args.self.now ≡ suc c.len.result = omega (arith, c.len.ensures, ap length c.self.view_is, c.self.inside.rest.ok.0) in
    goes-on c.run-last.result c.args.index c.args.at c.len.result c.args.self.now c.requires count c.run-last.ensures
    c.if-last-at.true.0 c.if-last-at.true.1 (eqb-true _ _ same)
