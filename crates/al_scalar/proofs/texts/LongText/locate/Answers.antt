use Rattle.std.proofs.Common.{◌∙◌, ◌^◌, ◌<◌, sym, subst}
use Rattle.al_scalar.specs.Private.Segments.{offset_in, AreInRange}
use Rattle.al_scalar.proofs.Locating.{located, offset_or-small}
use Rattle.al_scalar.proofs.texts.LongText.locate.Goals as goal

pub locate-requires-clause-fits : goal.locate-requires-clause-fits
locate-requires-clause-fits c =
    let t = c.self.inside in
    let cells = c.args.self.now in
    let at = located t.bytes.items t.runs cells (offset_in c.run_of.result c.args.i) c.args.i 0 c.self.view_is c.requires (c.run_of.ensures.offset) in
    subst (λ o. o < 2 ^ 32) (sym at) (offset_or-small cells 0 c.args.i (subst AreInRange c.self.view_is c.self.invariant.1) c.requires)

pub returns : goal.returns
returns c = λ end.
    let t = c.self.inside in
    c.locate.ensures
    ∙ located t.bytes.items t.runs c.args.self.now (offset_in c.run_of.result c.args.i) c.args.i end c.self.view_is c.requires (c.run_of.ensures.offset)
