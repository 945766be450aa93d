use Rattle.std.proofs.Common.{◌≡◌, ◌∙◌, length, arith, rules, sym, subst}
use Rattle.std.specs.List.Sorted.{IsNonDecreasing}
use Rattle.al_base.specs.Positions.{line_at}
use Rattle.al_base.proofs.LineStarts.{line_of, starts_to-rise}
use Rattle.al_base.proofs.lines.Lines.location_after.Goals as goal

pub count_up_to-requires : goal.count_up_to-requires
count_up_to-requires c = subst IsNonDecreasing (sym c.requires.made) (starts_to-rise c.args.bytes.now (length c.args.bytes.now))

pub overflow_cast-count_up_to : goal.overflow_cast-count_up_to
overflow_cast-count_up_to c =
    let e = c.count_up_to.ensures in
    let found = line_of c.args.bytes.now c.args.self.now c.args.offset c.count_up_to.result c.requires.made c.requires.within e.bound e.up_to e.after in
    omega (arith, found.small)

pub column_from-requires-clause-line : goal.column_from-requires-clause-line
column_from-requires-clause-line c =
    let e = c.count_up_to.ensures in
    let found = line_of c.args.bytes.now c.args.self.now c.args.offset c.count_up_to.result c.requires.made c.requires.within e.bound e.up_to e.after in
    let here : c.args.known.line ≡ line_at c.args.bytes.now c.args.offset = sym c.if-count_up_to-known.false ∙ sym found.is in
    sym c.requires.known_line ∙ here

pub returns-clause-line : goal.returns-clause-line
returns-clause-line c =
    let e = c.count_up_to.ensures in
    let found = line_of c.args.bytes.now c.args.self.now c.args.offset c.count_up_to.result c.requires.made c.requires.within e.bound e.up_to e.after in
    sym c.if-count_up_to-known.false ∙ sym found.is

pub returns-clause-start : goal.returns-clause-start
returns-clause-start c =
    let e = c.count_up_to.ensures in
    let found = line_of c.args.bytes.now c.args.self.now c.args.offset c.count_up_to.result c.requires.made c.requires.within e.bound e.up_to e.after in
    let here : c.args.known.line ≡ line_at c.args.bytes.now c.args.offset = sym c.if-count_up_to-known.false ∙ sym found.is in
    search rules
