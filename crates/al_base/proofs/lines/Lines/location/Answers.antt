use Rattle.std.proofs.Common.{◌-◌, ◌<◌, length, arith, sym, ap, subst}
use Rattle.std.specs.List.Sorted.{IsNonDecreasing}
use Rattle.al_base.proofs.LineStarts.{line_of, start_read, is_line_of_read, starts_to-rise}
use Rattle.al_base.proofs.lines.Lines.location.Goals as goal

pub count_up_to-line-requires : goal.count_up_to-line-requires
count_up_to-line-requires c = subst IsNonDecreasing (sym c.requires.made) (starts_to-rise c.args.bytes.now (length c.args.bytes.now))

pub overflow_sub-line : goal.overflow_sub-line
overflow_sub-line c =
    let e = c.count_up_to-line.ensures in
    (line_of c.args.bytes.now c.args.self.now c.args.offset c.count_up_to-line.result c.requires.made c.requires.within e.bound e.up_to e.after).above

pub index-start-requires : goal.index-start-requires
index-start-requires c =
    let e = c.count_up_to-line.ensures in
    let above = (line_of c.args.bytes.now c.args.self.now c.args.offset c.count_up_to-line.result c.requires.made c.requires.within e.bound e.up_to e.after).above in
    let bound = e.bound in
    omega (arith, above, bound, ap length c.self.view_is, c.self.inside.starts.ok)

pub overflow_cast-result : goal.overflow_cast-result
overflow_cast-result c =
    let e = c.count_up_to-line.ensures in
    let found = line_of c.args.bytes.now c.args.self.now c.args.offset c.count_up_to-line.result c.requires.made c.requires.within e.bound e.up_to e.after in
    omega (arith, found.small)

pub column_from-column-requires : goal.column_from-column-requires
column_from-column-requires c =
    let e = c.count_up_to-line.ensures in
    let r = c.count_up_to-line.result in
    let found = line_of c.args.bytes.now c.args.self.now c.args.offset r c.requires.made c.requires.within e.bound e.up_to e.after in
    let few : r - 1 < length c.args.self.now = omega (arith, found.above, e.bound) in
    let read = start_read c.args.self.now c.self.inside.starts.items (r - 1) c.index-start.result.now c.self.view_is few c.index-start.ensures in
    let here = is_line_of_read c.args.bytes.now c.args.offset r _ c.index-start.result.now read found in
    record { order = here.order; within = c.requires.within; small = c.requires.small; known = sym here.begins; line = here.same }

pub returns-clause-line : goal.returns-clause-line
returns-clause-line c =
    let e = c.count_up_to-line.ensures in
    sym (line_of c.args.bytes.now c.args.self.now c.args.offset c.count_up_to-line.result c.requires.made c.requires.within e.bound e.up_to e.after).is

pub returns-clause-start : goal.returns-clause-start
returns-clause-start c =
    let e = c.count_up_to-line.ensures in
    let r = c.count_up_to-line.result in
    let found = line_of c.args.bytes.now c.args.self.now c.args.offset r c.requires.made c.requires.within e.bound e.up_to e.after in
    let few : r - 1 < length c.args.self.now = omega (arith, found.above, e.bound) in
    let read = start_read c.args.self.now c.self.inside.starts.items (r - 1) c.index-start.result.now c.self.view_is few c.index-start.ensures in
    let here = is_line_of_read c.args.bytes.now c.args.offset r _ c.index-start.result.now read found in
    record { order = here.order; same = here.same; first = here.first }
