use Rattle.std.proofs.Common.{refl}
use Rattle.al_scalar.proofs.LineSearch.{to_here, to_break, to_file_end}
use Rattle.al_scalar.proofs.lines.line_end.Goals as goal

pub returns-then-is_line_end-clause-on_line : goal.returns-then-is_line_end-clause-on_line
returns-then-is_line_end-clause-on_line c = (to_here c.args.bytes.now c.args.at c.requires (c.if-is_line_end.ensures.0 refl)).on_line

pub returns-then-is_line_end-clause-text : goal.returns-then-is_line_end-clause-text
returns-then-is_line_end-clause-text c = (to_here c.args.bytes.now c.args.at c.requires (c.if-is_line_end.ensures.0 refl)).text

pub returns-then-is_line_end-clause-end : goal.returns-then-is_line_end-clause-end
returns-then-is_line_end-clause-end c = (to_here c.args.bytes.now c.args.at c.requires (c.if-is_line_end.ensures.0 refl)).end

pub returns-in-Some-clause-on_line : goal.returns-in-Some-clause-on_line
returns-in-Some-clause-on_line c = (to_break c.args.bytes.now c.args.at c.requires c.in-Some.break_at c.in-Some.ensures.0 c.in-Some.ensures.1).on_line

pub returns-in-Some-clause-text : goal.returns-in-Some-clause-text
returns-in-Some-clause-text c = (to_break c.args.bytes.now c.args.at c.requires c.in-Some.break_at c.in-Some.ensures.0 c.in-Some.ensures.1).text

pub returns-in-Some-clause-end : goal.returns-in-Some-clause-end
returns-in-Some-clause-end c = (to_break c.args.bytes.now c.args.at c.requires c.in-Some.break_at c.in-Some.ensures.0 c.in-Some.ensures.1).end

pub returns-in-None-clause-on_line : goal.returns-in-None-clause-on_line
returns-in-None-clause-on_line c = (to_file_end c.args.bytes.now c.args.at c.requires c.in-None.ensures).on_line

pub returns-in-None-clause-text : goal.returns-in-None-clause-text
returns-in-None-clause-text c = (to_file_end c.args.bytes.now c.args.at c.requires c.in-None.ensures).text

pub returns-in-None-clause-end : goal.returns-in-None-clause-end
returns-in-None-clause-end c = (to_file_end c.args.bytes.now c.args.at c.requires c.in-None.ensures).end
