use Rattle.std.proofs.Common.{ap, sym, ◌∙◌, refl}
use Rattle.std.proofs.lemmas.Result.{err_from_is_err_and}
use Rattle.al_scalar.specs.Places.{lines_at}
use Rattle.al_scalar.proofs.RestLemmas.{start-at}
use Rattle.al_yaml_parts.specs.Reads.{state_of}
use Rattle.al_yaml_parts.proofs.LineReadLemmas.{block-read, line-read, line-starts}
use Rattle.al_yaml_parts.proofs.ReadLemmas.{given-ok, same_part, stops-from, stops-given}
use Rattle.al_yaml_parts.proofs.RunLemmas.{run-broken, run-gives, run-refused, run-stop}
use Rattle.al_yaml_parts.proofs.scalars.read_line_scalar.Goals as goal

pub returns-in_err-start-clause-is : goal.returns-in_err-start-clause-is
returns-in_err-start-clause-is c =
    let p = err_from_is_err_and c.from_residual.result c.from_residual.ensures.1 in
    rw (p.1, p.2, start-at c.args.file.now.bytes.now c.args.at c.requires.inside) (run-broken _ _ _ _ _ _ c.in_err-start.ensures.limits)

pub returns-in_err-read-clause-is : goal.returns-in_err-read-clause-is
returns-in_err-read-clause-is c =
    let p = err_from_is_err_and c.from_residual-in_err-read.result c.from_residual-in_err-read.ensures.1 in
    rw (p.1, p.2) (stops-from _ _ _ _ c.in_err-read.field-0.0
    (line-starts c.args.within (state_of c.args.state.now) (state_of c.start.new.self) c.args.file.now.bytes.now c.args.at c.requires.inside
    c.in_ok-start.ensures.limits c.in_ok-start.ensures.state) (stops-given _ _ _ _ c.in_err-read.ensures.is))

pub returns-in_err-next-clause-is : goal.returns-in_err-next-clause-is
returns-in_err-next-clause-is c =
    let p = err_from_is_err_and c.from_residual-in_err-next.result c.from_residual-in_err-next.ensures.1 in
    rw (p.1, p.2) (line-read c.args.within (state_of c.args.state.now) (state_of c.start.new.self) c.args.file.now.bytes.now c.args.at c.requires.inside
    c.in_ok-start.ensures.limits c.in_ok-start.ensures.state c.in_ok-read.read c.in_ok-read.ensures.is c.if-is_block_start.ensures
    ∙ run-stop _ _ _ _ (run-refused _ _ _ c.in_err-next.ensures.is))

pub returns-then-is_block_start-clause-is : goal.returns-then-is_block_start-clause-is
returns-then-is_block_start-clause-is c =
    block-read c.args.within (state_of c.args.state.now) (state_of c.start.new.self) c.args.file.now.bytes.now c.args.at c.requires.inside
    c.in_ok-start.ensures.limits c.in_ok-start.ensures.state c.in_ok-read.read c.in_ok-read.ensures.is c.if-is_block_start.ensures ∙ run-gives _ _
    ∙ same_part _ _ _ _ _ _ _ _ (sym c.scalar_part.ensures.node) (sym c.scalar_part.ensures.end) (ap (lines_at c.args.file.now.bytes.now) (sym c.scalar_part.ensures.next)) refl

pub returns-clause-is : goal.returns-clause-is
returns-clause-is c =
    line-read c.args.within (state_of c.args.state.now) (state_of c.start.new.self) c.args.file.now.bytes.now c.args.at c.requires.inside
    c.in_ok-start.ensures.limits c.in_ok-start.ensures.state c.in_ok-read.read c.in_ok-read.ensures.is c.if-is_block_start.ensures
    ∙ given-ok _ _ _ _ c.in_ok-next.ensures.is ∙ run-gives _ _
    ∙ same_part _ _ _ _ _ _ _ _ (sym c.scalar_part-2.ensures.node) (sym c.scalar_part-2.ensures.end) (ap (lines_at c.args.file.now.bytes.now) (sym c.scalar_part-2.ensures.next)) refl
