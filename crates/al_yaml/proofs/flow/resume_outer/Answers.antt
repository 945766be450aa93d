use Rattle.std.proofs.Common.{suc, ◌+◌, length, map, arith, refl}
use Rattle.std.proofs.lemmas.Result.{err_from_is_err_and}
use Rattle.al_yaml.specs.Private.FlowFrames.{frame_of, open_of, waiting_of}
use Rattle.al_yaml_parts.specs.Reads.{state_of}
use Rattle.al_yaml.proofs.FlowLoop.{flow-stops, pops-waits, resumed-keeps}
use Rattle.al_yaml.proofs.FrameLemmas.{reads-stops, run-stops}
use Rattle.al_yaml.proofs.flow.resume_outer.Goals as goal

pub returns-in_err-next-clause-is : goal.returns-in_err-next-clause-is
returns-in_err-next-clause-is c = λ depth whole outer past.
    let n = state_of c.complete.new.state in
    let waits = pops-waits c.args.file.now.bytes.now depth whole (state_of c.args.state.now) c.args.part c.args.frame outer n c.in_ok-part.part
    c.in_ok-part.ensures.part c.in_ok-part.ensures.state past in
    let p = err_from_is_err_and c.from_residual-in_err-next.result c.from_residual-in_err-next.ensures.1 in
    rw (p.1, p.2) (reads-stops waits c.requires.inside (flow-stops depth) c.in_err-next.field-0.0
    (λ b t r. run-stops _ n _ (c.in_err-next.ensures.is (depth + length (map (frame_of c.args.file.now.bytes.now) outer) + 1) n _ (suc t))))

pub returns-clause-is : goal.returns-clause-is
returns-clause-is c = λ depth whole outer past.
    let bytes = c.args.file.now.bytes.now in
    let frame = c.args.frame in
    let n = state_of c.complete.new.state in
    let waits = pops-waits bytes depth whole (state_of c.args.state.now) c.args.part frame outer n c.in_ok-part.part
    c.in_ok-part.ensures.part c.in_ok-part.ensures.state past in
    resumed-keeps bytes depth whole outer n frame.opening (waiting_of bytes frame.inner.at frame.has) (open_of c.resume.new.frame.has) c.in_ok-part.part
    c.args.part.next c.in_ok-next.next waits (c.in_ok-next.ensures.is (depth + length (map (frame_of bytes) outer) + 1) n)
    (omega (arith, c.in_ok-part.ensures.next, c.in_ok-next.ensures.within.0))

pub returns-clause-within : goal.returns-clause-within
returns-clause-within c = record {
  opening = refl;
  next = (omega (arith, c.in_ok-part.ensures.next, c.in_ok-next.ensures.within.0), c.in_ok-next.ensures.within.1);
}
