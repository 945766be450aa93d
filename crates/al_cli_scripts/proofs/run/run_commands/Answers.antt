use Rattle.std.proofs.Common.{◌∙◌, ◌++◌, [], refl, rules, arith, length-append}
use Rattle.std.proofs.lemmas.Grind.{common_steps}
use Rattle.std.proofs.KnownBytes.{Keeps-refl}
use Rattle.std.proofs.lemmas.Result.{err_from_is_err_and}
use Rattle.std.proofs.Math.Nat.{le-max_left}
use Rattle.al_base.specs.declared.stops.Stop.TheVariants.{ReadFault, WriteFault}
use Rattle.al_cli_scripts.specs.Replies.{session}
use Rattle.al_cli_scripts.specs.Runs.{GoesOn}
use Rattle.al_cli_scripts.proofs.Turns.{asked_again, counted_stop, not_too_many, turn_unwritten, Paused-none, Paused-more, Runs-after, Leaves-after, Last-after, Stops-after}
use Rattle.al_cli_scripts.proofs.run.run_commands.Goals as goal

pub loop-turn-init : goal.loop-turn-init
loop-turn-init g c = record {
  room = c.in_ok-run.ensures.room;
  kind = c.in_ok-run.ensures.format;
  asked = refl;
  asks = λ h. absurd (omega (arith, h));
  paused = ([], omega arith, rw c.in_ok-run.ensures.waiting (Paused-none (session c.args.format) c.args.session.now.folder _ _));
  turns = search (rules, common_steps);
  reads_well = refl;
  writes_well = refl;
}

pub loop-turn-preserved : goal.loop-turn-preserved
loop-turn-preserved g c =
    let s = c.loop-turn.invariant.paused in
    let t : GoesOn (session c.args.format) _ _ = rw (c.in-None.is, c.loop-turn.invariant.kind) at c.in_ok-answer.ensures.turn in
    record {
      room = c.take_turn.ensures.room;
      kind = search (rules, common_steps);
      asked = asked_again _ _ _ c.loop-turn.invariant.asked c.take_turn.ensures.asked;
      asks = λ h. c.take_turn.ensures.asked ∙ c.loop-turn.invariant.asked;
      paused = (s.0 ++ t.read, omega (arith, length-append s.0 t.read, t.some), Paused-more (session c.args.format) _ _ s.2 t);
      turns = search (rules, common_steps);
      reads_well = c.in_ok-answer.ensures.read_failures.answered ∙ c.loop-turn.invariant.reads_well;
      writes_well = c.in_ok-answer.ensures.write_failures.answered ∙ c.loop-turn.invariant.writes_well;
    }

pub returns-in_err-run-clause-runs : goal.returns-in_err-run-clause-runs
returns-in_err-run-clause-runs g c =
    let p = err_from_is_err_and c.from_residual.result c.from_residual.ensures.1 in
    rw (p.1, p.2) (record {
      end = tt;
      stop = turn_unwritten (session c.args.format) c.args.session.now.folder [] _ _ _ (Keeps-refl _);
      last_read = tt;
      read_failures = record { answered = tt; stopped = λ h. absurd cc };
      write_failures = record { answered = tt; stopped = λ h. absurd cc };
      reads = omega arith;
      all_turns = λ h. absurd cc;
      asked = le-max_left c.args.reader.now.largest_ask 65536;
      asks = λ h. absurd (h refl);
    })

pub returns-in_err-answer-clause-runs : goal.returns-in_err-answer-clause-runs
returns-in_err-answer-clause-runs g c =
    let p = err_from_is_err_and c.from_residual-in_err-answer.result c.from_residual-in_err-answer.ensures.1 in
    let s = c.loop-turn.invariant.paused in
    let asked = c.take_turn.ensures.asked ∙ c.loop-turn.invariant.asked in
    rw (p.1, p.2) (record {
      end = tt;
      stop = Stops-after (session c.args.format) _ _ s.2 _ (rw c.loop-turn.invariant.kind at c.in_err-answer.ensures.turn);
      last_read = tt;
      read_failures = counted_stop _ _ _ ReadFault _ _ _ refl refl c.loop-turn.invariant.reads_well c.in_err-answer.ensures.read_failures;
      write_failures = counted_stop _ _ _ WriteFault _ _ _ refl refl c.loop-turn.invariant.writes_well c.in_err-answer.ensures.write_failures;
      reads = omega (arith, c.take_turn.ensures.turns, c.loop-turn.invariant.turns);
      all_turns = λ h. absurd (not_too_many (session c.args.format) _ _ _ _ refl h (rw c.loop-turn.invariant.kind at c.in_err-answer.ensures.turn));
      asked = omega (arith, asked);
      asks = λ h. asked;
    })

pub returns-in-Some-clause-runs : goal.returns-in-Some-clause-runs
returns-in-Some-clause-runs g c =
    let s = c.loop-turn.invariant.paused in
    let r = rw (c.in-Some.is, c.loop-turn.invariant.kind) at c.in_ok-answer.ensures.turn in
    let asked = c.take_turn.ensures.asked ∙ c.loop-turn.invariant.asked in
    record {
      end = Runs-after (session c.args.format) s.2 _ _ r.0;
      stop = tt;
      last_read = Last-after (session c.args.format) s.2 _ r.1;
      read_failures = record { answered = c.in_ok-answer.ensures.read_failures.answered ∙ c.loop-turn.invariant.reads_well; stopped = λ h. absurd cc };
      write_failures = record { answered = c.in_ok-answer.ensures.write_failures.answered ∙ c.loop-turn.invariant.writes_well; stopped = λ h. absurd cc };
      reads = omega (arith, c.take_turn.ensures.turns, c.loop-turn.invariant.turns);
      all_turns = λ h. absurd cc;
      asked = omega (arith, asked);
      asks = λ h. asked;
    }

pub returns-in-Some-clause-folder : goal.returns-in-Some-clause-folder
returns-in-Some-clause-folder g c =
    let s = c.loop-turn.invariant.paused in
    let r = rw (c.in-Some.is, c.loop-turn.invariant.kind) at c.in_ok-answer.ensures.turn in
    Leaves-after (session c.args.format) s.2 _ r.2

pub returns-clause-runs : goal.returns-clause-runs
returns-clause-runs g c =
    let s = c.loop-turn.invariant.paused in
    let asked = c.loop-turn.invariant.asks (search (rules, common_steps)) in
    record {
      end = tt;
      stop = search (rules, common_steps);
      last_read = tt;
      read_failures = record { answered = tt; stopped = λ h. absurd cc };
      write_failures = record { answered = tt; stopped = λ h. absurd cc };
      reads = search (rules, common_steps);
      all_turns = λ h. search (rules, common_steps);
      asked = omega (arith, asked);
      asks = λ h. asked;
    }
