use Rattle.std.proofs.Common.{◌-◌, List, ℕ, None, ap, drop, get_or, length, map, arith}
use Rattle.std.proofs.Math.Seq.{drop-length}
use Rattle.al_check_contexts.specs.Answered.{call_outputs}
use Rattle.al_check_contexts.specs.Lookups.{found_at}
use Rattle.al_check_contexts.specs.declared.known.Answer.{Answer}
use Rattle.al_check_contexts.specs.declared.known.Outputs.{Outputs}
use Rattle.al_check_contexts.proofs.Found.{found_more, none_found, put_found}
use Rattle.al_check_contexts.proofs.known.Outputs.of.Goals as goal

pub loop-rest-init : goal.loop-rest-init
loop-rest-init c =
    let lists : List (List (List ℕ)) = map (λ n. n.now) c.args.known.lists.now in
    let answers = c.args.known.answers.now in
    record {
      within = omega arith;
      found = none_found (record { positions = c.new-positions.result; lists = c.args.known.lists }) (map (call_outputs lists) (drop (length answers) answers))
          c.new-positions.ensures.empty (ap (map (call_outputs lists)) (drop-length answers));
    }

pub loop-rest-preserved : goal.loop-rest-preserved
loop-rest-preserved c =
    let answers = c.args.known.answers.now in
    let rest = c.loop-rest.rest in
    let none : Answer = record { job = None; step = None; names = None } in
    let answer : Answer = get_or answers (rest - 1) none in
    let old : Outputs = record { positions = c.loop-rest.positions; lists = c.args.known.lists } in
    record {
      within = omega arith;
      found = found_more (map (λ n. n.now) c.args.known.lists.now) answers (rest - 1) rest none (found_at old)
          (found_at (record old { positions = c.insert.new.self })) (omega arith) (omega arith)
          (put_found old c.insert.new.self (answer.job, answer.step) answer.names c.in_ok-insert.ensures.updates) c.loop-rest.invariant.found;
    }
