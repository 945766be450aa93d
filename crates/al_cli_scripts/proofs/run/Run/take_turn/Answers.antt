use Rattle.std.proofs.Common.{◌≡◌, ◌≢◌, ◌≤◌, ap, ◌++◌, [], refl, rules, arith, take, length, length-take-le, inl, inr}
use Rattle.std.proofs.lemmas.Grind.{common_steps}
use Rattle.std.proofs.KnownBytes.{Appends-kept, Appends-nil, Keeps-refl}
use Rattle.std.proofs.lemmas.Result.{err_from_is_err_and}
use Rattle.al_session.specs.Session.{SessionState}
use Rattle.al_cli_scripts.specs.Replies.{session}
use Rattle.al_cli_scripts.proofs.Turns.{turn_end, turn_end_cut, turn_unwritten, turn_stuck, turn_answered, turn_bad, end_leaves, bad_leaves, TurnStops-cut}
use Rattle.al_cli_scripts.proofs.run.Run.take_turn.Goals as goal

pub returns-in_err-status-clause-turn : goal.returns-in_err-status-clause-turn
returns-in_err-status-clause-turn g c =
    let p = err_from_is_err_and c.from_residual-in_err-status.result c.from_residual-in_err-status.ensures.1 in
    rw (p.1, p.2) (turn_unwritten (session c.args.self.now.format) _ _ _ _ _ (Keeps-refl _))

pub returns-then-is_empty-clause-turn : goal.returns-then-is_empty-clause-turn
returns-then-is_empty-clause-turn g c =
    let z : c.in_ok-count.count ≡ 0 = search rules in
    let k = rw z at c.in_ok-count.ensures.bytes.0 in
    let end = c.in_ok-count.ensures.bytes.1 z (search rules) in
    let none : length c.args.self.now.waiting.items ≡ 0 = search (rules, common_steps) in
    let e : c.args.self.now.waiting.items ≡ [] = grind (arith, common_steps) in (
      turn_end (session c.args.self.now.format) _ _ [] _ _ _ _ _ k end (inl (e, refl, c.in_ok-status.ensures.status)) (Appends-nil _),
      ([], omega arith, k, inl refl),
      end_leaves (session c.args.self.now.format) c.args.session.now.folder c.status.new.self.folder _ _ _ (ap (λ (s : SessionState). s.folder) c.status.ensures.unchanged)
          k end c.requires.pending.unfinished,
    )

pub returns-in_err-write_all-clause-turn : goal.returns-in_err-write_all-clause-turn
returns-in_err-write_all-clause-turn g c =
    let p = err_from_is_err_and c.from_residual-in_err-write_all.result c.from_residual-in_err-write_all.ensures.1 in
    let z : c.in_ok-count.count ≡ 0 = search rules in
    let some : c.args.self.now.waiting.items ≢ [] = search (rules, common_steps) in
    rw (p.1, p.2, c.in_err-write_all.ensures.err)
    (turn_end_cut (session c.args.self.now.format) _ _ _ _ _ _ (rw z at c.in_ok-count.ensures.bytes.0) (c.in_ok-count.ensures.bytes.1 z (search rules))
    c.requires.pending.unfinished some c.in_err-write_all.ensures.prefix)

pub returns-then-count-eq0-clause-turn : goal.returns-then-count-eq0-clause-turn
returns-then-count-eq0-clause-turn g c =
    let z : c.in_ok-count.count ≡ 0 = search rules in
    let k = rw z at c.in_ok-count.ensures.bytes.0 in
    let end = c.in_ok-count.ensures.bytes.1 z (search rules) in
    let some : c.args.self.now.waiting.items ≢ [] = search (rules, common_steps) in (
      turn_end (session c.args.self.now.format) _ _ _ _ _ _ _ _ k end (inr (some, c.requires.pending.unfinished, refl, refl)) c.in_ok-write_all.ensures.all,
      ([], omega arith, k, inl refl),
      end_leaves (session c.args.self.now.format) c.args.session.now.folder _ _ _ _ refl k end c.requires.pending.unfinished,
    )

pub returns-in_err-extend_from_slice-clause-turn : goal.returns-in_err-extend_from_slice-clause-turn
returns-in_err-extend_from_slice-clause-turn g c =
    let p = err_from_is_err_and c.from_residual-in_err-extend_from_slice.result c.from_residual-in_err-extend_from_slice.ensures.1 in
    rw (p.1, p.2) (turn_unwritten (session c.args.self.now.format) _ _ _ _ _ (Keeps-refl _))

pub returns-in_err-answer_all-clause-turn : goal.returns-in_err-answer_all-clause-turn
returns-in_err-answer_all-clause-turn g c =
    let p = err_from_is_err_and c.from_residual-in_err-answer_all.result c.from_residual-in_err-answer_all.ensures.1 in
    let e : c.deref-2.result.now ≡ c.args.self.now.waiting.items ++ take c.in_ok-count.count c.read.new.buf = search (rules, common_steps) in
    rw (p.1, p.2) (TurnStops-cut (session c.args.self.now.format) _ _ _ c.in_err-answer_all.ensures.only
    (turn_stuck (session c.args.self.now.format) _ c.args.self.now.waiting.items _ _ _ c.in_ok-count.ensures.bytes.0 _ _ (rw e at c.in_err-answer_all.ensures.err)))

pub returns-in_err-flush-in-Waits-clause-turn : goal.returns-in_err-flush-in-Waits-clause-turn
returns-in_err-flush-in-Waits-clause-turn g c =
    let p = err_from_is_err_and c.from_residual-in_err-flush-in-Waits.result c.from_residual-in_err-flush-in-Waits.ensures.1 in
    let e : c.deref-2.result.now ≡ c.args.self.now.waiting.items ++ take c.in_ok-count.count c.read.new.buf = search (rules, common_steps) in
    let s = rw (c.in-Waits.is, e) at c.in_ok-answer_all.ensures.ok in
    rw (p.1, p.2, c.in_err-flush-in-Waits.ensures.err)
    (turn_answered (session c.args.self.now.format) _ _ _ _ _ c.in_ok-count.ensures.bytes.0 s.1 _ _ (Appends-kept _ _ _ s.0 s.4 c.in_err-flush-in-Waits.ensures.bytes))

pub returns-in-Bad-clause-turn : goal.returns-in-Bad-clause-turn
returns-in-Bad-clause-turn g c =
    let e : c.deref-2.result.now ≡ c.args.self.now.waiting.items ++ take c.in_ok-count.count c.read.new.buf = search (rules, common_steps) in
    let s = rw (c.in-Bad.is, e) at c.in_ok-answer_all.ensures.ok in
    let room : length c.read.new.buf ≡ 65536 = search (rules, common_steps) in
    let some : c.in_ok-count.count ≤ length c.read.new.buf = search (rules, common_steps) in
    let short : length (take c.in_ok-count.count c.read.new.buf) ≤ 65536 = omega (arith, some, room, length-take-le c.in_ok-count.count c.read.new.buf some) in (
      turn_bad (session c.args.self.now.format) _ _ _ _ _ c.in_ok-count.ensures.bytes.0 s.2 _ _ s.3 s.4,
      (take c.in_ok-count.count c.read.new.buf, short, c.in_ok-count.ensures.bytes.0, inr (_, s.0, s.1, s.2, s.3)),
      bad_leaves (session c.args.self.now.format) _ _ _ _ _ c.in_ok-count.ensures.bytes.0 s.2 s.3,
    )
