use Rattle.std.proofs.Common.{sym, ap, ◌∙◌}
use Rattle.std.specs.Prelude.{bytes_eq, string_bytes}
use Rattle.std.specs.List.{list_any}
use Rattle.al_session_folder.proofs.Affecting.{affected_found, affected_none, affected_still, same_answer_exact}
use Rattle.al_session_folder.proofs.Indexing.{known_at, none_at}
use Rattle.al_session_folder.proofs.Views.{bytes_self}
use Rattle.al_session_folder.proofs.affected.PlannedChange.affected_paths.Goals as goal

pub returns-in_ok-affected-in-Some : goal.returns-in_ok-affected-in-Some
returns-in_ok-affected-in-Some g c =
    let p = c.self.inside.path.now in
    c.put_paths_in_order.ensures
    ∙ affected_found g.L.Lint.meaning g.L.Lint.is_unit g.L.Iface.PartialEq.eq g.met.L.Iface.Eq.laws.refl c.self.inside.files.now.entries c.self.inside.path.now c.self.inside.next c.args.self.now
    c.self.view_is c.self.invariant c.args.callers.now c.requires.index c.requires.other c.in_ok-paths.paths.items (rw c.is_some.ensures at c.in_ok-paths.ensures)
    (λ q. list_any (λ k. bytes_eq q (string_bytes k)) c.as_slice.result.now)
    (λ q. ap (list_any (λ k. bytes_eq q (string_bytes k))) c.as_slice.ensures.keys ∙ known_at c.args.callers.now p _ (sym c.in-Some.ensures.value) p q (bytes_self p))
    c.in_ok-affected-in-Some.affected.items c.in_ok-affected-in-Some.ensures

pub returns-in-None : goal.returns-in-None
returns-in-None g c =
    let p = c.self.inside.path.now in
    affected_none g.L.Lint.meaning g.L.Lint.is_unit g.L.Iface.PartialEq.eq g.met.L.Iface.Eq.laws.refl c.self.inside.files.now.entries c.self.inside.path.now c.self.inside.next c.args.self.now
    c.self.view_is c.self.invariant c.args.callers.now c.requires.index c.requires.other c.in_ok-paths.paths.items (rw c.is_some.ensures at c.in_ok-paths.ensures)
    (λ q. sym (none_at c.args.callers.now p (sym c.in-None.ensures.value) p q (bytes_self p)))

pub returns-then-has_same_interface : goal.returns-then-has_same_interface
returns-then-has_same_interface g c =
    affected_still g.L.Lint.meaning g.L.Lint.is_unit g.L.Iface.PartialEq.eq g.met.L.Iface.Eq.laws.refl c.self.inside.files.now.entries c.self.inside.path.now c.self.inside.next c.args.self.now
    c.self.view_is c.self.invariant c.args.callers.now c.requires.index c.requires.other c.in_ok-paths.paths.items (rw c.is_some.ensures at c.in_ok-paths.ensures)
    (same_answer_exact g.L.Iface.PartialEq.eq g.met.L.Lint.exact _ _ (sym c.has_same_interface.ensures ∙ c.if-has_same_interface.true))
