use Rattle.std.proofs.Common.{arith, not, ◌&&◌}
use Rattle.std.specs.Prelude.{bytes_eq, string_bytes}
use Rattle.al_session_folder.specs.Affected.{is_affected, is_among}
use Rattle.al_session_folder.specs.FolderViews.{changed_by}
use Rattle.al_session_folder.proofs.Affecting.{members_more}
use Rattle.al_session_folder.proofs.Indexing.{added_next}
use Rattle.al_session_folder.proofs.affected.PlannedChange.add_affected.Goals as goal

pub loop-name-preserved : goal.loop-name-preserved
loop-name-preserved g c =
    let p = c.args.self.now.path in
    let aff = is_affected g.L.Iface.PartialEq.eq g.L.Lint.meaning c.args.self.now.before (changed_by c.args.self.now) in
    let n = string_bytes c.name-item.result in
    let step = rw c.as_str.ensures.value at c.in_ok-add_if_affected.ensures in
    λ q. added_next (λ k. bytes_eq q (string_bytes k)) c.args.names.now c.loop-name.name-index c.name-item.result
    (not (bytes_eq q p) && aff q) (is_among q c.args.paths.items) _ _ (omega arith) c.name-item.is
    (c.loop-name.invariant q) (members_more q n p aff c.loop-name.paths.items _ step)
