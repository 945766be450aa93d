use Rattle.std.proofs.Common.{◌≡◌, ◌≤◌, drop, map, take}
use Rattle.std.specs.List.{enumerate_from, list_all, list_any}
use Rattle.std.specs.Prelude.{slice_range}
use Rattle.al_check_interfaces.specs.Forms.{is_cut_at, is_remote, is_some_cut, is_some_text}
use Rattle.al_check_interfaces.proofs.Cuts.{ArePassed}
use Rattle.al_check_interfaces.proofs.forms.is_some_cut.Given as goal

-- The parts of the bytes so far, of which the last is unfinished, and whether one of the bytes left is a separator.
abbrev pub invariant-loop-i : goal.invariant-loop-i
invariant-loop-i l = record {
  start : l.start ≤ l.i;
  whole : l.whole ≡ list_all is_some_text (map (λ p. p.now) l.done.items);
  passed : ArePassed (take l.i l.text) (map (λ p. p.now) l.done.items) (slice_range l.text l.start l.i);
  cuts : list_any (is_cut_at (is_remote l.caller) l.text) (enumerate_from l.i (drop l.i l.text)) ≡ is_some_cut (is_remote l.caller) l.text;
}
