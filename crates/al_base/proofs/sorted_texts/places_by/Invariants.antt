use Rattle.std.proofs.Common.{◌≡◌, ◌<◌, ◌+◌, ℕ, Some, get_or, length}
use Rattle.std.specs.Prelude.{slice_index}
use Rattle.al_base.specs.SortedTexts.{place_of}
use Rattle.al_base.specs.declared.sorted_texts.Entry.{Entry}
use Rattle.al_base.proofs.sorted_texts.places_by.Given as goal

abbrev pub invariant-loop-i : goal.invariant-loop-i
invariant-loop-i g l = record {
  many : length l.places.items ≡ length l.entries;
  before : (k : ℕ) (e : Entry _) → k < l.i → place_of g.T.AsSlice.items l.entries (get_or l.entries k e) ≡ Some (slice_index l.places.items (get_or l.entries k e).position);
  last : (k : ℕ) (e : Entry _) → k + 1 ≡ l.i → place_of g.T.AsSlice.items l.entries (get_or l.entries k e) ≡ Some l.place;
}
