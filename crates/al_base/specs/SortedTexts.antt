-- Texts with their positions, sorted by their last bytes and then by all bytes.
use Rattle.std.specs.Prelude.{◌≡◌, ◌<◌, ℕ, ◌+◌, ◌*◌, ◌%◌, ◌^◌, ◌&&◌, Bool, List, [], Option, Some}
use Rattle.std.specs.Prelude.{length, nat_eq, nat_lt}
use Rattle.std.specs.Prelude.{option_map, slice_index, slice_index_or, All}
use Rattle.std.specs.Cmp.Lexicographic.{slice_cmp}
use Rattle.std.specs.List.{find, fold}
use Rattle.std.specs.List.Sorted.{IsSortedByKey}
use Rattle.std.specs.Ordering.{is_eq, nat_cmp, ordering_then}
use Rattle.std.specs.declared.cmp.Ordering.{Ordering}
use Rattle.al_base.specs.declared.sorted_texts.Entry.{Entry}

-- the last eight bytes of a text as one number
abbrev pub tail_number : List ℕ → ℕ
tail_number = fold (λ n b. ((n * 256) % 2 ^ 64 + b) % 2 ^ 64) 0

-- the sort key of a text
abbrev pub Key : Type 0
Key = ℕ × List ℕ

abbrev pub sort_key : List ℕ → Key
sort_key text = (tail_number text, text)

abbrev pub key_cmp : Key → Key → Ordering
key_cmp a b = ordering_then (nat_cmp a.0 b.0) (slice_cmp nat_cmp a.1 b.1)

-- whether a list of first positions has i at index i
abbrev pub is_own : List ℕ → ℕ → Bool
is_own places i = nat_lt i (length places) && nat_eq (slice_index places i) i

module _ {T : Type 0} (bytes : T → List ℕ) where
  abbrev pub entry_key : Entry T → Key
  entry_key e = (e.number, bytes e.text)

  abbrev pub AreSorted : List (Entry T) → Type 0
  AreSorted = IsSortedByKey entry_key key_cmp

  -- the position in the first entry with a text
  abbrev pub position_among : List (Entry T) → List ℕ → Option ℕ
  position_among es text =
      option_map (λ e. e.position) (find (λ e. is_eq (key_cmp (entry_key e) (sort_key text))) es)

  -- the position in the first entry with the text of an entry
  abbrev pub place_of : List (Entry T) → Entry T → Option ℕ
  place_of es e = position_among es (bytes e.text)

  -- each entry has the number of its text
  abbrev pub AreNumbered : List (Entry T) → Type 0
  AreNumbered = All (λ e. entry_key e ≡ sort_key (bytes e.text))

  -- each entry has the text at its position in a list
  abbrev pub AreOf : List (List ℕ) → List (Entry T) → Type 0
  AreOf ts =
      All (λ e. (e.position < length ts)
      × (entry_key e ≡ sort_key (slice_index_or ts e.position [])))

  -- they are the entries of a list of as many texts
  abbrev pub StandIn : List (Entry T) → Type 0
  StandIn es = (ts : List (List ℕ)) × (length ts ≡ length es) × AreOf ts es

  -- places has, at the position of each entry, the position in the first entry with its text
  abbrev pub TellPlaces : List (Entry T) → List ℕ → Type 0
  TellPlaces es places =
      (length places ≡ length es)
      × All (λ e. place_of es e ≡ Some (slice_index places e.position)) es
