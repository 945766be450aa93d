-- The grammar of filter patterns, over characters (GitHub, "Workflow syntax", "Filter pattern cheat
-- sheet").
--
--     pattern = ["!"] item {item}
--     item    = (character | "\" character | "[" class "]") {"?" | "+"}
--
-- A character of an item isn't `\`, `[`, `?` or `+`. A class is one or more characters up to the
-- first `]`; read from left to right, two of them with `-` between them are a range, whose second
-- one isn't less than its first.
use Rattle.std.specs.Prelude.{ℕ, List, [], ◌∷◌, Bool, true, false, ◌==◌, nat_eq, nat_le, ◌||◌, ◌&&◌}
use Rattle.std.specs.Prelude.{not, codes, drop}
use Rattle.std.specs.Prelude.{if◌then◌else◌}
use Rattle.std.specs.List.{list_any, starts_with}
use Rattle.std.specs.Str.{chars}
use Rattle.std.specs.Str.Lossy.{utf8_lossy}
use Rattle.al_base.specs.Ascii.{ascii}
use Rattle.al_base.specs.FirstBytes.{begins_with}
use Rattle.al_rules_formats.specs.declared.patterns.Filter.{Filter}
use Rattle.al_rules_formats.specs.declared.patterns.Filter.TheVariants.{Names, Paths}

-- the marks that can follow an item
abbrev pub is_mark : ℕ → Bool
is_mark c = c == ascii "?" || c == ascii "+"

-- the characters up to the first `]`
abbrev pub before_bracket : List ℕ → List ℕ
before_bracket [] = []
before_bracket (c ∷ cs) = if c == ascii "]" then [] else c ∷ before_bracket cs

-- no range descends
abbrev pub ascends : List ℕ → Bool
ascends (low ∷ mark ∷ high ∷ cs) = if mark == ascii "-" then nat_le low high && ascends cs
    else ascends (mark ∷ high ∷ cs)
ascends _ = true

abbrev pub is_class : List ℕ → Bool
is_class [] = false
is_class (c ∷ cs) = ascends (c ∷ cs)

abbrev mutual
  -- items up to the end, after an item or not: only an item can have marks
  pub are_items_from : Bool → List ℕ → Bool
  are_items_from has_item [] = has_item
  are_items_from has_item (c ∷ cs) =
      if c == ascii "\\" then goes_on_escaped cs
      else if c == ascii "[" then is_class (before_bracket cs) && goes_on_in_class cs
      else if is_mark c then has_item && are_items_from true cs
      else are_items_from true cs

  -- any character, then items
  pub goes_on_escaped : List ℕ → Bool
  goes_on_escaped [] = false
  goes_on_escaped (c ∷ cs) = are_items_from true cs

  -- the rest of a class, then items
  pub goes_on_in_class : List ℕ → Bool
  goes_on_in_class [] = false
  goes_on_in_class (c ∷ cs) = if c == ascii "]" then are_items_from true cs else goes_on_in_class cs

-- the characters after a leading `!`
abbrev pub after_not : List ℕ → List ℕ
after_not cs = if begins_with (ascii "!") cs then drop 1 cs else cs

abbrev pub is_barred : ℕ → Bool
is_barred c = c == ascii " " || c == ascii "~" || c == ascii "^" || c == ascii ":"

-- a path filter can't begin with `./`, and filters of branches and tags can't have some characters
abbrev pub has_barred : Filter → List ℕ → Bool
has_barred Names cs = list_any is_barred cs
has_barred Paths cs = starts_with nat_eq (after_not cs) (codes "./")

-- a pattern by its characters: an optional `!`, then one or more items
abbrev pub is_right : Filter → List ℕ → Bool
is_right filter cs =
    not (has_barred filter cs) && (are_items_from false cs || are_items_from false (after_not cs))

abbrev pub is_pattern : Filter → List ℕ → Bool
is_pattern filter bs = is_right filter (chars (utf8_lossy bs))
