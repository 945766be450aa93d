-- What reading a scalar takes from the lines that are left.
use Rattle.std.specs.Prelude.{ℕ, List, [], ◌∷◌, ◌++◌, map, Option, Some, Result, Ok, Err}
use Rattle.std.specs.Option.{option_map, option_to_list}
use Rattle.al_base.specs.Ascii.{ascii}
use Rattle.al_scalar.specs.Line.{Cell, Line}
use Rattle.al_base.specs.declared.codes.YamlCode.{YamlCode}
use Rattle.al_scalar.specs.declared.faults.FaultAt.{FaultAt}

-- The decoded bytes, each with the offset that it comes from, the end of the written form, and the
-- lines left.
pub record Taken : Type 0 where
  pub text : List Cell
  pub end : ℕ
  pub left : List Line

-- text before what was taken
abbrev pub with_text : List Cell → Taken → Taken
with_text cs t = record { text = cs ++ t.text; end = t.end; left = t.left }

infixl 10 ◌>>=◌
abbrev pub ◌>>=◌ : {A B : Type 0} → Result A FaultAt → (A → Result B FaultAt) → Result B FaultAt
(Ok x) >>= f = f x
(Err e) >>= f = Err e

abbrev pub before : List Cell → Result Taken FaultAt → Result Taken FaultAt
before cs (Ok t) = Ok (with_text cs t)
before cs (Err e) = Err e

abbrev pub fault : {A : Type 0} → YamlCode → ℕ → Result A FaultAt
fault code at = Err (record { code = code; at = at })

-- A break is folded to a space; if empty lines follow it, it is discarded and each of them is
-- folded to an LF (6.5).
abbrev pub folding_space : Option ℕ → List Cell
folding_space at = option_to_list (option_map (λ offset. (ascii " ", offset)) at)

abbrev pub feeds : List ℕ → List Cell
feeds ats = map (λ at. (ascii "\n", at)) ats

-- a break and the breaks of the empty lines after it, folded
abbrev pub folded_break : ℕ → List ℕ → List Cell
folded_break at [] = folding_space (Some at)
folded_break at (e ∷ es) = feeds (e ∷ es)
