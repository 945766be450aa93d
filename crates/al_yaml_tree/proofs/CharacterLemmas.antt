-- The span of a character at an offset of a file is within the file.
use Rattle.std.proofs.Common.{ℕ, ◌≤◌, List, [], ◌∷◌, length, drop, arith, length-drop, not}
use Rattle.std.proofs.lemmas.List.Sums.{prefix_len-le-length}
use Rattle.al_base.specs.Positions.{begins_char}
use Rattle.al_base.specs.Spans.{LiesIn}
use Rattle.al_scalar.specs.Characters.{character_length, character_at}

length-inside : (bytes : List ℕ) → character_length bytes ≤ length bytes
length-inside [] = omega arith
length-inside (b ∷ bs) = omega (arith, prefix_len-le-length (λ byte. not (begins_char byte)) bs)

pub character-inside : (bytes : List ℕ) (at : ℕ) → at ≤ length bytes → LiesIn (length bytes) (character_at bytes at)
character-inside bytes at h = record {
  ordered = omega arith;
  inside = omega (arith, length-inside (drop at bytes), length-drop at bytes);
}
