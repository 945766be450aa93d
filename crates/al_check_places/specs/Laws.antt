-- The scalars of any file's places are scalars of its tree.
use Rattle.std.specs.Prelude.{ℕ, All, IsUtf8}
use Rattle.al_scalar.specs.Offsets.{IsPlaced}
use Rattle.al_scalar.specs.Scalar.{Scalar, text_of}
use Rattle.al_base.specs.Spans.{LiesIn}
use Rattle.al_base.specs.Limits.{largest_file}
use Rattle.al_tree.specs.declared.files.FileKind.{FileKind}
use Rattle.al_yaml_tree.specs.Node.{Node}
use Rattle.al_yaml_tree.specs.Spans.{IsLaid}
use Rattle.al_yaml_tree.specs.Texts.{HasTexts}
use Rattle.al_check_places.specs.Places.{places_of}

-- a scalar lies in a file of this many bytes, and the bytes of its text come from there
pub record Lies (size : ℕ) (s : Scalar) : Type 0 where
  pub inside : LiesIn size s.span
  pub placed : IsPlaced largest_file s

abbrev pub PlacesLie : Type 0
PlacesLie = (kind : FileKind) (size : ℕ) (root : Node) → IsLaid size root
    → All (λ p. Lies size p.word) (places_of kind root)

abbrev pub PlacesHaveTexts : Type 0
PlacesHaveTexts = (kind : FileKind) (root : Node) → HasTexts root
    → All (λ p. IsUtf8 (text_of p.word)) (places_of kind root)
