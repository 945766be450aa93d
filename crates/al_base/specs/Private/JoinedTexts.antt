-- The texts of a message as `Texts` keeps them: none, one, or two in one string.
use Rattle.std.specs.Prelude.{ℕ, List, [], ◌∷◌, take, drop, string_bytes, IsCharBoundary}
use Rattle.al_base.specs.declared.args.Texts.{Texts}
use Rattle.al_base.specs.declared.args.Texts.TheVariants.{None, One, Two}

abbrev pub texts_of : Texts → List (List ℕ)
texts_of None = []
texts_of (One text) = string_bytes text ∷ []
texts_of (Two text at) = take at (string_bytes text) ∷ drop at (string_bytes text) ∷ []

-- Two texts are split at a character boundary.
abbrev pub IsCut : Texts → Type 0
IsCut None = Unit {0}
IsCut (One text) = Unit {0}
IsCut (Two text at) = IsCharBoundary (string_bytes text) at
