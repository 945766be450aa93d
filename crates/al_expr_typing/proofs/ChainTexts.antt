-- The text of a chain is its parts with dots between them.
use Rattle.std.proofs.Common.{◌≡◌, append-nil, List, [], ◌∷◌, ◌++◌, ℕ, Bool, true, false, cond, refl, ap, map, Option, Some, option_map}
use Rattle.std.specs.List.{join_by, join_with_byte, slice_split}
use Rattle.std.specs.Prelude.{find, ◌==◌}
use Rattle.std.proofs.lemmas.List.Splits.{join_with_byte-slice_split}
use Rattle.al_base.specs.Ascii.{ascii}

-- the parts of a chain, split at its dots
abbrev chain_parts : List ℕ → List (List ℕ)
chain_parts = slice_split (λ b. b == ascii ".")

pub joined : {X : Type 0} (f : X → List ℕ) (xs : List X) → join_by f (ascii "." ∷ []) xs ≡ join_with_byte (ascii ".") (map f xs)
joined f [] = refl
joined f (x ∷ []) = append-nil (f x)
joined f (x ∷ y ∷ xs) = ap (λ l. f x ++ ascii "." ∷ l) (joined f (y ∷ xs))

found_step : (b : Bool) (t : List ℕ) (o : Option (List (List ℕ))) (p : Option (List ℕ)) → option_map (join_with_byte (ascii ".")) o ≡ p
    → option_map (join_with_byte (ascii ".")) (cond b (Some (chain_parts t)) o) ≡ cond b (Some t) p
found_step true t o p e = ap Some (join_with_byte-slice_split (ascii ".") t)
found_step false t o p e = e

-- The first chain whose parts pass a test, joined again, is the first text whose parts pass it.
pub text_found : (test : List (List ℕ) → Bool) (ts : List (List ℕ)) → option_map (join_with_byte (ascii ".")) (find test (map chain_parts ts)) ≡ find (λ t. test (chain_parts t)) ts
text_found test [] = refl
text_found test (t ∷ ts) = found_step (test (chain_parts t)) t (find test (map chain_parts ts)) _ (text_found test ts)
