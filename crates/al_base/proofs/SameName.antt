-- Names that are equal up to ASCII case have the same length, and equal bytes up to case at each position.
use Rattle.std.proofs.Common.{◌≡◌, ℕ, List, ap, ◌∙◌, get_or, length, sym, true}
use Rattle.std.proofs.Math.ListN.{get_or-map}
use Rattle.std.proofs.lemmas.List.{length-map}
use Rattle.std.proofs.lemmas.Slice.Eq.{bytes_eq-Decides}
use Rattle.std.specs.Char.{to_ascii_lowercase}
use Rattle.al_base.specs.Names.{lower_case, same_name}

same_folded : (a b : List ℕ) → same_name a b ≡ true → lower_case a ≡ lower_case b
same_folded a b h = (bytes_eq-Decides (lower_case a) (lower_case b)).0 h

pub same_length : (a b : List ℕ) → same_name a b ≡ true → length a ≡ length b
same_length a b h = sym (length-map a to_ascii_lowercase) ∙ ap length (same_folded a b h) ∙ length-map b to_ascii_lowercase

pub same_at : (a b : List ℕ) (i x : ℕ) → same_name a b ≡ true → to_ascii_lowercase (get_or a i x) ≡ to_ascii_lowercase (get_or b i x)
same_at a b i x h =
    sym (get_or-map to_ascii_lowercase a i x) ∙ ap (λ l. get_or l i (to_ascii_lowercase x)) (same_folded a b h) ∙ get_or-map to_ascii_lowercase b i x
