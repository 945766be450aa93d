-- The placeholders of a format text with two bounds that suffice are the same: each piece takes at least one byte.
use Rattle.std.proofs.Common.{◌≡◌, ℕ, zero, suc, ◌≤◌, List, [], ◌∷◌, length, drop, take, refl, sym, ap, ◌∙◌, arith, length-drop}
use Rattle.std.proofs.Common.{Bool, true, false, if◌then◌else◌, nat_lt, ◌==◌, Some, None}
use Rattle.std.specs.Char.{is_ascii_digit}
use Rattle.std.specs.List.{prefix_len}
use Rattle.std.specs.Prelude.{replicate, slice_set}
use Rattle.al_base.specs.Ascii.{ascii}
use Rattle.al_base.specs.FirstBytes.{begins_with}
use Rattle.al_scalar.proofs.OffsetLemmas.{choose}
use Rattle.al_expr_typing.specs.Placeholders.{Piece, Plain, Argument, NoPiece, argument_piece, piece_of, used_arguments, used_with, used_within}

-- ---- the text after a piece is shorter

abbrev IsShorter : ℕ → Piece → Type 0
IsShorter n NoPiece = Unit {0}
IsShorter n (Plain rest) = length rest ≤ n
IsShorter n (Argument k rest) = length rest ≤ n

dropped : (k : ℕ) (bs : List ℕ) (n : ℕ) → length bs ≤ n → length (drop k bs) ≤ n
dropped k bs n h = omega (arith, h, length-drop k bs)

index-shorter : (ds rest : List ℕ) (n : ℕ) → length rest ≤ n → IsShorter n (argument_piece ds rest)
index-shorter [] rest n h = tt
index-shorter (d ∷ ds) rest n h = choose (IsShorter n) (begins_with (ascii "}") rest) (λ _. dropped 1 rest n h) (λ _. tt)

piece-shorter : (b : ℕ) (bs : List ℕ) (n : ℕ) → length bs ≤ n → IsShorter n (piece_of (b ∷ bs))
piece-shorter b bs n h =
    let len = prefix_len is_ascii_digit bs in
    choose (IsShorter n) (b == ascii "{")
    (λ _. choose (IsShorter n) (begins_with (ascii "{") bs) (λ _. dropped 1 bs n h)
    (λ _. index-shorter (take len bs) (drop len bs) n (dropped len bs n h)))
    (λ _. choose (IsShorter n) (b == ascii "}")
    (λ _. choose (IsShorter n) (begins_with (ascii "}") bs) (λ _. dropped 1 bs n h) (λ _. tt)) (λ _. h))

-- ---- piece after piece

none-left : (n : ℕ) (used : List Bool) → used_within n used [] ≡ Some used
none-left zero used = refl
none-left (suc n) used = refl

-- the pieces of as many bytes as both bounds allow
abbrev AgreeBelow : ℕ → ℕ → Type 0
AgreeBelow n m = (used : List Bool) (bs : List ℕ) → length bs ≤ n → length bs ≤ m → used_within n used bs ≡ used_within m used bs

piece-agrees : (n m : ℕ) → AgreeBelow n m → (used : List Bool) (p : Piece) → IsShorter n p → IsShorter m p
    → used_with (used_within n) used p ≡ used_with (used_within m) used p
piece-agrees n m later used NoPiece h k = refl
piece-agrees n m later used (Plain rest) h k = later used rest h k
piece-agrees n m later used (Argument i rest) h k =
    ap (λ o. if nat_lt i (length used) then o else None) (later (slice_set used i true) rest h k)

pieces-agree : (n m : ℕ) → AgreeBelow n m
pieces-agree n m used [] h k = none-left n used ∙ sym (none-left m used)
pieces-agree zero m used (b ∷ bs) h k = absurd (omega (arith, h))
pieces-agree (suc n) zero used (b ∷ bs) h k = absurd (omega (arith, k))
pieces-agree (suc n) (suc m) used (b ∷ bs) h k =
    piece-agrees n m (λ u cs i j. pieces-agree n m u cs i j) used (piece_of (b ∷ bs)) (piece-shorter b bs n (omega (arith, h)))
    (piece-shorter b bs m (omega (arith, k)))

pub any-use : (bound count : ℕ) (text : List ℕ) → length text ≤ bound
    → used_within bound (replicate count false) text ≡ used_arguments count text
any-use bound count text h = pieces-agree bound (length text) (replicate count false) text h (omega arith)
