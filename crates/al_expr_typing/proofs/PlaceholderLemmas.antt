-- The state machine that reads a format text tells which arguments it names.
use Rattle.std.proofs.Common.{◌≡◌, ◌≤◌, ℕ, zero, suc, ◌+◌, ◌*◌, ◌-◌, List, [], ◌∷◌, length, take, drop, refl, sym, ap, ◌∙◌, arith, Bool, true, false, cond, nat_lt, ◌==◌, Option, None}
use Rattle.std.specs.List.{prefix_len}
use Rattle.std.proofs.lemmas.Bool.{cond_both}
use Rattle.std.proofs.lemmas.List.{length-drop}
use Rattle.std.specs.Int.Digits.{number_from_digits_after}
use Rattle.std.specs.Prelude.{map, slice_set}
use Rattle.al_base.specs.Ascii.{ascii}
use Rattle.al_base.specs.Digits.{number_from_decimal, digit_of}
use Rattle.al_base.specs.FirstBytes.{begins_with}
use Rattle.std.specs.Char.{is_ascii_digit}
use Rattle.al_expr_typing.specs.declared.placeholders.PlaceholderState.TheVariants.{Outside, AfterOpening, InIndex, AfterClosing}
use Rattle.al_expr_typing.specs.declared.placeholders.Turn.{Turn}
use Rattle.al_expr_typing.specs.declared.placeholders.Turn.TheVariants.{To, Names, Wrong}
use Rattle.al_expr_typing.specs.Placeholders.{Piece, Plain, Argument, NoPiece, argument_piece, piece_of, used_with, used_within}
use Rattle.al_expr_typing.specs.Private.PlaceholderStates.{after_turn, used_from}

-- ---- the states and the pieces of a text

-- the result for the text that follows a piece
abbrev after : List Bool → Piece → Option (List Bool)
after used p = used_with (used_from Outside) used p

-- the result for the text that follows a transition
abbrev goes : List Bool → List ℕ → Turn → Option (List Bool)
goes used bs t = after_turn t used (λ p now. used_from p now bs)

-- the number that digits give after digits that gave `n`
abbrev number_on : ℕ → List ℕ → ℕ
number_on n ds = number_from_digits_after 10 n (map digit_of ds)

-- an index whose digits so far gave `n`, where the text that follows begins with `len` digits
abbrev index_after : ℕ → ℕ → List ℕ → Piece
index_after n len bs = cond (begins_with (ascii "}") (drop len bs)) (Argument (number_on n (take len bs)) (drop 1 (drop len bs))) NoPiece

abbrev index_front : ℕ → List ℕ → Piece
index_front len bs = argument_piece (take len bs) (drop len bs)

index_at : (used : List Bool) (n b len : ℕ) (bs : List ℕ) (digit closing : Bool) → (b == ascii "}") ≡ closing
    → used_from (InIndex (10 * n + (b - ascii "0"))) used bs ≡ after used (index_after (10 * n + (b - ascii "0")) len bs)
    → goes used bs (cond digit (To (InIndex (10 * n + (b - ascii "0")))) (cond closing (Names n) Wrong))
    ≡ after used (index_after n (cond digit (1 + len) 0) (b ∷ bs))
index_at used n b len bs true closing e f =
    let same : 10 * n + (b - ascii "0") ≡ n * 10 + (b - ascii "0") = omega arith in
    let more : suc len ≡ 1 + len = omega arith in
    f ∙ ap (λ m. after used (index_after m len bs)) same ∙ ap (λ l. after used (index_after n l (b ∷ bs))) more
index_at used n b len bs false true e f = sym (ap (λ t. after used (cond t (Argument n bs) NoPiece)) e)
index_at used n b len bs false false e f = sym (ap (λ t. after used (cond t (Argument n bs) NoPiece)) e)

index : (used : List Bool) (n : ℕ) (bs : List ℕ) → used_from (InIndex n) used bs ≡ after used (index_after n (prefix_len is_ascii_digit bs) bs)
index used n [] = refl
index used n (b ∷ bs) =
    index_at used n b (prefix_len is_ascii_digit bs) bs (is_ascii_digit b) (b == ascii "}") refl (index used (10 * n + (b - ascii "0")) bs)

opening_at : (used : List Bool) (b len : ℕ) (bs : List ℕ) (opens digit : Bool) → used_from (InIndex (b - ascii "0")) used bs ≡ after used (index_after (b - ascii "0") len bs)
    → goes used bs (cond opens (To Outside) (cond digit (To (InIndex (b - ascii "0"))) Wrong))
    ≡ after used (cond opens (Plain bs) (index_front (cond digit (1 + len) 0) (b ∷ bs)))
opening_at used b len bs true digit f = refl
opening_at used b len bs false true f =
    let e : b - ascii "0" ≡ 0 * 10 + (b - ascii "0") = omega arith in
    let more : suc len ≡ 1 + len = omega arith in
    f ∙ ap (λ n. after used (index_after n len bs)) e ∙ ap (λ l. after used (index_front l (b ∷ bs))) more
opening_at used b len bs false false f = refl

-- after a `{`
opening : (used : List Bool) (bs : List ℕ) → used_from AfterOpening used bs
    ≡ after used (cond (begins_with (ascii "{") bs) (Plain (drop 1 bs)) (index_front (prefix_len is_ascii_digit bs) bs))
opening used [] = refl
opening used (b ∷ bs) = opening_at used b (prefix_len is_ascii_digit bs) bs (b == ascii "{") (is_ascii_digit b) (index used (b - ascii "0") bs)

closing_at : (used : List Bool) (bs : List ℕ) (closes : Bool) → goes used bs (cond closes (To Outside) Wrong) ≡ after used (cond closes (Plain bs) NoPiece)
closing_at used bs true = refl
closing_at used bs false = refl

-- after a `}`
closing : (used : List Bool) (bs : List ℕ) → used_from AfterClosing used bs ≡ after used (cond (begins_with (ascii "}") bs) (Plain (drop 1 bs)) NoPiece)
closing used [] = refl
closing used (b ∷ bs) = closing_at used bs (b == ascii "}")

piece_at : (used : List Bool) (bs : List ℕ) (opens closes : Bool)
    → goes used bs (cond opens (To AfterOpening) (cond closes (To AfterClosing) (To Outside)))
    ≡ after used (cond opens (cond (begins_with (ascii "{") bs) (Plain (drop 1 bs)) (index_front (prefix_len is_ascii_digit bs) bs))
    (cond closes (cond (begins_with (ascii "}") bs) (Plain (drop 1 bs)) NoPiece) (Plain bs)))
piece_at used bs true closes = opening used bs
piece_at used bs false true = closing used bs
piece_at used bs false false = refl

piece : (used : List Bool) (b : ℕ) (bs : List ℕ) → used_from Outside used (b ∷ bs) ≡ after used (piece_of (b ∷ bs))
piece used b bs = piece_at used bs (b == ascii "{") (b == ascii "}")

-- ---- the text after a piece is shorter

abbrev IsWithin : ℕ → Piece → Type 0
IsWithin n NoPiece = Unit {0}
IsWithin n (Plain rest) = length rest ≤ n
IsWithin n (Argument k rest) = length rest ≤ n

drop_within : (bs : List ℕ) (n : ℕ) → length bs ≤ n → length (drop 1 bs) ≤ n
drop_within [] n h = h
drop_within (b ∷ bs) n h = omega arith

index_within : (ds rest : List ℕ) (n : ℕ) → length rest ≤ n → IsWithin n (argument_piece ds rest)
index_within [] rest n h = tt
index_within (d ∷ ds) rest n h =
    cond_both (begins_with (ascii "}") rest) (Argument (number_from_decimal (d ∷ ds)) (drop 1 rest)) NoPiece (IsWithin n) (λ e. drop_within rest n h) (λ e. tt)

piece_within : (b : ℕ) (bs : List ℕ) (n : ℕ) → length bs ≤ n → IsWithin n (piece_of (b ∷ bs))
piece_within b bs n h =
    cond_both (b == ascii "{") _ _ (IsWithin n)
    (λ e. cond_both (begins_with (ascii "{") bs) _ _ (IsWithin n) (λ e. drop_within bs n h)
    (λ e. index_within _ (drop (prefix_len is_ascii_digit bs) bs) n (omega (arith, h, length-drop (prefix_len is_ascii_digit bs) bs))))
    (λ e. cond_both (b == ascii "}") _ _ (IsWithin n) (λ e. cond_both (begins_with (ascii "}") bs) _ _ (IsWithin n) (λ e. drop_within bs n h) (λ e. tt)) (λ e. h))

-- ---- piece after piece, by induction on the length of the text

abbrev AreWithin : ℕ → Type 0
AreWithin n = (used : List Bool) (bs : List ℕ) → length bs ≤ n → used_from Outside used bs ≡ used_within n used bs

further : (n : ℕ) (used : List Bool) (p : Piece) → IsWithin n p → AreWithin n → after used p ≡ used_with (used_within n) used p
further n used NoPiece h f = refl
further n used (Plain rest) h f = f used rest h
further n used (Argument k rest) h f = ap (λ o. cond (nat_lt k (length used)) o None) (f (slice_set used k true) rest h)

within : (n : ℕ) → AreWithin n
within zero used [] h = refl
within (suc n) used [] h = refl
within zero used (b ∷ bs) h = absurd (omega arith)
within (suc n) used (b ∷ bs) h = piece used b bs ∙ further n used (piece_of (b ∷ bs)) (piece_within b bs n (omega arith)) (λ u cs k. within n u cs k)

pub states_tell : (used : List Bool) (text : List ℕ) → used_from Outside used text ≡ used_within (length text) used text
states_tell used text = within (length text) used text (omega arith)
