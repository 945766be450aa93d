-- The end of a text, byte by byte, as the definition of `text_tail` has it.
use Rattle.std.proofs.Common.{◌≡◌, ℕ, List, [], ◌∷◌, Bool, true, false, cond, Option, Some, None, refl, ap, ◌∙◌, arith}
use Rattle.al_expr_grammar.specs.Tokens.{add_to, is_quote, text_tail}

-- one byte of a text: whether a quote came before it, and whether it is a quote itself
abbrev pub after_byte : Bool → Bool → (Bool → Option ℕ) → Option ℕ
after_byte false quote go = add_to 1 (go quote)
after_byte true true go = add_to 1 (go false)
after_byte true false go = Some 0

-- The number of bytes up to the end of a text. The flag says that the last byte was a quote, which may close it.
abbrev pub tail_from : Bool → List ℕ → Option ℕ
tail_from false [] = None
tail_from true [] = Some 0
tail_from quote (b ∷ bs) = after_byte quote (is_quote b) (λ q. tail_from q bs)

twice : (o : Option ℕ) → add_to 1 (add_to 1 o) ≡ add_to 2 o
twice None = refl
twice (Some n) = ap Some (omega arith)

last_byte : (quote : Bool) → add_to 1 (tail_from quote []) ≡ cond quote (Some 1) None
last_byte true = refl
last_byte false = refl

two_bytes : (first second : Bool) (c : ℕ) (bs : List ℕ) (rest after : Option ℕ) → tail_from false bs ≡ rest
    → after_byte false second (λ q. tail_from q bs) ≡ after
    → add_to 1 (after_byte first second (λ q. tail_from q bs)) ≡ cond first (cond second (add_to 2 rest) (Some 1)) (add_to 1 after)
two_bytes true true c bs rest after e f = twice (tail_from false bs) ∙ ap (add_to 2) e
two_bytes true false c bs rest after e f = refl
two_bytes false second c bs rest after e f = ap (add_to 1) f

pub tail_is : (bs : List ℕ) → tail_from false bs ≡ text_tail bs
tail_is [] = refl
tail_is (b ∷ []) = last_byte (is_quote b)
tail_is (b ∷ c ∷ bs) =
    two_bytes (is_quote b) (is_quote c) c bs (text_tail bs) (text_tail (c ∷ bs)) (tail_is bs) (tail_is (c ∷ bs))
