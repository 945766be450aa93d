-- The value of a text literal, character by character.
use Rattle.std.proofs.Common.{◌≡◌, ℕ, List, [], ◌∷◌, refl, ap, Bool, true, false, cond}
use Rattle.std.specs.Prelude.{◌&&◌, not}
use Rattle.al_expr_grammar.specs.Tokens.{is_quote}
use Rattle.al_expr_typing.specs.Literals.{inside_quotes}

-- The characters that are left to read, without the first of each two quotes and the closing quote. Each is known to be the second of two
-- quotes or not.
abbrev pub unquoted : Bool → List ℕ → List ℕ
unquoted after_quote [] = []
unquoted after_quote (c ∷ cs) =
    let quote = not after_quote && is_quote c in
    let more = unquoted quote cs in
    cond quote more (c ∷ more)

one_left : (c : ℕ) (quote : Bool) → cond quote (unquoted quote []) (c ∷ unquoted quote []) ≡ cond quote [] (c ∷ [])
one_left c true = refl
one_left c false = refl

two_left : (c d : ℕ) (cs : List ℕ) (quote : Bool) → unquoted false cs ≡ inside_quotes cs → unquoted false (d ∷ cs) ≡ inside_quotes (d ∷ cs)
    → cond quote (unquoted quote (d ∷ cs)) (c ∷ unquoted quote (d ∷ cs)) ≡ cond quote (d ∷ inside_quotes cs) (c ∷ inside_quotes (d ∷ cs))
two_left c d cs true e f = ap (λ l. d ∷ l) e
two_left c d cs false e f = ap (λ l. c ∷ l) f

pub is_read : (cs : List ℕ) → unquoted false cs ≡ inside_quotes cs
is_read [] = refl
is_read (c ∷ []) = one_left c (is_quote c)
is_read (c ∷ d ∷ cs) = two_left c d cs (is_quote c) (is_read cs) (is_read (d ∷ cs))
