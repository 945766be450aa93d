use Rattle.std.proofs.Common.{◌≡◌, ℕ, List, false, ◌&&◌, length, nat_le, arith, ap, ⊎_elim}
use Rattle.std.specs.Str.{IsUtf8, is_utf8}
use Rattle.std.proofs.lemmas.Bool.{cases_Bool}
use Rattle.std.proofs.lemmas.Str.{IsUtf8-from_is_utf8}
use Rattle.al_expr_grammar.specs.Lone.{is_short}
use Rattle.al_expr_grammar.proofs.LoneChunks.{short}
use Rattle.al_expr_grammar.proofs.lone.short_text.Goals as goal

not_short : (text : List ℕ) → ¬ IsUtf8 text → is_short text ≡ false
not_short text n =
    ⊎_elim (λ t. absurd (n (IsUtf8-from_is_utf8 text t))) (λ f. ap (λ b. b && nat_le (length text) 4194304) f) (cases_Bool (is_utf8 text))

pub returns-in-Ok : goal.returns-in-Ok
returns-in-Ok c = (c.in-Ok.ensures.cases.0, short c.args.bytes.now c.in-Ok.ensures.cases.1 (omega arith))

pub returns-in-Err : goal.returns-in-Err
returns-in-Err c = not_short c.args.bytes.now c.in-Err.ensures.cases.0
