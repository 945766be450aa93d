-- Which token may come next, and the first fault.
use Rattle.std.specs.Prelude.{ℕ, suc, ◌+◌, List, [], ◌∷◌, length, Bool, nat_lt, if◌then◌else◌}
use Rattle.al_base.specs.Limits.{deepest_expression}
use Rattle.al_expr_grammar.specs.declared.token.TokenKind.{TokenKind}
use Rattle.al_expr_grammar.specs.declared.token.TokenKind.TheVariants.{Name, Keyword, Number, Text}
use Rattle.al_expr_grammar.specs.declared.token.TokenKind.TheVariants.{Open, Close, OpenIndex}
use Rattle.al_expr_grammar.specs.declared.token.TokenKind.TheVariants.{CloseIndex, Dot}
use Rattle.al_expr_grammar.specs.declared.token.TokenKind.TheVariants.{Comma, Star, Bang, Infix}

-- E: an operand is expected. A: after a call's bracket. I: after an index's bracket. S: after `[*`.
-- D: after a dot. O: after an operand. N: after a name.
pub data Mode : Type 0 where
  E A I S D O N : Mode

pub data Bracket : Type 0 where
  Group Call Index : Bracket

-- an open bracket, with the number of negations that were open before it in the bracket around it
abbrev pub Frame : Type 0
Frame = Bracket × ℕ

-- What a token leads to: nothing, as it isn't allowed; a mode with this many negations open in the
-- innermost bracket, and the open brackets; or the same one level deeper.
pub data Transition : Type 0 where
  Stuck : Transition
  Go Deeper : Mode → ℕ → List Frame → Transition

abbrev pub operand : ℕ → List Frame → TokenKind → Transition
operand k st Name = Go N k st
operand k st (Keyword w) = Go O k st
operand k st Number = Go O k st
operand k st Text = Go O k st
operand k st Open = Deeper E 0 ((Group, k) ∷ st)
operand k st Bang = Deeper E (suc k) st
operand k st _ = Stuck

abbrev pub after_operand : ℕ → List Frame → TokenKind → Transition
after_operand k st (Infix o) = Go E 0 st
after_operand k st Dot = Go D k st
after_operand k st OpenIndex = Deeper I 0 ((Index, k) ∷ st)
after_operand k ((Group, j) ∷ st) Close = Go O j st
after_operand k ((Call, j) ∷ st) Close = Go O j st
after_operand k ((Call, j) ∷ st) Comma = Go E 0 ((Call, j) ∷ st)
after_operand k ((Index, j) ∷ st) CloseIndex = Go O j st
after_operand k st _ = Stuck

abbrev pub step : Mode → ℕ → List Frame → TokenKind → Transition
step A k st Close = after_operand k st Close
step I k st Star = Go S k st
step S k st CloseIndex = after_operand k st CloseIndex
step S k st t = Stuck
step D k st Name = Go O k st
step D k st (Keyword w) = Go O k st
step D k st Star = Go O k st
step D k st t = Stuck
step N k st Open = Deeper A 0 ((Call, k) ∷ st)
step N k st t = after_operand k st t
step O k st t = after_operand k st t
step m k st t = operand k st t

-- A fault is at the token at which this many are left, itself included.
pub data Verdict : Type 0 where
  Fine Early : Verdict
  Unexpected TooDeep : ℕ → Verdict

-- at the end of the tokens
abbrev pub finish : Mode → List Frame → Verdict
finish O [] = Fine
finish N [] = Fine
finish _ _ = Early

-- the brackets and negations that are open
abbrev pub outside : List Frame → ℕ
outside [] = 0
outside (f ∷ st) = 1 + f.1 + outside st

-- continues after a step, given whether there is room for one more level, and how many tokens were
-- left
abbrev pub onward : Transition → Bool → ℕ → (Mode → ℕ → List Frame → Verdict) → Verdict
onward Stuck room left go = Unexpected left
onward (Go m k st) room left go = go m k st
onward (Deeper m k st) room left go = if room then go m k st else TooDeep left

-- the verdict on the tokens, in a mode with this many negations in the innermost bracket, and the
-- open brackets
abbrev pub scan : Mode → ℕ → List Frame → List TokenKind → Verdict
scan m k st [] = finish m st
scan m k st (t ∷ ts) =
    onward (step m k st t) (nat_lt (k + outside st) deepest_expression) (suc (length ts))
    (λ m' k' st'. scan m' k' st' ts)

abbrev pub verdict_of : List TokenKind → Verdict
verdict_of ts = scan E 0 [] ts
