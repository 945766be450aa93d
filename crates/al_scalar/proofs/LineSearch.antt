-- The end of a line, as a search for its break finds it.
use Rattle.std.proofs.Common.{◌≡◌, ℕ, zero, suc, ◌+◌, ◌-◌, ◌≤◌, List, true, ◌==◌, ◌++◌, append-nil, drop, take, take_all, length}
use Rattle.std.proofs.Common.{length-drop, slice_index, arith, subst, sym, ap, ◌∙◌, inl, inr}
use Rattle.std.proofs.lemmas.Bool.{eqb-true, or_cases}
use Rattle.std.proofs.lemmas.List.{get_or-drop}
use Rattle.memchr.specs.Find.{NoneBefore, Nowhere, Passes, is_byte2}
use Rattle.al_scalar.specs.Places.{first_end, lines_at, text_at}
use Rattle.al_scalar.specs.LineEnds.{IsBreakByte, IsLineEnd, OnLine, cells_between}
use Rattle.al_scalar.proofs.BlockLemmas.{run-more, run-none}
use Rattle.al_scalar.proofs.LineParts.{end_further}
use Rattle.al_scalar.proofs.LineCells.{IsInside, RunBefore, text-line_end}

break_byte : (b : ℕ) → is_byte2 10 13 b ≡ true → IsBreakByte b
break_byte b passes = elim (or_cases (b == 10) (b == 13) passes) [ inl e ↦ inl (eqb-true b 10 e) | inr e ↦ inr (eqb-true b 13 e) ]

-- the line from `at` ends at `to`
pub record IsLineTo (bytes : List ℕ) (at to : ℕ) : Type 0 where
  pub on_line : OnLine bytes at to
  pub text : text_at bytes at ≡ cells_between bytes at to
  pub end : first_end (lines_at bytes at) ≡ to

-- the bytes that are searched: all from `at` on
module _ (bytes : List ℕ) (at : ℕ) (start : at ≤ length bytes) where
  abbrev rest : List ℕ
  rest = take (length bytes - at) (drop at bytes)

  all_left : rest ≡ drop at bytes
  all_left = take_all (length bytes - at) (drop at bytes) (omega (arith, length-drop at bytes))

  byte_at : (n : ℕ) → slice_index rest n ≡ slice_index bytes (at + n)
  byte_at n = ap (λ xs. slice_index xs n) all_left ∙ get_or-drop at bytes n 0

  size : length rest ≡ length bytes - at
  size = ap length all_left ∙ length-drop at bytes

  abbrev IsBreak : ℕ → Type 0
  IsBreak = Passes (is_byte2 10 13) rest

  abbrev RunTo : ℕ → Type 0
  RunTo to = RunBefore (cells_between bytes at to) (lines_at bytes at) (lines_at bytes to)

  run_to : (n : ℕ) → at + n ≤ length bytes → Nowhere IsBreak 0 n → RunTo (at + n)
  run_to zero room none = subst RunTo (omega arith) (run-none bytes at)
  run_to (suc n) room none =
      let here : IsInside bytes (at + n) = record {
        inside = omega (arith, room);
        not_feed = λ e. none n (omega arith) (omega arith) (ap (is_byte2 10 13) (byte_at n ∙ e));
        not_return = λ e. none n (omega arith) (omega arith) (ap (is_byte2 10 13) (byte_at n ∙ e));
      } in
      subst RunTo (omega arith)
      (run-more bytes at (at + n) (omega arith) here (run_to n (omega (arith, room)) (λ k low high. none k low (omega (arith, high)))))

  -- no break is before at + n, where the line ends
  module _ (n : ℕ) (room : n ≤ length rest) (none : Nowhere IsBreak 0 n) (ends : IsLineEnd bytes (at + n)) where
    inside : at + n ≤ length bytes
    inside = omega (arith, room, size, start)

    line_to : IsLineTo bytes at (at + n)
    line_to =
        let run = run_to n inside none in
        record {
          on_line = record { from = omega arith; inside = inside; same = run.same };
          text = run.text ∙ ap (λ t. cells_between bytes at (at + n) ++ t) (text-line_end bytes (at + n) inside ends) ∙ append-nil (cells_between bytes at (at + n));
          end = end_further bytes at (at + n) inside ends run.same;
        }

  pub to_here : IsLineEnd bytes at → IsLineTo bytes at at
  to_here ends =
      let here : at + 0 ≡ at = omega arith in
      subst (IsLineTo bytes at) here (line_to 0 (omega arith) (λ k low high. absurd (omega (arith, high))) (subst (IsLineEnd bytes) (sym here) ends))

  pub to_break : (n : ℕ) → NoneBefore IsBreak 0 (length rest) n → IsBreak n → IsLineTo bytes at (at + n)
  to_break n first is =
      line_to n (omega (arith, first.high)) first.before (λ room. break_byte (slice_index bytes (at + n)) (ap (is_byte2 10 13) (sym (byte_at n)) ∙ is))

  pub to_file_end : Nowhere IsBreak 0 (length rest) → IsLineTo bytes at (length bytes)
  to_file_end none =
      subst (IsLineTo bytes at) (omega (arith, size, start))
      (line_to (length rest) (omega arith) none (λ room. absurd (omega (arith, size, start, room))))
