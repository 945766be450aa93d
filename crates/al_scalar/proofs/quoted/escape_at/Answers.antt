use Rattle.std.proofs.Common.{◌≡◌, ◌==◌, ◌+◌, ◌≢◌, None, slice_index, ◌<◌, length, refl, arith, sym, inl, inr, rules}
use Rattle.al_scalar.specs.Quoted.{escape_table}
use Rattle.std.specs.Map.{lookup}
use Rattle.al_scalar.proofs.LineCells.{never}
use Rattle.al_scalar.proofs.MarkLemmas.{escape_cut, escaped_break, one_letter, no_letter}
use Rattle.al_scalar.proofs.quoted.escape_at.Goals as goal

pub returns-then-at-bytes : goal.returns-then-at-bytes
returns-then-at-bytes c = λ q. escape_cut c.args.bytes.now c.args.backslash c.requires.inside c.requires.escape q c.if-at-bytes.true

pub returns-then-is_break_at : goal.returns-then-is_break_at
returns-then-is_break_at c =
    let found = c.if-is_break_at.ensures.0 refl in
    (omega arith, found.0, λ _. found.1, λ q. escaped_break c.args.bytes.now c.args.backslash c.requires.inside c.requires.escape q found.0 (λ _. found.1))

pub returns-in-Some : goal.returns-in-Some
returns-in-Some c =
    let bytes = c.args.bytes.now in
    let at = c.args.backslash in
    let l : at + 1 < length bytes = omega (arith, c.requires.inside) in
    let n : slice_index bytes (at + 1) ≢ 10 = λ e. never (c.if-is_break_at.ensures.1 (l, inl e)) in
    let m : slice_index bytes (at + 1) ≢ 13 = λ e. never (c.if-is_break_at.ensures.1 (l, inr e)) in
    (omega arith, omega arith, one_letter bytes at c.requires.inside c.requires.escape l n m c.in-Some.character (sym c.in-Some.ensures))

pub returns-in-None : goal.returns-in-None
returns-in-None c = λ q.
    let bytes = c.args.bytes.now in
    let at = c.args.backslash in
    let l : at + 1 < length bytes = omega (arith, c.requires.inside) in
    let n : slice_index bytes (at + 1) ≢ 10 = λ e. never (c.if-is_break_at.ensures.1 (l, inl e)) in
    let m : slice_index bytes (at + 1) ≢ 13 = λ e. never (c.if-is_break_at.ensures.1 (l, inr e)) in
    let other : lookup (λ k. k == slice_index bytes (at + 1)) escape_table ≡ None = search rules in
    no_letter bytes at c.requires.inside c.requires.escape l n m q other (sym c.in-None.ensures.value)
