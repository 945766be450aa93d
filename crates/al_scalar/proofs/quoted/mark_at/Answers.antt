use Rattle.std.proofs.Common.{◌+◌, ◌<◌, length, refl, sym, arith, inl, inr}
use Rattle.al_scalar.proofs.LineCells.{never}
use Rattle.al_scalar.proofs.MarkLemmas.{double_closing, file_end, line_break, mark_byte, single_closing, single_pair}
use Rattle.al_scalar.proofs.ScalarLemmas.{begins-is}
use Rattle.al_scalar.proofs.quoted.mark_at.Goals as goal

pub returns-then-at-bytes : goal.returns-then-at-bytes
returns-then-at-bytes c = λ q. file_end c.args.quotes c.args.bytes.now c.args.at q c.if-at-bytes.true

pub returns-then-is_line_end : goal.returns-then-is_line_end
returns-then-is_line_end c =
    let l : c.args.at < length c.args.bytes.now = omega arith in
    let ends = c.if-is_line_end.ensures.0 refl in
    (omega arith, l, ends, λ q. line_break c.args.quotes c.args.bytes.now c.args.at q l ends)

pub returns-in-Single : goal.returns-in-Single
returns-in-Single c =
    let bytes = c.args.bytes.now in
    let l : c.args.at < length bytes = omega arith in
    let quote = rw c.in-Single.is at (mark_byte c.args.quotes bytes c.args.at l c.requires.ends (λ k. never (c.if-is_line_end.ensures.1 k))) in
    let next = c.if-begins.ensures.inside refl in
    rw c.in-Single.is (
      omega arith,
      omega arith,
      single_pair bytes c.args.at l quote next (begins-is 39 bytes (c.args.at + 1) (omega arith) (sym c.if-begins.ensures.value)).1,
    )

pub returns-in-Single-2 : goal.returns-in-Single-2
returns-in-Single-2 c =
    let bytes = c.args.bytes.now in
    let l : c.args.at < length bytes = omega arith in
    let quote = rw c.in-Single.is at (mark_byte c.args.quotes bytes c.args.at l c.requires.ends (λ k. never (c.if-is_line_end.ensures.1 k))) in
    rw c.in-Single.is (l, λ q. single_closing bytes c.args.at l quote q (sym c.if-begins.ensures.value))

pub returns-in-Double : goal.returns-in-Double
returns-in-Double c =
    let bytes = c.args.bytes.now in
    let l : c.args.at < length bytes = omega arith in
    rw c.in-Double.is (l, λ q. double_closing bytes c.args.at q l c.if-bytes-at-eq34.true)

pub escape_at-requires-clause-escape : goal.escape_at-requires-clause-escape
escape_at-requires-clause-escape c =
    let bytes = c.args.bytes.now in
    let l : c.args.at < length bytes = omega arith in
    let mark = rw c.in-Double.is at (mark_byte c.args.quotes bytes c.args.at l c.requires.ends (λ k. never (c.if-is_line_end.ensures.1 k))) in
    elim mark [ inl e ↦ absurd (c.if-bytes-at-eq34.false e) | inr e ↦ e ]

pub returns-in-Double-2 : goal.returns-in-Double-2
returns-in-Double-2 c = rw c.in-Double.is c.escape_at.ensures
