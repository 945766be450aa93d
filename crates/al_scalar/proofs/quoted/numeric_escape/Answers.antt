use Rattle.std.proofs.Common.{◌+◌, slice_index, subst, sym, arith}
use Rattle.al_scalar.specs.Quoted.{character_cells}
use Rattle.al_scalar.specs.Private.QuotedRead.{ReadsOn}
use Rattle.al_scalar.specs.declared.quoted.Quotes.TheVariants.{Double}
use Rattle.al_scalar.proofs.MarkLemmas.{letter_kind, wrong_digit, number, no_character, scalar_value, no_scalar_value, short_file, short_line}
use Rattle.al_scalar.proofs.quoted.numeric_escape.Goals as goal

pub returns-in-Wrong : goal.returns-in-Wrong
returns-in-Wrong c = λ q.
    let bytes = c.args.bytes.now in
    let kind = letter_kind (slice_index bytes (c.args.backslash + 1)) c.args.count c.requires.letter in
    wrong_digit bytes c.args.backslash (omega arith) c.requires.escape c.requires.inside kind.0 kind.1 c.args.count c.requires.other c.requires.letter q c.in-Wrong.ensures

pub returns-in-Short : goal.returns-in-Short
returns-in-Short c = λ q.
    let bytes = c.args.bytes.now in
    let kind = letter_kind (slice_index bytes (c.args.backslash + 1)) c.args.count c.requires.letter in
    let read = c.in-Short.ensures in
    short_file bytes c.args.backslash (omega arith) c.requires.escape c.requires.inside kind.0 kind.1 c.args.count c.requires.other
    c.requires.letter c.in-Short.end read.0 read.1 read.2 read.3.0 read.3.1 q (omega arith)

pub returns-in-Short-2 : goal.returns-in-Short-2
returns-in-Short-2 c = λ q.
    let bytes = c.args.bytes.now in
    let kind = letter_kind (slice_index bytes (c.args.backslash + 1)) c.args.count c.requires.letter in
    let read = c.in-Short.ensures in
    short_line bytes c.args.backslash (omega arith) c.requires.escape c.requires.inside kind.0 kind.1 c.args.count c.requires.other
    c.requires.letter c.in-Short.end read.0 read.1 read.2 read.3.0 read.3.1 q (omega (arith, read.0.0.inside))

pub returns-in-Some : goal.returns-in-Some
returns-in-Some c =
    let bytes = c.args.bytes.now in
    let at = c.args.backslash in
    let kind = letter_kind (slice_index bytes (at + 1)) c.args.count c.requires.letter in
    let read = c.in-Code.ensures in
    let reads = number bytes at (omega arith) c.requires.escape c.requires.inside kind.0 kind.1 c.args.count c.requires.other
    c.requires.letter read.0 c.in-Code.code read.1 (scalar_value c.in-Code.code c.in-Some.ensures.value.0) in
    (omega arith, read.0.0.inside, subst (λ x. ReadsOn Double bytes at (character_cells at x) (at + 1 + 1 + c.args.count)) (sym c.in-Some.ensures.value.1) reads)

pub returns-in-None : goal.returns-in-None
returns-in-None c = λ q.
    let bytes = c.args.bytes.now in
    let kind = letter_kind (slice_index bytes (c.args.backslash + 1)) c.args.count c.requires.letter in
    let read = c.in-Code.ensures in
    no_character bytes c.args.backslash (omega arith) c.requires.escape c.requires.inside kind.0 kind.1 c.args.count c.requires.other
    c.requires.letter read.0 c.in-Code.code read.1 q (no_scalar_value c.in-Code.code c.in-None.ensures.value)
