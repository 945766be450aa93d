-- What one iteration of the reader of quoted scalars appends.
use Rattle.std.proofs.Common.{◌≡◌, ℕ, List, ◌++◌, sym, ap, ◌∙◌, Bool, Result}
use Rattle.al_scalar.specs.Line.{Cell}
use Rattle.al_scalar.specs.Taken.{Taken, before}
use Rattle.al_scalar.specs.declared.faults.FaultAt.{FaultAt}
use Rattle.al_scalar.specs.declared.quoted.Quotes.{Quotes}
use Rattle.al_scalar.specs.Places.{lines_at}
use Rattle.al_scalar.specs.LineEnds.{later}
use Rattle.al_scalar.specs.Private.PlainLines.{empty_ends, break_left}
use Rattle.al_scalar.specs.Private.Folding.{solid_lines}
use Rattle.al_scalar.specs.Private.QuotedRead.{part_in, quoted_in, ReadsOn, read_after_break}
use Rattle.al_scalar.proofs.FoldLemmas.{before-two}
use Rattle.al_scalar.proofs.QuotedLemmas.{IsReader, break-fold}
use Rattle.al_scalar.proofs.PartLemmas.{part-end, part-some}

module _ (quotes : Quotes) (bytes : List ℕ) where
  is_reader : IsReader (part_in quotes)
  is_reader = record { none = part-end quotes; some = part-some quotes }

  pub read_more : {x : Result Taken FaultAt} {new : List Cell} (i j q : ℕ) (text run : List Cell)
      → x ≡ before text (quoted_in quotes q (lines_at bytes i)) → ReadsOn quotes bytes i run j → new ≡ text ++ run
      → x ≡ before new (quoted_in quotes q (lines_at bytes j))
  read_more i j q text run e r f =
      let read = quoted_in quotes q (lines_at bytes j) in
      e ∙ ap (before text) (r q) ∙ before-two text run read ∙ ap (λ t. before t read) (sym f)

  pub read_break : {x : Result Taken FaultAt} {new : List Cell} (i end next q : ℕ) (escaped : Bool) (text : List Cell)
      → x ≡ before text (quoted_in quotes q (lines_at bytes i)) → quoted_in quotes q (lines_at bytes i) ≡ read_after_break quotes bytes end escaped q
      → solid_lines (later (lines_at bytes end)) ≡ lines_at bytes next
      → new ≡ text ++ break_left escaped end (empty_ends (later (lines_at bytes end))) → x ≡ before new (quoted_in quotes q (lines_at bytes next))
  read_break i end next q escaped text e r s f =
      let run = break_left escaped end (empty_ends (later (lines_at bytes end))) in
      let read = quoted_in quotes q (lines_at bytes next) in
      e ∙ ap (before text) (r ∙ break-fold (part_in quotes) q is_reader escaped end (later (lines_at bytes end)) ∙ ap (λ ls. before run (quoted_in quotes q ls)) s)
      ∙ before-two text run read ∙ ap (λ t. before t read) (sym f)
