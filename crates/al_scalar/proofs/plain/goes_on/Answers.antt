use Rattle.std.proofs.Common.{◌∙◌, ◌&&◌, not, ap, sym}
use Rattle.al_scalar.specs.Plain.{continues}
use Rattle.al_scalar.specs.Private.PlainLines.{context_of}
use Rattle.al_scalar.specs.Places.{text_at}
use Rattle.al_scalar.proofs.LineCells.{never}
use Rattle.al_scalar.proofs.PlainLemmas.{text_at-some}
use Rattle.al_scalar.proofs.plain.goes_on.Goals as goal

pub returns-then-not-is_line_end : goal.returns-then-not-is_line_end
returns-then-not-is_line_end c =
    let bytes = c.args.bytes.now in
    c.continues.ensures ∙ ap (λ b. not b && continues (context_of c.args.context) (text_at bytes c.args.start))
    (sym (text_at-some bytes c.args.solid c.requires.inside (λ h. never (c.if-not-is_line_end.ensures.1 h))))
