use Rattle.std.proofs.Common.{◌∙◌, Ok, Err, subst}
use Rattle.al_scalar.specs.Characters.{character_at}
use Rattle.al_scalar.specs.Places.{lines_at}
use Rattle.al_scalar.specs.Private.PlainLines.{context_of}
use Rattle.al_scalar.specs.Private.Reads.{Gives}
use Rattle.al_scalar.specs.Scalar.{taken_as}
use Rattle.al_scalar.proofs.ScalarLemmas.{scalar-is, scalar-ok, scalar-fault, fault-start}
use Rattle.std.proofs.Common.{◌≡◌, sym}
use Rattle.al_scalar.proofs.reader.read_in_context.Goals as goal

pub returns-in_ok-read-in-Ok-clause-gives : goal.returns-in_ok-read-in-Ok-clause-gives
returns-in_ok-read-in-Ok-clause-gives c =
    let bytes = c.args.bytes.now in
    let p = context_of c.args.context in
    let style = c.style_at-style.result in
    let asked = taken_as p style (lines_at bytes c.args.at) in
    let gives : Gives bytes asked (Ok c.in-Ok.taken) = subst (λ r. Gives bytes asked r) c.in-Ok.is c.in_ok-taken.ensures.gives in
    scalar-is p bytes c.args.at style c.requires.inside c.style_at-style.ensures
    ∙ scalar-ok bytes c.args.at style c.class_in_style-class.result asked c.in-Ok.taken c.in_ok-read-in-Ok.read gives c.class_in_style-class.ensures
    c.in_ok-read-in-Ok.ensures.scalar c.in_ok-read-in-Ok.ensures.next

pub returns-in-Err-clause-gives : goal.returns-in-Err-clause-gives
returns-in-Err-clause-gives c =
    let bytes = c.args.bytes.now in
    let p = context_of c.args.context in
    let style = c.style_at-style.result in
    let fault = c.in-Err.fault in
    let asked = taken_as p style (lines_at bytes c.args.at) in
    let gives : Gives bytes asked (Err fault) = subst (λ r. Gives bytes asked r) c.in-Err.is c.in_ok-taken.ensures.gives in
    let span = c.fault_at.ensures.span in (
      scalar-is p bytes c.args.at style c.requires.inside c.style_at-style.ensures ∙ scalar-fault bytes c.args.at style asked fault c.fault_at.result gives c.fault_at.ensures.code span,
      subst (λ i. c.fault_at.result.span ≡ character_at bytes i) (sym (fault-start bytes fault.at c.fault_at.result span)) span,
    )
