use Rattle.std.proofs.Common.{◌≡◌, ◌∙◌, ◌≤◌, ◌<◌, ◌^◌, [], ◌∷◌, take, ap, refl, sym, subst, arith}
use Rattle.al_scalar.specs.Private.Forms.{short_cells}
use Rattle.al_scalar.specs.Private.Segments.{first_run, offset_in, offset_at}
use Rattle.al_scalar.proofs.Locating.{located, offset_or-small}
use Rattle.al_scalar.proofs.RunLemmas.{after-after}
use Rattle.al_scalar.proofs.texts.ShortText.locate.Goals as goal

pub locate-requires-clause-fits : goal.locate-requires-clause-fits
locate-requires-clause-fits c =
    let s = c.args.self.now in
    let i = c.args.i in
    let run = first_run s.first in
    let none : 0 ≤ i = omega arith in
    let found : offset_in c.first.result i ≡ offset_at (run ∷ []) i = ap (λ x. offset_in x i) c.first.ensures ∙ sym (after-after 0 run i none) in
    let at = located (take s.count s.bytes) (run ∷ []) (short_cells s) (offset_in c.first.result i) i 0 refl c.requires.inside found in
    subst (λ o. o < 2 ^ 32) (sym at) (offset_or-small (short_cells s) 0 i c.requires.sound.1 c.requires.inside)

pub returns : goal.returns
returns c = λ end.
    let s = c.args.self.now in
    let i = c.args.i in
    let run = first_run s.first in
    let none : 0 ≤ i = omega arith in
    let found : offset_in c.first.result i ≡ offset_at (run ∷ []) i = ap (λ x. offset_in x i) c.first.ensures ∙ sym (after-after 0 run i none) in
    c.locate.ensures ∙ located (take s.count s.bytes) (run ∷ []) (short_cells s) (offset_in c.first.result i) i end refl c.requires.inside found
