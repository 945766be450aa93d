use Rattle.std.proofs.Common.{◌≡◌, ◌∙◌, ◌++◌, ◌∷◌, [], ◌-◌, ◌≤◌, ◌<◌, ◌^◌, ℕ, List, Result, IfOk, true, rules, length, length-drop, take, drop, slice_range, refl, ap, sym, subst, arith}
use Rattle.std.proofs.Math.Seq.{take-append_seam}
use Rattle.std.proofs.lemmas.List.{length-take-le}
use Rattle.al_scalar.specs.Line.{Cell}
use Rattle.al_scalar.specs.Private.Forms.{short_cells}
use Rattle.al_scalar.specs.LineEnds.{cells_between}
use Rattle.al_scalar.specs.Private.Segments.{first_run, cells_from, AreInRange}
use Rattle.al_scalar.proofs.RunLemmas.{new-run, run-between, first-goes-on, AreInRange-between}
use Rattle.al_scalar.proofs.texts.Text.push_run.Goals as goal

-- The cells of bytes of the file that were written over the first bytes of a buffer.
short-run : (file new rest : List ℕ) (from to : ℕ) → from ≤ to → to ≤ length file → new ≡ slice_range file from to
    → cells_from 0 (take (to - from) (new ++ rest)) (first_run from ∷ []) ≡ cells_between file from to
short-run file new rest from to order inside same =
    let room : to - from ≤ length (drop from file) = omega (arith, length-drop from file, inside, order) in
    let count : to - from ≡ length new = sym (ap length same ∙ length-take-le (to - from) (drop from file) room) in
    let taken : take (to - from) (new ++ rest) ≡ slice_range file from to = ap (λ n. take n (new ++ rest)) count ∙ take-append_seam new rest ∙ same in
    ap (λ bs. cells_from 0 bs (first_run from ∷ [])) taken
    ∙ new-run (first_run from ∷ []) 0 from true (slice_range file from to) (first-goes-on [] from refl) ∙ run-between file from to order inside

pushed : {A E : Type 0} (r : Result A E) (new now before run run' : List Cell) → before ≡ now → run ≡ run'
    → IfOk r (λ _. new ≡ before ++ run) → IfOk r (λ _. new ≡ now ++ run')
pushed r new now before run run' e f h =
    subst (λ (cells : List Cell). IfOk r (λ _. new ≡ cells)) (ap (λ xs. xs ++ run) e ∙ ap (λ xs. now ++ xs) f) h

pub invariant_of-self : goal.invariant_of-self
invariant_of-self c =
    let file = c.args.file.now in
    let cells = short-run file c.copy_from_slice.new.self _ c.args.from c.args.to c.requires.order c.requires.inside c.copy_from_slice.ensures.after in
    let small : c.args.to < 2 ^ 32 = omega (arith, c.requires.inside, c.requires.size) in
    (c.if-count-le-SHORT.true, subst AreInRange (sym cells) (AreInRange-between file c.args.from c.args.to c.requires.order small))

pub returns-then-count-le-SHORT : goal.returns-then-count-le-SHORT
returns-then-count-le-SHORT c =
    let s = c.in-Short.short in
    let file = c.args.file.now in
    let view : short_cells s ≡ c.args.self.now = rw c.in-Short.is at c.self.view_is in
    let none : c.args.self.now ≡ [] = sym view ∙ ap (λ n. cells_from 0 (take n s.bytes) (first_run s.first ∷ [])) c.if-short-eq0.true in
    short-run file c.copy_from_slice.new.self _ c.args.from c.args.to c.requires.order c.requires.inside c.copy_from_slice.ensures.after
    ∙ ap (λ cs. cs ++ cells_between file c.args.from c.args.to) (sym none)

pub extend-requires : goal.extend-requires
extend-requires c =
    let file = c.args.file.now in
    let small : c.args.to < 2 ^ 32 = omega (arith, c.requires.inside, c.requires.size) in
    subst AreInRange (sym (run-between file c.args.from c.args.to c.requires.order c.requires.inside))
    (AreInRange-between file c.args.from c.args.to c.requires.order small)

pub returns : goal.returns
returns c =
    let added = run-between c.args.file.now c.args.from c.args.to c.requires.order c.requires.inside in
    pushed _ _ _ _ _ _ (search rules) added c.extend.ensures
