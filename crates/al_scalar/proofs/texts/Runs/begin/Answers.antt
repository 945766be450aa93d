use Rattle.std.proofs.Common.{◌≡◌, ◌∷◌, [], ◌++◌, ◌∙◌, ◌+◌, ◌≤◌, ℕ, List, Bool, length, ap, subst, sym, refl, arith}
use Rattle.std.proofs.lemmas.Bool.{eqb-true}
use Rattle.al_scalar.specs.Private.Segments.{first_run, offset_at, cells_from, IsOrdered, GoesOn}
use Rattle.al_scalar.specs.declared.texts.Segment.{Segment}
use Rattle.al_scalar.proofs.RunLemmas.{first-goes-on, IsOrdered-first, IsOrdered-more, cells_from-run, next-run}
use Rattle.al_scalar.proofs.texts.Runs.begin.Goals as goal

-- the view after a push
pushed : (first : ℕ) (rest new view more : List Segment) → first_run first ∷ rest ≡ view → new ≡ rest ++ more → first_run first ∷ new ≡ view ++ more
pushed first rest new view more v e = ap (λ runs. first_run first ∷ runs) e ∙ ap (λ runs. runs ++ more) v

pub returns : goal.returns
returns c =
    let n = c.args.index in
    let s : Segment = record { index = n; offset = c.args.at; moves = c.args.moves } in
    let runs = c.args.self.now in
    let added = pushed c.self.inside.first c.self.inside.rest.items c.push.new.self.items runs (s ∷ []) c.self.view_is c.in_ok-push.ensures.items in
    record {
      order = subst (λ xs. IsOrdered n xs) (sym added) (IsOrdered-more n runs s c.requires refl);
      cells = λ bs e. let h : 0 + length bs ≤ n = omega (arith, e) in ap (cells_from 0 bs) added ∙ cells_from-run 0 bs runs s h;
      next = next-run runs _ n c.args.at c.args.moves added;
    }

pub returns-in_err-push-clause-order : goal.returns-in_err-push-clause-order
returns-in_err-push-clause-order c =
    subst (IsOrdered c.args.index) (sym (ap (λ runs. first_run c.self.inside.first ∷ runs) c.in_err-push.ensures.items ∙ c.self.view_is)) c.requires

pub returns-then-goes_on-clause-next : goal.returns-then-goes_on-clause-next
returns-then-goes_on-clause-next c =
    subst (λ (b : Bool). GoesOn c.args.self.now c.args.index c.args.at b) (sym c.if-moves-2.true) (c.if-goes_on.ensures refl)

pub returns-then-is_empty-clause-order : goal.returns-then-is_empty-clause-order
returns-then-is_empty-clause-order c =
    let rest = c.self.inside.rest in
    let none : length rest.items ≡ 0 = omega (arith, eqb-true _ _ (sym c.is_empty.ensures ∙ c.if-is_empty.true), rest.ok.0) in
    IsOrdered-first c.args.at c.args.index rest.items none

pub returns-then-is_empty-clause-next : goal.returns-then-is_empty-clause-next
returns-then-is_empty-clause-next c =
    let rest = c.self.inside.rest in
    let none : length rest.items ≡ 0 = omega (arith, eqb-true _ _ (sym c.is_empty.ensures ∙ c.if-is_empty.true), rest.ok.0) in
    subst (λ (b : Bool). GoesOn (first_run c.args.at ∷ rest.items) c.args.index c.args.at b) (sym c.if-moves.true)
    (λ k. subst (λ n. offset_at (first_run c.args.at ∷ rest.items) (n + k) ≡ c.args.at + k) (sym c.if-index-eq0.true) (first-goes-on rest.items c.args.at none k))
