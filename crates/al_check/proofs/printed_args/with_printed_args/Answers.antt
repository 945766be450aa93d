use Rattle.std.proofs.Common.{rules, tests, ◌≡◌, ◌∙◌, sym}
use Rattle.std.proofs.lemmas.Iterator.{YieldsList-from_slice, cases_from_all}
use Rattle.std.proofs.lemmas.List.Elements.{All-from_all_within}
use Rattle.std.proofs.lemmas.List.Folds.{map_fixed}
use Rattle.al_check.specs.FileFaults.{printed_fault}
use Rattle.al_check.proofs.printed_args.with_printed_args.Goals as goal

pub returns-then-all : goal.returns-then-all
returns-then-all c =
    let cases = cases_from_all _ _ c.all.result (λ f. printed_fault f ≡ f) (λ f. Unit {0}) c.all.ensures.ran
    (YieldsList-from_slice c.args.found.items (c.iter.ensures.rest ∙ c.deref.ensures.value)) (λ x q k. search (rules, tests)) (λ x q k. tt) in
    sym (map_fixed printed_fault c.args.found.items (All-from_all_within (λ f. printed_fault f ≡ f) c.args.found.items (rw c.if-all.true at cases)))
