use Rattle.std.proofs.Common.{◌≡◌, ◌∙◌, ℕ, ◌≤◌, ◌<◌, List, arith, rules, leb, leb-true, get_or, length, subst, sym, true, false}
use Rattle.std.proofs.lemmas.Bool.Decides.{nat_tests}
use Rattle.std.specs.List.Sorted.{IsNonDecreasing, IsPartitionPoint}
use Rattle.std.proofs.lemmas.List.Sorted.{IsPartitionPoint-from_clause, IsPartitionedBy-leb}
use Rattle.al_base.proofs.lines.Lines.count_up_to.Goals as goal

leb-false : (a b : ℕ) → leb a b ≡ false → b < a
leb-false a b h = grind (arith, nat_tests)

pub returns : goal.returns
returns c =
    let starts = c.deref.result.now in
    let offset = c.args.offset in
    let r = c.partition_point.result in
    let same : starts ≡ c.args.self.now = c.deref.ensures.value ∙ c.self.view_is in
    let parted = IsPartitionedBy-leb (λ x. x) starts offset (subst IsNonDecreasing (sym same) c.requires) in
    let point : IsPartitionPoint (λ (x : ℕ). leb x offset ≡ true) (λ (x : ℕ). leb x offset ≡ false) starts r = IsPartitionPoint-from_clause
    (λ p. leb p offset) _ _ c.partition_point.ensures.partitioned parted (λ a r q k. search rules) in
    subst (λ (s : List ℕ). record { bound : r ≤ length s; up_to : (k : ℕ) → k < r → get_or s k 0 ≤ offset; after : (k : ℕ) → r ≤ k → k < length s → offset < get_or s k 0 }) same
    (record {
      bound = c.partition_point.ensures.bound;
      up_to = λ k h. leb-true _ _ (point.0 k 0 (omega arith) h);
      after = λ k l h. leb-false _ _ (point.1 k 0 l h);
    })
