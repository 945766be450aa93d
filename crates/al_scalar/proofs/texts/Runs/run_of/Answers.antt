use Rattle.std.proofs.Common.{◌≡◌, ◌∙◌, ◌∷◌, List, leb, length, ap, arith, rules, subst, sym}
use Rattle.std.proofs.lemmas.List.Sorted.{IsNonDecreasingBy-drop, IsPartitionPoint-from_clause, IsPartitionedBy-leb}
use Rattle.al_scalar.specs.Private.Segments.{first_run, IsRising}
use Rattle.al_scalar.specs.declared.texts.Segment.{Segment}
use Rattle.al_scalar.proofs.RunLemmas.{searched}
use Rattle.al_scalar.proofs.texts.Runs.run_of.Goals as goal

pub run-requires : goal.run-requires
run-requires c = omega (arith, c.partition_point.ensures.bound, ap length c.deref.ensures.value, ap length c.self.view_is)

pub returns : goal.returns
returns c =
    let first = first_run c.self.inside.first in
    let rest : List Segment = c.deref.result.now in
    let view : first ∷ rest ≡ c.args.self.now = ap (λ runs. first ∷ runs) c.deref.ensures.value ∙ c.self.view_is in
    let rising = IsNonDecreasingBy-drop (λ s. s.index) 1 (first ∷ rest) (subst IsRising (sym view) c.requires) in
    let point = IsPartitionPoint-from_clause (λ (s : Segment). leb s.index c.args.i) rest _ c.partition_point.ensures.partitioned
    (IsPartitionedBy-leb (λ s. s.index) rest c.args.i rising) (λ a r q k. search rules) in
    searched c.self.inside.first c.args.i c.partition_point.result rest point c.args.self.now c.run.result view c.partition_point.ensures.bound c.run.ensures
