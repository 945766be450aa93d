-- The faults of the `needs` of jobs.
use Rattle.std.specs.Prelude.{ℕ, List, [], ◌∷◌, codes, map, Option, Some, None}
use Rattle.std.specs.Prelude.{if◌then◌else◌}
use Rattle.std.specs.List.{flat_map, filter_map, enumerate_from}
use Rattle.al_base.specs.declared.codes.RuleCode.TheVariants.{NeedsCycle, UndefinedJob}
use Rattle.al_base.specs.declared.faults.Fault.{Fault}
use Rattle.al_scalar.specs.Scalar.{Scalar}
use Rattle.al_yaml_tree.specs.Node.{Node}
use Rattle.al_tree.specs.Keys.{keys_in}
use Rattle.al_tree.specs.Values.{texts_at}
use Rattle.al_base.specs.NamePlaces.{name_place}
use Rattle.al_graph.specs.Within.{leads}
use Rattle.al_rules_settings.specs.Words.{Named, about, of_scalar, rule_fault}

-- the keys of the jobs
abbrev pub job_keys : List (Scalar × Node) → List Named
job_keys jobs = map (λ j. of_scalar j.0) jobs

-- the texts of a job's `needs`
abbrev pub needs_of : Scalar × Node → List Named
needs_of j = map of_scalar (texts_at (codes "needs") j.1)

-- for each job, the positions of the jobs that it needs, given the positions of names
abbrev pub needs_lists : (List ℕ → Option ℕ) → List (Scalar × Node) → List (List ℕ)
needs_lists position jobs = map (λ j. filter_map (λ n. position n.text) (needs_of j)) jobs

-- an entry of `needs`: its text, and the position and the key of its job
pub record NeedEntry : Type 0 where
  pub job : ℕ
  pub key : Named
  pub text : Named

abbrev pub needs_in : ℕ × (Scalar × Node) → List NeedEntry
needs_in p = map (λ n. record { job = p.0; key = of_scalar p.1.0; text = n }) (needs_of p.1)

abbrev pub all_needs : List (Scalar × Node) → List NeedEntry
all_needs jobs = flat_map needs_in (enumerate_from 0 jobs)

abbrev pub cycle_fault : NeedEntry → Fault
cycle_fault n = rule_fault NeedsCycle n.text.span (n.key.text ∷ n.text.text ∷ [])

-- The fault of an entry, given the position of the job that it names: that job isn't defined, or
-- there is a walk of needs from it back to this one, or none.
abbrev pub need_faults : List (List ℕ) → NeedEntry → Option ℕ → List Fault
need_faults graph n None = about UndefinedJob n.text
need_faults graph n (Some j) = if leads graph j n.job then cycle_fault n ∷ [] else []

abbrev pub needs_faults : List (Scalar × Node) → List Fault
needs_faults jobs =
    let position = name_place (keys_in jobs) in
    flat_map (λ n. need_faults (needs_lists position jobs) n (position n.text.text))
    (all_needs jobs)
