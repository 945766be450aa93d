-- What is true of a node and of all nodes in it is true of the calls of a file.
use Rattle.std.specs.Prelude.{ℕ, List, [], codes, Option, Some, None}
use Rattle.std.specs.List.{AllByRecursion, enumerate_from}
use Rattle.al_base.proofs.Elements.{each_as, each_either, each_of, each_some, map_or, map_some}
use Rattle.al_base.specs.declared.faults.Span.{Span}
use Rattle.al_scalar.specs.Scalar.{Scalar}
use Rattle.al_yaml_tree.specs.Node.{Node}
use Rattle.al_tree.proofs.Kept.{AreKept, Pair, entries_kept, items_kept, numbered_kept, text_kept, value_kept}
use Rattle.al_tree.specs.Keys.{key_of}
use Rattle.al_tree.specs.Values.{items_at, text_at_key, value_at}
use Rattle.al_tree.specs.Files.{jobs_of}
use Rattle.al_tree.specs.declared.files.FileKind.{FileKind}
use Rattle.al_tree.specs.declared.files.FileKind.TheVariants as kind
use Rattle.al_tree.specs.Declarations.{action_steps, is_composite}
use Rattle.al_check_interfaces.specs.Uses.{Call, Site, call_at, call_by, calls_in, job_sites, sites_in, step_sites}

module _ {P : Node → Type 0} {Q : Scalar → Type 0} (kept : AreKept P Q) where
  abbrev IsSiteKept : Site → Type 0
  IsSiteKept s = P s.node

  steps_kept : (job : Option (List ℕ)) (steps : List Node) → AllByRecursion P steps → AllByRecursion IsSiteKept (step_sites job steps)
  steps_kept job steps p = each_as (λ s. P s.1) IsSiteKept (λ s. record { job = job; step = Some s.0; node = s.1 }) (λ s q. q) (enumerate_from 0 steps) (numbered_kept P 0 steps p)

  job_kept : (j : Scalar × Node) → Pair P j → AllByRecursion IsSiteKept (job_sites j)
  job_kept j p = (p.1, steps_kept (Some (key_of j)) (items_at (codes "steps") j.1) (items_kept kept (codes "steps") j.1 p.1))

  runs_kept : (root : Node) → P root → AllByRecursion P (action_steps root)
  runs_kept root p = map_or P P (items_at (codes "steps")) (items_kept kept (codes "steps")) (value_at (codes "runs") root) (value_kept kept (codes "runs") root p)

  pub sites_kept : (k : FileKind) (root : Node) → P root → AllByRecursion IsSiteKept (sites_in k root)
  sites_kept kind.Workflow root p = each_of (Pair P) IsSiteKept job_sites job_kept (jobs_of root) (entries_kept kept (codes "jobs") root p)
  sites_kept kind.Action root p =
      each_either IsSiteKept (is_composite root) (step_sites None (action_steps root)) [] (steps_kept None (action_steps root) (runs_kept root p)) tt

  abbrev IsCallKept : (Span → Type 0) → Call → Type 0
  IsCallKept R c = R c.at × P c.site.node

  pub calls_kept : (R : Span → Type 0) → ((s : Scalar) → Q s → R s.span) → (k : FileKind) (root : Node) → P root → AllByRecursion (IsCallKept R) (calls_in k root)
  calls_kept R h k root p =
      each_some IsSiteKept (IsCallKept R) call_at
      (λ s q. map_some Q (IsCallKept R) (call_by s) (λ t w. (h t w, q)) (text_at_key (codes "uses") s.node) (text_kept kept (codes "uses") s.node q))
      (sites_in k root) (sites_kept k root p)
