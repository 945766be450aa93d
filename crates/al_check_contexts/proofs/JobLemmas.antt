-- What jobs show to others, and the jobs that names find.
use Rattle.std.proofs.Common.{◌≡◌, ◌<◌, ◌+◌, ℕ, Bool, List, [], ◌∷◌, refl, sym, ap, ◌∙◌, Option, Some, None, option_map, length, map, get_or, arith}
use Rattle.std.proofs.Math.ListN.{get_or-map}
use Rattle.std.proofs.lemmas.Option.{get_or_from_slice_get, slice_get_read}
use Rattle.std.specs.Option.{option_map_or}
use Rattle.std.specs.Prelude.{codes, if◌then◌else◌, slice_get}
use Rattle.al_base.specs.NamePlaces.{first_at}
use Rattle.al_base.specs.Names.{same_name}
use Rattle.al_base.proofs.NamePlaces.{find_first}
use Rattle.std.proofs.lemmas.List.{length-map}
use Rattle.al_types.specs.Strings.{named_strings}
use Rattle.al_types.specs.Types.{Any}
use Rattle.al_scalar.specs.Scalar.{Scalar}
use Rattle.al_yaml_tree.specs.Node.{Node}
use Rattle.al_tree.specs.Keys.{key_of, keys_in}
use Rattle.al_tree.specs.Values.{entries_at}
use Rattle.al_tree.specs.Declarations.{has_value}
use Rattle.al_check_objects.specs.Objects.{loose_any}
use Rattle.al_check_contexts.specs.Contexts.{OutputNames, dependency, job_field}
use Rattle.al_base.specs.Growth.{BeginsWith}
use Rattle.al_expr_types.specs.Tables.{objects_of}
use Rattle.al_expr_types.specs.declared.ty.Ty.{Ty}
use Rattle.al_expr_types.specs.declared.types.Types.{Types}
use Rattle.al_check_contexts.specs.Lookups.{called_at, known_by, shown_at, shown_with}
use Rattle.al_check_contexts.specs.Made.{KeepsBare, KeepsJobs}
use Rattle.al_check_contexts.specs.declared.jobs.JobTypes.{JobTypes}
use Rattle.al_check_contexts.specs.declared.known.Outputs.{Outputs}
use Rattle.al_check_contexts.proofs.Kept.{keeps_stays}
use Rattle.al_check_objects.proofs.Numbers.{means_stays}

-- where the first stands whose image passes a test
pub first_mapped : {X Y : Type 0} (f : X → Y) (test : Y → Bool) (xs : List X) → first_at test (map f xs) ≡ first_at (λ x. test (f x)) xs
first_mapped f test [] = refl
first_mapped f test (x ∷ xs) = ap (λ o. if test (f x) then Some 0 else option_map (λ i. i + 1) o) (first_mapped f test xs)

-- the element of a list that another list agrees with
pub same_there : {X Y : Type 0} (g : X → Y) (xs : List X) (ys : List Y) (i : ℕ) (x : X) → map g xs ≡ ys → i < length xs → x ≡ get_or xs i x → slice_get ys i ≡ Some (g x)
same_there g xs ys i x e lt is =
    let len : length ys ≡ length xs = sym (ap length e) ∙ length-map xs g in
    slice_get_read ys (length ys) i (g x) refl (omega (arith, lt, len)) (ap g is ∙ sym (get_or-map g xs i x) ∙ ap (λ zs. get_or zs i (g x)) e)

-- what is shown at a position is what the job there shows
pub shown_there : (known : Outputs) (js : List (Scalar × Node)) (i : ℕ) (j : Scalar × Node) → slice_get js i ≡ Some j → (job_field (known_by known) j).1 ≡ shown_at known js i
shown_there known js i j e = sym (ap (λ o. option_map_or (λ j. (job_field (known_by known) j).1) o Any) e)

pub dependency_at : (k : OutputNames) (js : List (Scalar × Node)) (n : List ℕ) (i : ℕ) (j : Scalar × Node) → first_at (λ j. same_name (key_of j) n) js ≡ Some i →
    slice_get js i ≡ Some j → dependency k js n ≡ Some (job_field k j)
dependency_at k js n i j e h =
    ap (option_map (job_field k))
    (find_first (λ j. same_name (key_of j) n) js j ∙ ap (option_map (λ m. get_or js m j)) e ∙ ap Some (get_or_from_slice_get js i j j h))

pub no_dependency : (k : OutputNames) (js : List (Scalar × Node)) (n : List ℕ) → first_at (λ j. same_name (key_of j) n) js ≡ None → dependency k js n ≡ None
no_dependency k [] n e = refl
no_dependency k (x ∷ js) n e =
    ap (option_map (job_field k)) (find_first (λ j. same_name (key_of j) n) (x ∷ js) x ∙ ap (option_map (λ m. get_or (x ∷ js) m x)) e)

-- what a job shows, whether it calls a workflow or not
pub shown_by : (k : OutputNames) (j : Scalar × Node) (b : Bool) → has_value (codes "uses") j.1 ≡ b →
    shown_with (if b then option_map_or named_strings (k (Some (key_of j)) None) loose_any else named_strings (keys_in (entries_at (codes "outputs") j.1))) ≡ (job_field k j).1
shown_by k j b e =
    sym (ap (λ b. shown_with (if b then option_map_or named_strings (k (Some (key_of j)) None) loose_any else named_strings (keys_in (entries_at (codes "outputs") j.1)))) e)

-- ---- in longer tables

pub keeps_bare_stays : (new old : Types) (made : Option Ty) → BeginsWith (objects_of new) (objects_of old) → KeepsBare old made → KeepsBare new made
keeps_bare_stays new old made b h = record { each = λ t e. means_stays new old t _ b (h.each t e) }

pub keeps_jobs_stay : (new old : Types) (known : Outputs) (js : List (Scalar × Node)) (m : JobTypes) → BeginsWith (objects_of new) (objects_of old) →
    KeepsJobs old known js m → KeepsJobs new known js m
keeps_jobs_stay new old known js m b h = record {
  calls = keeps_stays new old (called_at known) m.calls b h.calls;
  shown = keeps_stays new old (shown_at known js) m.shown b h.shown;
  bare = keeps_bare_stays new old m.bare b h.bare;
  all = λ t e. means_stays new old t _ b (h.all t e);
}
