-- The faults of entries of `needs`, by the labels of the jobs' components, and bounds of the positions of jobs.
use Rattle.std.proofs.Common.{◌≡◌, ℕ, ◌+◌, ◌<◌, Bool, true, false, cond, List, [], ◌∷◌, ◌++◌, All, drop, length, map, Vec}
use Rattle.std.proofs.Common.{get_or, subst, sym, ap, ◌∙◌, append_assoc, arith, refl, suc, Option, Some, None, ⊎_elim}
use Rattle.std.proofs.lemmas.Bool.{cases_lt}
use Rattle.std.proofs.lemmas.Grind.{flat_map-append}
use Rattle.std.proofs.lemmas.List.{get_or_past, get_or-map, length-map}
use Rattle.std.specs.declared.alloc.Global.{Global}
use Rattle.std.proofs.lemmas.List.Elements.{All-nil, All-cons, All-map, All-get_or, All-contains}
use Rattle.std.specs.List.{AllByRecursion, cons_option, enumerate_from, filter_map, flat_map}
use Rattle.std.specs.Prelude.{◌↔◌, Contains}
use Rattle.al_base.specs.declared.faults.Fault.{Fault}
use Rattle.al_scalar.specs.Scalar.{Scalar}
use Rattle.al_yaml_tree.specs.Node.{Node}
use Rattle.al_graph.specs.Graphs.{Edge, StronglyConnected, edges_of, here, onward}
use Rattle.al_graph.specs.Within.{leads}
use Rattle.al_graph.proofs.BoundedWalks.{leads_of, walk_of}
use Rattle.al_graph.proofs.FilterMaps.{put_after, put_first}
use Rattle.al_graph.proofs.Labels.{labels_same}
use Rattle.al_tree.proofs.Lists.{left_next}
use Rattle.al_rules.specs.Private.Components.{has_label_of, labelled_fault, labelled_faults, named_by}
use Rattle.al_rules.specs.Needs.{NeedEntry, all_needs, cycle_fault, need_faults, needs_faults, needs_in, needs_lists, needs_of}
use Rattle.al_base.specs.NamePlaces.{name_place}
use Rattle.al_tree.specs.Keys.{keys_in}
use Rattle.al_base.specs.Names.{same_name}
use Rattle.al_base.proofs.NamePlaces.{first_within}
use Rattle.al_rules_settings.specs.Words.{Named, of_scalar}

same_tests : (a b : Bool) → (a ≡ true → b ≡ true) → (b ≡ true → a ≡ true) → a ≡ b
same_tests true b f g = sym (f refl)
same_tests false true f g = g refl
same_tests false false f g = refl

-- A need that an edge leads to is on a cycle if and only if it has the same label as the job that needs it.
module _ (position : List ℕ → Option ℕ) (graph : List (List ℕ)) (labels : List (Option ℕ))
    (exact : (j k : ℕ) → j < length graph → k < length graph
    → (get_or labels j None ≡ get_or labels k None) ↔ StronglyConnected graph j k)
    (below : (j k : ℕ) → Edge graph j k → k < length graph) where
  entry_is : (n : NeedEntry) (o : Option ℕ) → n.job < length graph → ((j : ℕ) → o ≡ Some j → Edge graph n.job j)
      → labelled_fault labels n o ≡ need_faults graph n o
  entry_is n None inside led = refl
  entry_is n (Some j) inside led =
      let edge : Edge graph n.job j = led j refl in
      let same = labels_same (get_or labels j None) (get_or labels n.job None) (has_label_of labels j n.job) refl in
      let connected = exact j n.job (below n.job j edge) inside in
      ap (λ b. cond b (cycle_fault n ∷ []) [])
      (same_tests (has_label_of labels j n.job) (leads graph j n.job) (λ t. leads_of graph n.job j (connected.0 (same.0 t)).0)
      (λ t. same.1 (connected.1 (walk_of graph (suc (length graph)) j n.job t, onward n.job j here edge))))

  abbrev tested : List NeedEntry → List Fault
  tested ns = flat_map (λ n. need_faults graph n (position n.text.text)) ns

  entries_are : (i : ℕ) (key : Named) (ns : List Named) → i < length graph
      → AllByRecursion (λ (n : Named). (j : ℕ) → named_by position n ≡ Some j → Edge graph i j) ns
      → labelled_faults position labels (map (λ n. record { job = i; key = key; text = n }) ns)
      ≡ tested (map (λ n. record { job = i; key = key; text = n }) ns)
  entries_are i key [] inside led = refl
  entries_are i key (t ∷ ts) inside led =
      let n : NeedEntry = record { job = i; key = key; text = t } in
      let first = entry_is n (named_by position t) inside led.0 in
      let rest = entries_are i key ts inside led.1 in λ k. first k ++ rest k

  led_to : (P : ℕ → Type 0) (ns : List Named) → ((k : ℕ) → Contains (filter_map (named_by position) ns) k → P k)
      → AllByRecursion (λ (n : Named). (j : ℕ) → named_by position n ≡ Some j → P j) ns
  led_to P [] f = tt
  led_to P (n ∷ ns) f = (
    (λ j e. f j (put_first (named_by position) (named_by position n) j (filter_map (named_by position) ns) e)),
    led_to P ns (λ k c. f k (put_after (named_by position) (named_by position n) k (filter_map (named_by position) ns) c)),
  )

  job_is : (i : ℕ) (job : Scalar × Node) → i < length graph → get_or graph i [] ≡ filter_map (named_by position) (needs_of job)
      → labelled_faults position labels (needs_in (i, job)) ≡ tested (needs_in (i, job))
  job_is i job inside row =
      entries_are i (of_scalar job.0) (needs_of job) inside
      (led_to (λ k. Edge graph i k) (needs_of job) (λ k c. subst (λ (ns : List ℕ). Contains ns k) (sym row) c))

  -- the jobs from position `i` on, each of which has its row of the graph
  jobs_are : (i : ℕ) (jobs : List (Scalar × Node)) → ((k : ℕ) (x : Scalar × Node) → k < length jobs → x ≡ get_or jobs k x
      → (i + k < length graph) × (get_or graph (i + k) [] ≡ filter_map (named_by position) (needs_of x)))
      → labelled_faults position labels (flat_map needs_in (enumerate_from i jobs)) ≡ tested (flat_map needs_in (enumerate_from i jobs))
  jobs_are i [] rows = refl
  jobs_are i (j ∷ js) rows =
      let first : i + 0 ≡ i = omega arith in
      let row = rows 0 j (omega arith) refl in
      let others = flat_map needs_in (enumerate_from (i + 1) js) in
      let one = job_is i j (subst (λ n. n < length graph) first row.0)
      (subst (λ n. get_or graph n [] ≡ filter_map (named_by position) (needs_of j)) first row.1) in
      let rest = jobs_are (i + 1) js (λ k x lt is.
      let next : i + suc k ≡ (i + 1) + k = omega arith in
      let row = rows (suc k) x (omega (arith, lt)) is in (
        subst (λ n. n < length graph) next row.0,
        subst (λ n. get_or graph n [] ≡ filter_map (named_by position) (needs_of x)) next row.1,
      )) in
      flat_map-append (λ n. labelled_fault labels n (named_by position n.text)) (needs_in (i, j)) others ∙ (λ k. one k ++ rest k)
      ∙ sym (flat_map-append (λ n. need_faults graph n (position n.text.text)) (needs_in (i, j)) others)

-- ---- the faults of one job after another

module _ (position : List ℕ → Option ℕ) (labels : List (Option ℕ)) {X : Type 0} (seen : X → Scalar × Node) (jobs : List X) where
  pub found_next : (i : ℕ) (x : X) (old new all : List Fault) → i < length jobs → x ≡ get_or jobs i x
      → new ≡ old ++ labelled_faults position labels (needs_in (i, seen x))
      → old ++ labelled_faults position labels (flat_map needs_in (enumerate_from i (map seen (drop i jobs)))) ≡ all
      → new ++ labelled_faults position labels (flat_map needs_in (enumerate_from (i + 1) (map seen (drop (i + 1) jobs)))) ≡ all
  found_next i x old new all h e n so_far =
      let found : List NeedEntry → List Fault = labelled_faults position labels in
      let own = needs_in (i, seen x) in
      let rest = flat_map needs_in (enumerate_from (i + 1) (map seen (drop (i + 1) jobs))) in
      ap (λ fs. fs ++ found rest) n ∙ append_assoc old (found own) (found rest)
      ∙ ap (λ fs. old ++ fs) (sym (flat_map-append (λ n. labelled_fault labels n (named_by position n.text)) own rest))
      ∙ ap (λ js. old ++ found (flat_map needs_in (enumerate_from i js))) (sym (left_next seen jobs i x h e)) ∙ so_far

abbrev Below : ℕ → ℕ → Type 0
Below m k = k < m

below_cons : (o : Option ℕ) (xs : List ℕ) (m : ℕ) → ((k : ℕ) → o ≡ Some k → k < m) → All (Below m) xs → All (Below m) (cons_option o xs)
below_cons None xs m f a = a
below_cons (Some k) xs m f a = All-cons (Below m) k xs (f k refl) a

list_below : (keys : List (List ℕ)) (needs : List Named) → All (Below (length keys)) (filter_map (named_by (name_place keys)) needs)
list_below keys [] = All-nil (Below (length keys))
list_below keys (n ∷ ns) =
    below_cons (named_by (name_place keys) n) (filter_map (named_by (name_place keys)) ns) (length keys) (λ k e. first_within (λ m. same_name m n.text) keys k e)
    (list_below keys ns)

lists_below : (keys : List (List ℕ)) (jobs : List (Scalar × Node)) → All (λ l. All (Below (length keys)) l) (needs_lists (name_place keys) jobs)
lists_below keys jobs =
    All-map (λ l. All (Below (length keys)) l) (λ j. filter_map (named_by (name_place keys)) (needs_of j)) jobs (λ k d h. list_below keys (needs_of (get_or jobs k d)))

needs_below : (keys : List (List ℕ)) (jobs : List (Scalar × Node)) (j k : ℕ) → Edge (needs_lists (name_place keys) jobs) j k → k < length keys
needs_below keys jobs j k has =
    let m = length keys in
    let P : List ℕ → Type 0 = λ l. All (Below m) l in
    let lists = needs_lists (name_place keys) jobs in
    let inside : P (get_or lists j []) =
    ⊎_elim (λ h. All-get_or P lists j [] h (lists_below keys jobs)) (λ h. subst P (sym (get_or_past lists j [] h)) (All-nil (Below m))) (cases_lt j (length lists)) in
    All-contains (Below m) (get_or lists j []) k inside has

pub lists_length : (jobs : List (Scalar × Node)) (lists : List (Vec ℕ Global)) → edges_of lists ≡ needs_lists (name_place (keys_in jobs)) jobs → length lists ≡ length jobs
lists_length jobs lists e =
    let b : length (needs_lists (name_place (keys_in jobs)) jobs) ≡ length jobs = length-map jobs _ in
    let d : length (edges_of lists) ≡ length lists = length-map lists _ in
    sym d ∙ ap length e ∙ b

-- each job that is needed is one of the jobs
pub edges_below : (jobs : List (Scalar × Node)) (lists : List (Vec ℕ Global)) → edges_of lists ≡ needs_lists (name_place (keys_in jobs)) jobs → (j k : ℕ) → Edge (edges_of lists) j k → k < length lists
edges_below jobs lists e j k has =
    let P : List (List ℕ) → Type 0 = λ ls. Edge ls j k in
    let below : k < length (keys_in jobs) = needs_below (keys_in jobs) jobs j k (subst P e has) in
    let a : length (keys_in jobs) ≡ length jobs = length-map jobs _ in
    let b : length lists ≡ length jobs = lists_length jobs lists e in omega (arith, below, a, b)

pub lists_same : (jobs : List (Scalar × Node)) (position : List ℕ → Option ℕ) (lists : List (List ℕ)) → position ≡ name_place (keys_in jobs)
    → lists ≡ needs_lists position jobs → lists ≡ needs_lists (name_place (keys_in jobs)) jobs
lists_same jobs position lists p l = l ∙ ap (λ f. needs_lists f jobs) p

-- the faults of all jobs
pub adds_all : (jobs : List (Scalar × Node)) (position : List ℕ → Option ℕ) (lists : List (Vec ℕ Global)) (labels : List (Option ℕ))
    (old new : List Fault) → position ≡ name_place (keys_in jobs) → edges_of lists ≡ needs_lists position jobs
    → ((j k : ℕ) → j < length lists → k < length lists
    → (get_or labels j None ≡ get_or labels k None) ↔ StronglyConnected (edges_of lists) j k)
    → new ≡ old ++ labelled_faults position labels (all_needs jobs) → new ≡ old ++ needs_faults jobs
adds_all jobs position lists labels old new p l exact grows =
    let graph = edges_of lists in
    let size : length graph ≡ length lists = length-map lists _ in
    let number : length (needs_lists position jobs) ≡ length jobs = length-map jobs _ in
    let all : length graph ≡ length jobs = ap length l ∙ number in
    let same : edges_of lists ≡ needs_lists (name_place (keys_in jobs)) jobs = lists_same jobs position graph p l in
    let below : (j k : ℕ) → Edge graph j k → k < length graph =
    λ j k e. (let h = edges_below jobs lists same j k e in omega (arith, h, size)) in
    let are = jobs_are position graph labels (λ j k a b. exact j k (omega (arith, a, size)) (omega (arith, b, size))) below 0 jobs
    (λ k x lt is. let zero' : k ≡ 0 + k = omega arith in (
      omega (arith, lt, all),
      subst (λ n. get_or graph n [] ≡ filter_map (named_by position) (needs_of x)) zero'
          (ap (λ (g : List (List ℕ)). get_or g k []) l
          ∙ get_or-map (λ j. filter_map (named_by position) (needs_of j)) jobs k x [] lt
          ∙ ap (λ j. filter_map (named_by position) (needs_of j)) (sym is)),
    )) in
    grows ∙ ap (λ fs. old ++ fs) (are ∙ λ k. flat_map (λ n. need_faults (same k) n (p k n.text.text)) (all_needs jobs))
