-- The calls that are on a call cycle.
use Rattle.al_session_folder.proofs.Places.{each_at}
use Rattle.std.proofs.lemmas.List.Elements.{Contains-get_or, recursion_from_All}
use Rattle.std.proofs.lemmas.List.Quantifiers.{position-Some}
use Rattle.std.proofs.Common.{ap₂, ◌≡◌, ℕ, zero, suc, ◌+◌, ◌<◌, ◌≤◌, Bool, true, false, cond, not, List, [], ◌∷◌, ◌++◌, length, map}
use Rattle.std.proofs.Common.{get_or, ◌||◌, drop, take, Option, Some, None, String, Vec, slice_get, refl, sym, ◌∙◌, ap, subst, arith, append_assoc, append-nil, nat_eq}
use Rattle.std.proofs.Common.{⊎_elim}
use Rattle.std.specs.Prelude.{string_bytes, bytes_eq, Contains, ◌↔◌}
use Rattle.std.specs.Global.{Global}
use Rattle.std.specs.Bool.{◌==◌}
use Rattle.std.specs.List.{AllByRecursion, cons_option, enumerate_from, filter_map, flat_map, list_any, position, prefix_len, zip}
use Rattle.std.specs.Option.{option_map, option_eq, option_or}
use Rattle.std.proofs.lemmas.Bool.{cases_lt}
use Rattle.std.proofs.lemmas.Bool.Decides.{nat_tests, same_from_decides}
use Rattle.std.proofs.lemmas.List.{drop_more, drop_all, get_or_past, length-map, map_more, map_push}
use Rattle.std.proofs.lemmas.List.FromFn.{length-enumerate_from, get_or-enumerate_from}
use Rattle.std.proofs.lemmas.Option.{get_or_from_slice_get, same_Some, slice_get-map, slice_get_read, slice_get_within}
use Rattle.al_base.specs.declared.faults.Fault.{Fault}
use Rattle.al_graph.specs.Graphs.{Edge, StronglyConnected, Walk, edges_of, here, onward}
use Rattle.al_graph.specs.Within.{leads}
use Rattle.al_graph.proofs.BoundedWalks.{leads_tells}
use Rattle.al_graph.proofs.FilterMaps.{all_in_filter_map, in_filter_map}
use Rattle.al_graph.proofs.Labels.{labels_same}
use Rattle.al_graph.proofs.Edges.{edges_at}
use Rattle.al_graph.proofs.Lists.{none_in}
use Rattle.al_lint.specs.Meaning.{Meaning, candidates}
use Rattle.al_session_folder.specs.Folder.{Folder, find_map, paths_of}
use Rattle.al_session_folder.specs.Kept.{Files, folder_of, entry_of, AllKept, IsKept}
use Rattle.al_session_folder.specs.Cycles.{callee, calls_graph, is_on_cycle, call_cycle_faults, number_of_path}
use Rattle.al_session_folder.specs.CallGraphs.{IsCallGraph, IsCalledBy, TellCycles}
use Rattle.al_session_folder.specs.declared.kept.KeptFile.{KeptFile}
use Rattle.al_lint.specs.declared.lint.Target.{Target}

-- the fault of a call, if it is on a call cycle
abbrev pub fault_if : Bool → Fault → List Fault
fault_if is_on_cycle fault = cond is_on_cycle (fault ∷ []) []

-- the faults of those calls of the file with this number that are on a call cycle
abbrev pub faults_on_cycles : List (List ℕ) → Folder → ℕ → List Target → List Fault → List Fault
faults_on_cycles graph f file ts ss = flat_map (λ x. fault_if (is_on_cycle graph file (callee f x.0)) x.1) (zip ts ss)

-- ---- numbers of files

prefix_kept : {U I : Type 0} (files : Files U I) (q : List ℕ) →
    prefix_len (λ k. not (bytes_eq q (string_bytes k))) (map (λ (e : String Global × KeptFile U I). e.0) files) ≡ prefix_len (λ y. not (bytes_eq q y)) (paths_of (folder_of files))
prefix_kept [] q = refl
prefix_kept (e ∷ es) q = rw (prefix_kept es q)

pub number_kept : {U I : Type 0} (files : Files U I) (q : List ℕ) →
    position (λ k. bytes_eq q (string_bytes k)) (map (λ (e : String Global × KeptFile U I). e.0) files) ≡ number_of_path (folder_of files) q
number_kept files q = rw (prefix_kept files q) (simp length-map)

number_below : (f : Folder) (p : List ℕ) (k : ℕ) → number_of_path f p ≡ Some k → k < length f
number_below f p k e = let h = (position-Some (bytes_eq p) (paths_of f) k [] e).0 in let l : length (paths_of f) ≡ length f = length-map f (λ e. e.0) in omega (arith, h, l)

among_below : (f : Folder) (ps : List (List ℕ)) (k : ℕ) → find_map (number_of_path f) ps ≡ Some k → k < length f
among_below f [] k e = absurd cc
among_below f (p ∷ ps) k e = by (number_of_path f p) refl e (among_below f ps k)
  where
    by : (o : Option ℕ) → number_of_path f p ≡ o → option_or o (find_map (number_of_path f) ps) ≡ Some k → (find_map (number_of_path f) ps ≡ Some k → k < length f) → k < length f
    by None a e rest = rest e
    by (Some n) a e rest = number_below f p k (a ∙ e)

pub called_below : (f : Folder) (t : Target) (k : ℕ) → callee f t ≡ Some k → k < length f
called_below f t k e = among_below f (candidates t) k e

-- ---- the graph of calls

module _ {I : Type 0} (m : Meaning I) (f : Folder) where
  at_file : (i : ℕ) (p b : List ℕ) → slice_get f i ≡ Some (p, b) → get_or (calls_graph m f) i [] ≡ filter_map (callee f) (m.calls p b)
  at_file i p b e =
      get_or_from_slice_get (calls_graph m f) i (filter_map (callee f) (m.calls p b)) []
      (slice_get-map (λ (e : List ℕ × List ℕ). filter_map (callee f) (m.calls e.0 e.1)) f i ∙ ap (option_map (λ (e : List ℕ × List ℕ). filter_map (callee f) (m.calls e.0 e.1))) e)

  -- a call gives an edge
  pub call_edge : (i at : ℕ) (p b : List ℕ) (t : Target) → slice_get f i ≡ Some (p, b) → at < length (m.calls p b) → t ≡ get_or (m.calls p b) at t → IsCalledBy (calls_graph m f) i (callee f t)
  call_edge i at p b t e lt is = by (callee f t) refl
    where
      by : (o : Option ℕ) → callee f t ≡ o → IsCalledBy (calls_graph m f) i o
      by None a = tt
      by (Some k) a = subst (λ (ns : List ℕ). Contains ns k) (sym (at_file i p b e)) (in_filter_map (callee f) (m.calls p b) at t k lt is a)

  edges_below : (es : Folder) (j k : ℕ) → Contains (get_or (map (λ (e : List ℕ × List ℕ). filter_map (callee f) (m.calls e.0 e.1)) es) j []) k → k < length f
  edges_below [] j k c = absurd (let below : c.0 < 0 = c.1 in omega (arith, below))
  edges_below (e ∷ es) zero k c = all_in_filter_map (callee f) (λ k. k < length f) (called_below f) (m.calls e.0 e.1) k c
  edges_below (e ∷ es) (suc j) k c = edges_below es j k c

  pub graph_inside : (j k : ℕ) → Edge (calls_graph m f) j k → k < length (calls_graph m f)
  graph_inside j k e = let h = edges_below f j k e in let l : length (calls_graph m f) ≡ length f = length-map f _ in omega (arith, h, l)

-- ---- numbers of elements

pub entry_there : {X : Type 0} (xs : List X) (i : ℕ) → i < length xs → (x : X) × (slice_get xs i ≡ Some x)
entry_there [] i h = absurd (omega (arith, h))
entry_there (x ∷ xs) zero h = (x, refl)
entry_there (x ∷ xs) (suc i) h = entry_there xs i (omega arith)

pub numbered_read : {X : Type 0} (xs : List X) (i : ℕ) (x : X) → slice_get xs i ≡ Some x → (i, x) ≡ get_or (enumerate_from 0 xs) i (i, x)
numbered_read xs i x e =
    sym (get_or-enumerate_from 0 xs i (i, x) (slice_get_within xs i x e) ∙ ap₂ (λ j y. (j, y)) (omega arith) (get_or_from_slice_get xs i x x e))

pub numbered : {X : Type 0} (xs : List X) (i : ℕ) (x : X) → slice_get xs i ≡ Some x → slice_get (enumerate_from 0 xs) i ≡ Some (i, x)
numbered xs i x e = slice_get_read (enumerate_from 0 xs) (length xs) i (i, x) (sym (length-enumerate_from 0 xs)) (slice_get_within xs i x e) (numbered_read xs i x e)

-- ---- calls on a cycle

-- an edge is on a cycle if and only if both ends have the same label
pub labels_tell : (graph : List (List ℕ)) (labels : List (Option ℕ)) (i to : ℕ) (r : Bool) → TellCycles graph labels → Edge graph i to →
    ((r ≡ true → get_or labels to None ≡ get_or labels i None) × (get_or labels to None ≡ get_or labels i None → r ≡ true)) → r ≡ leads graph to i
labels_tell graph labels i to r c edge says =
    same_from_decides r (leads graph to i) (λ h. (c.1 i to edge).0 (says.0 h), λ w. says.1 ((c.1 i to edge).1 w)) (leads_tells graph to i)

-- one more call
module _ (graph : List (List ℕ)) (f : Folder) (i : ℕ) (ts : List Target) (ss : List Fault) (at : ℕ) (done whole : List Fault)
    (so_far : done ++ faults_on_cycles graph f i (drop at ts) (drop at ss) ≡ whole) where
  pub on_cycles_next : (more : List Fault) (t : Target) (s : Fault) → at < length ts → t ≡ get_or ts at t → slice_get ss at ≡ Some s →
      more ≡ done ++ fault_if (is_on_cycle graph i (callee f t)) s → more ++ faults_on_cycles graph f i (drop (at + 1) ts) (drop (at + 1) ss) ≡ whole
  on_cycles_next more t s within read known now =
      let next = rw (drop_more ts at t within, drop_more ss at s (slice_get_within ss at s known), ← read, get_or_from_slice_get ss at s s known) at so_far in
      rw (now, append_assoc done (fault_if (is_on_cycle graph i (callee f t)) s)) next

  pub on_cycles_end : length ts ≤ at → done ≡ whole
  on_cycles_end past = sym (append-nil done) ∙ rw (drop_all at ts past) at so_far

-- the edges of one more file
pub graph_next : {X : Type 0} (H : X → List ℕ) (xs : List X) (i : ℕ) (x : X) (old new : List (Vec ℕ Global)) (v : Vec ℕ Global) → i < length xs → x ≡ get_or xs i x →
    edges_of old ≡ map H (take i xs) → new ≡ old ++ v ∷ [] → v.items ≡ H x → edges_of new ≡ map H (take (i + 1) xs)
graph_next H xs i x old new v lt read is more same = rw (more, map_push (λ (w : Vec ℕ Global). w.items) old v, is, same, map_more H xs i x lt, ← read)

-- a kept file, by its number
pub kept_number : {U I : Type 0} (m : Meaning I) (is_unit : U → List ℕ → List ℕ → Type 0) (files : Files U I) (i : ℕ) (e : String Global × KeptFile U I) → AllKept m is_unit files →
    slice_get files i ≡ Some e → IsKept m is_unit (string_bytes e.0) e.1
kept_number m is_unit files i e kept at = each_at (λ e. IsKept m is_unit (string_bytes e.0) e.1) files i e kept at

pub entry_number : {U I : Type 0} (files : Files U I) (i : ℕ) (e : String Global × KeptFile U I) → slice_get files i ≡ Some e → slice_get (folder_of files) i ≡ Some (string_bytes e.0, e.1.bytes.items)
entry_number files i e at = slice_get-map entry_of files i ∙ ap (option_map entry_of) at

pub one_entry : {X : Type 0} (xs : List X) (i : ℕ) (a b : X) → slice_get xs i ≡ Some a → slice_get xs i ≡ Some b → a ≡ b
one_entry xs i a b x y = same_Some a b (sym x ∙ y)

-- the calls and the unit of a kept file, by the path and the bytes of the folder at its number
pub entry_calls : {U I : Type 0} (m : Meaning I) (is_unit : U → List ℕ → List ℕ → Type 0) (files : Files U I) (i : ℕ) (e : String Global × KeptFile U I) → AllKept m is_unit files →
    slice_get files i ≡ Some e → (p b : List ℕ) → slice_get (folder_of files) i ≡ Some (p, b) → (e.1.calls.targets.items ≡ m.calls p b) × is_unit e.1.unit p b
entry_calls m is_unit files i e kept at p b there =
    let one = kept_number m is_unit files i e kept at in
    let same = one_entry (folder_of files) i (string_bytes e.0, e.1.bytes.items) (p, b) (entry_number files i e at) there in
    (one.calls.targets ∙ ap (λ (x : List ℕ × List ℕ). m.calls x.0 x.1) same, subst (λ (x : List ℕ × List ℕ). is_unit e.1.unit x.0 x.1) same one.unit)

-- the graph of the kept files is that of the folder
pub graph_kept : {U I : Type 0} (m : Meaning I) (is_unit : U → List ℕ → List ℕ → Type 0) (h : Target → Option ℕ) (files : Files U I) → AllKept m is_unit files →
    map (λ (e : String Global × KeptFile U I). filter_map h e.1.calls.targets.items) files ≡ map (λ (e : List ℕ × List ℕ). filter_map h (m.calls e.0 e.1)) (folder_of files)
graph_kept m is_unit h [] kept = refl
graph_kept m is_unit h (e ∷ es) kept = rw (kept.0.calls.targets, graph_kept m is_unit h es kept.1)

module _ {I : Type 0} (m : Meaning I) (f : Folder) (items seen : List (Vec ℕ Global)) (is : edges_of items ≡ calls_graph m f) (same : seen ≡ items) where
  seen_is : edges_of seen ≡ calls_graph m f
  seen_is = ap edges_of same ∙ is

  seen_number : length seen ≡ length (calls_graph m f)
  seen_number = sym (length-map seen _) ∙ ap length seen_is

  pub program_inside : (j k : ℕ) → Edge (edges_of seen) j k → k < length seen
  program_inside j k e = let below = graph_inside m f j k (subst (λ g. Edge g j k) seen_is e) in omega (arith, below, seen_number)

  pub program_graph : (labels : List (Option ℕ)) → length labels ≡ length seen →
      ((j k : ℕ) → j < length seen → k < length seen → (get_or labels j None ≡ get_or labels k None) ↔ StronglyConnected (edges_of seen) j k) → IsCallGraph m f items labels
  program_graph labels len exact = record { edges = is; tell = (omega (arith, len, seen_number), tells) }
    where
      source : (j k : ℕ) → Edge (calls_graph m f) j k → j < length seen
      source j k e = ⊎_elim (λ lt. lt)
          (λ past. absurd (none_in k (subst (λ ns. Contains ns k) (get_or_past (calls_graph m f) j [] (omega (arith, past, seen_number))) e)))
          (cases_lt j (length seen))

      tells : (j k : ℕ) → Edge (calls_graph m f) j k → (get_or labels k None ≡ get_or labels j None) ↔ Walk (calls_graph m f) k j
      tells j k e =
          let below = graph_inside m f j k e in
          let both = subst (λ g. (get_or labels k None ≡ get_or labels j None) ↔ StronglyConnected g k j) seen_is
          (exact k j (omega (arith, below, seen_number)) (source j k e)) in
          (λ h. (both.0 h).0, λ w. both.1 (w, onward j k here e))

-- ---- files with a call on a cycle

-- there is a fault if and only if a call of the file is on a cycle
any_on_cycle : (graph : List (List ℕ)) (f : Folder) (i : ℕ) (ts : List Target) (ss : List Fault) → length ss ≡ length ts →
    not (length (faults_on_cycles graph f i ts ss) == 0) ≡ list_any (λ k. leads graph k i) (filter_map (callee f) ts)
any_on_cycle graph f i [] ss n = refl
any_on_cycle graph f i (t ∷ ts) [] n = absurd (let wrong : 0 ≡ length (t ∷ ts) = n in omega (arith, wrong))
any_on_cycle graph f i (t ∷ ts) (s ∷ ss) n = by (callee f t) (any_on_cycle graph f i ts ss (omega (arith, n)))
  where
    some : not (length (faults_on_cycles graph f i ts ss) == 0) ≡ list_any (λ k. leads graph k i) (filter_map (callee f) ts) → (b : Bool)
        → not (length (fault_if b s ++ faults_on_cycles graph f i ts ss) == 0) ≡ b || list_any (λ k. leads graph k i) (filter_map (callee f) ts)
    some rest true = grind (arith, nat_tests)
    some rest false = rest

    by : (o : Option ℕ) → not (length (faults_on_cycles graph f i ts ss) == 0) ≡ list_any (λ k. leads graph k i) (filter_map (callee f) ts)
        → not (length (fault_if (is_on_cycle graph i o) s ++ faults_on_cycles graph f i ts ss) == 0) ≡ list_any (λ k. leads graph k i) (cons_option o (filter_map (callee f) ts))
    by None rest = rest
    by (Some k) rest = some rest (leads graph k i)

any_agree : {X : Type 0} (P Q : X → Bool) (xs : List X) → AllByRecursion (λ x. P x ≡ Q x) xs → list_any P xs ≡ list_any Q xs
any_agree P Q [] all = refl
any_agree P Q (x ∷ xs) all = rw (all.0, any_agree P Q xs all.1)

-- whether one of a file's calls leads to a file with the same label, by the file's row of the code's graph
module _ {I : Type 0} (m : Meaning I) (f : Folder) (edges : List (Vec ℕ Global)) (labels seen : List (Option ℕ)) (row : List ℕ) (v : Vec ℕ Global) (i : ℕ)
    (calls : IsCallGraph m f edges labels) (below : i < length f) (read : v ≡ get_or edges i v) (is : row ≡ v.items) (same : seen ≡ labels) where
  row_is : row ≡ get_or (calls_graph m f) i []
  row_is =
      let size : length edges ≡ length f = sym (length-map edges _) ∙ ap length calls.edges ∙ length-map f _ in
      is ∙ sym (edges_at edges i v (omega (arith, below, size)) read) ∙ ap (λ g. get_or g i []) calls.edges

  edge : (k : ℕ) → Contains row k → Edge (calls_graph m f) i k
  edge k there = subst (λ (ns : List ℕ). Contains ns k) row_is there

  pub row_inside : (k : ℕ) → Contains row k → k < length seen
  row_inside k there =
      let inside = graph_inside m f i k (edge k there) in
      let size : length labels ≡ length (calls_graph m f) = calls.tell.0 in
      let all : length seen ≡ length labels = ap length same in
      omega (arith, inside, size, all)

  -- the file and one that it calls have the same label if and only if that call is on a call cycle
  label_tells : (k : ℕ) → Contains row k → option_eq nat_eq (get_or seen k None) (get_or seen i None) ≡ leads (calls_graph m f) k i
  label_tells k there = labels_tell (calls_graph m f) labels i k _ calls.tell (edge k there) (rw (← same) (labels_same (get_or seen k None) (get_or seen i None) _ refl))

  -- there is such a call if and only if the file has a fault of a call on a cycle
  pub row_tells : (r : Bool) → r ≡ list_any (λ k. option_eq nat_eq (get_or seen k None) (get_or seen i None)) row → (p b : List ℕ) → slice_get f i ≡ Some (p, b) →
      length (m.sites p b) ≡ length (m.calls p b) → r ≡ not (length (call_cycle_faults m f i p b) == 0)
  row_tells r told p b at sited =
      told ∙ any_agree _ (λ k. leads (calls_graph m f) k i) row (recursion_from_All _ row (λ j d lt. label_tells (get_or row j d) (Contains-get_or row j d lt)))
      ∙ ap (list_any (λ k. leads (calls_graph m f) k i)) (row_is ∙ at_file m f i p b at) ∙ sym (any_on_cycle (calls_graph m f) f i (m.calls p b) (m.sites p b) sited)
