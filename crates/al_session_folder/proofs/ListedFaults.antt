-- The faults that a report lists: each file's own, and those of its calls on a call cycle.
use Rattle.al_session_folder.proofs.Places.{by_ordering, each_at}
use Rattle.std.proofs.Common.{◌≤◌, ◌≡◌, ◌<◌, ℕ, ◌+◌, Bool, true, false, not, List, [], ◌∷◌, ◌++◌, length}
use Rattle.std.proofs.Common.{get_or, Option, Some, String, slice_get, refl, sym, ◌∙◌, ap, subst, ◌||◌, arith, length-append, ⊎_elim}
use Rattle.std.specs.Prelude.{string_bytes}
use Rattle.std.specs.Bool.{◌==◌}
use Rattle.std.specs.Borrow.{Bor}
use Rattle.std.specs.Global.{Global}
use Rattle.std.specs.List.{AllByRecursion, dedup}
use Rattle.std.specs.List.Sorted.{IsPermutation, IsSorted, IsStrictlySortedBy}
use Rattle.std.specs.declared.cmp.Ordering.{Ordering}
use Rattle.std.proofs.lemmas.Bool.Decides.{nat_tests}
use Rattle.std.proofs.lemmas.Bool.{cases_lt}
use Rattle.std.proofs.lemmas.List.{get_or_append_left, get_or_push, length-map, length_push, nil_from_length}
use Rattle.std.proofs.lemmas.List.Elements.{All-from_recursion}
use Rattle.std.proofs.Math.ListN.{get_or-map}
use Rattle.al_base.proofs.Elements.{each_both, each_either}
use Rattle.std.proofs.lemmas.List.Sorted.{IsPermutation-append_comm}
use Rattle.al_base.proofs.FaultLists.{AllByRecursion-fault_list, derived_is, derived_ties, fault_cmp_same, fault_cmp_total, fault_list-permutation, fault_list-sorted}
use Rattle.al_session_folder.proofs.Referring.{ordered_mapped}
use Rattle.al_base.specs.contracts.faults.FaultOrd.TheImpl as derived
use Rattle.al_base.specs.contracts.faults.FaultPartialEq.TheImpl as derived_eq
use Rattle.al_base.specs.FaultLists.{fault_cmp, fault_list}
use Rattle.al_base.specs.InOrder.{in_order, with_one}
use Rattle.al_base.specs.Spans.{LiesIn}
use Rattle.al_base.specs.declared.faults.Fault.{Fault}
use Rattle.al_lint.specs.Meaning.{Meaning}
use Rattle.al_session_folder.specs.Folder.{Folder, answers, faults_in}
use Rattle.al_session_folder.specs.Kept.{Files, folder_of, referents, AllKept}
use Rattle.al_session_folder.specs.Cycles.{calls_graph, callee, is_on_cycle, call_cycle_faults, report_faults}
use Rattle.al_session_folder.specs.declared.kept.KeptFile.{KeptFile}
use Rattle.al_lint.specs.declared.lint.Target.{Target}
use Rattle.al_session_folder.proofs.CallCycles.{fault_if, kept_number, faults_on_cycles}
use Rattle.al_session_folder.specs.Checked.{AllChecked}
use Rattle.al_session_folder.specs.Printing.{AreNumbered, ArePrintable, joined_faults, joined_or_own}

-- ---- joining faults

-- the faults of the kept file with this number
pub checked_number : {U I : Type 0} (m : Meaning I) (f : Folder) (files : Files U I) (i : ℕ) (e : String Global × KeptFile U I) → AllChecked m f files → slice_get files i ≡ Some e →
    e.1.faults.items ≡ faults_in m f (string_bytes e.0) e.1.bytes.items
checked_number m f files i e h at = each_at (λ e. e.1.faults.items ≡ faults_in m f (string_bytes e.0) e.1.bytes.items) files i e h at

module _ {I : Type 0} (m : Meaning I) (ordered : (p b : List ℕ) (given : List (Option I)) → IsStrictlySortedBy fault_cmp (m.faults p b given)) (f : Folder) where
  -- If no call is on a call cycle, the file's own faults are listed.
  pub own_reported : (i : ℕ) (p b : List ℕ) (faults : List Fault) → faults ≡ faults_in m f p b → call_cycle_faults m f i p b ≡ [] → faults ≡ report_faults m f i p b
  unfolding report_faults faults_in
  own_reported i p b faults is none = is ∙ sym (rw none (fault_list-sorted (m.faults p b (answers m f p b)) (ordered p b (answers m f p b))))

-- ---- the faults are within the file

module _ {I : Type 0} (m : Meaning I) (f : Folder) (i : ℕ) (size : ℕ) where
  on_cycles_inside : (ts : List Target) (ss : List Fault) → AllByRecursion (λ (s : Fault). LiesIn size s.span) ss →
      AllByRecursion (λ (fault : Fault). LiesIn size fault.span) (faults_on_cycles (calls_graph m f) f i ts ss)
  on_cycles_inside [] ss h = tt
  on_cycles_inside (t ∷ ts) [] h = tt
  on_cycles_inside (t ∷ ts) (s ∷ ss) h =
      each_both _ (fault_if (is_on_cycle (calls_graph m f) i (callee f t)) s) (faults_on_cycles (calls_graph m f) f i ts ss)
      (each_either _ (is_on_cycle (calls_graph m f) i (callee f t)) (s ∷ []) [] (h.0, tt) tt) (on_cycles_inside ts ss h.1)

module _ {I : Type 0} (m : Meaning I)
    (inside : (p b : List ℕ) (given : List (Option I)) → length b ≤ 1048576 → AllByRecursion (λ (fault : Fault). LiesIn (length b) fault.span) (m.faults p b given))
    (sites : (p b : List ℕ) → length b ≤ 1048576 → AllByRecursion (λ (s : Fault). LiesIn (length b) s.span) (m.sites p b)) where
  reported_inside : (f : Folder) (i : ℕ) (p b : List ℕ) → length b ≤ 1048576 → AllByRecursion (λ (fault : Fault). LiesIn (length b) fault.span) (report_faults m f i p b)
  unfolding report_faults faults_in
  reported_inside f i p b small =
      AllByRecursion-fault_list (λ (fault : Fault). LiesIn (length b) fault.span) (call_cycle_faults m f i p b ++ m.faults p b (answers m f p b))
      (each_both _ (call_cycle_faults m f i p b) (m.faults p b (answers m f p b)) (on_cycles_inside m f i (length b) (m.calls p b) (m.sites p b) (sites p b small))
      (inside p b (answers m f p b) small))

  pub printable : {U : Type 0} (is_unit : U → List ℕ → List ℕ → Type 0) (files : Files U I) → AllKept m is_unit files → ArePrintable m files
  printable is_unit files kept i e at =
      let one = kept_number m is_unit files i e kept at in
      record { small = one.small; lines = one.lines; inside = reported_inside (folder_of files) i (string_bytes e.0) e.1.bytes.items one.small }

-- ---- some fault or none

some_list : (x : Fault) (xs : List Fault) → not (length (x ∷ xs) == 0) ≡ true
some_list x xs = grind (arith, nat_tests)

none_of : {X : Type 0} (xs : List X) → (length xs == 0) ≡ true → xs ≡ []
none_of xs e = nil_from_length xs (grind (arith, nat_tests))

pub some_in_order : (xs : List Fault) → not (length (in_order fault_cmp xs) == 0) ≡ not (length xs == 0)
some_in_order [] = refl
some_in_order (x ∷ xs) = by (in_order fault_cmp xs) ∙ sym (some_list x xs)
  where
    by : (ys : List Fault) → not (length (with_one fault_cmp x ys) == 0) ≡ true
    by [] = some_list x []
    by (y ∷ ys) = by_ordering (fault_cmp x y) (λ a. rw a (some_list x (y ∷ ys))) (λ a. rw a (some_list y ys)) (λ a. rw a (some_list y (with_one fault_cmp x ys)))

pub some_of_both : (a b : List Fault) → not (length (a ++ b) == 0) ≡ (not (length a == 0) || not (length b == 0))
some_of_both a b = let all = length-append a b in grind (arith, nat_tests, all)

-- ---- sorting references to faults

pub ordered_faults : (xs sorted out : List (Bor Fault)) → IsPermutation xs sorted → IsSorted (λ x y. derived.ghosts.cmp x.now y.now) sorted →
    out ≡ dedup (λ (x y : Bor Fault). derived_eq.ghosts.eq x.now y.now) sorted → referents out ≡ fault_list (referents xs)
ordered_faults xs sorted out moved by_cmp is =
    ordered_mapped (λ (r : Bor Fault). r.now) fault_cmp_total fault_cmp_same derived_eq.ghosts.eq derived_ties xs sorted out moved
    (subst (λ (cmp : Fault → Fault → Ordering). IsSorted (λ (x y : Bor Fault). cmp x.now y.now) sorted) (λ i x y. derived_is x y i) by_cmp) is

pub all-referred : (P : Fault → Type 0) (xs : List (Bor Fault)) (i : ℕ) (r : Bor Fault) → AllByRecursion P (referents xs) → i < length xs → r ≡ get_or xs i r → P r.now
all-referred P xs i r all lt is =
    rw (get_or-map (λ (x : Bor Fault). x.now) xs i r, ← is) at (All-from_recursion P (referents xs) all i r.now (rw length-map lt))

-- The code's list joins the file's own faults and those of its calls on call cycles.
pub listed_both : {U I : Type 0} (m : Meaning I) (files : Files U I) (i : ℕ) (e : String Global × KeptFile U I) (all : List Fault)
    (list : List (Bor Fault)) → AllChecked m (folder_of files) files → slice_get files i ≡ Some e →
    all ≡ e.1.faults.items ++ call_cycle_faults m (folder_of files) i (string_bytes e.0) e.1.bytes.items → referents list ≡ fault_list all →
    referents list ≡ report_faults m (folder_of files) i (string_bytes e.0) e.1.bytes.items
unfolding report_faults
listed_both m files i e all list checked at a o =
    let own = faults_in m (folder_of files) (string_bytes e.0) e.1.bytes.items in
    let on_cycles = call_cycle_faults m (folder_of files) i (string_bytes e.0) e.1.bytes.items in
    o ∙ ap fault_list (a ∙ ap (λ x. x ++ on_cycles) (checked_number m (folder_of files) files i e checked at))
    ∙ fault_list-permutation (own ++ on_cycles) (on_cycles ++ own) (IsPermutation-append_comm own on_cycles)

-- the faults that are listed for a file
module _ {U I : Type 0} (m : Meaning I) (ordered : (p b : List ℕ) (given : List (Option I)) → IsStrictlySortedBy fault_cmp (m.faults p b given)) (files : Files U I) (i : ℕ)
    (e : String Global × KeptFile U I) (own on_cycles : List Fault) (joined : List (Bor Fault)) (checked : AllChecked m (folder_of files) files) (at : slice_get files i ≡ Some e)
    (is : own ≡ e.1.faults.items) (all : on_cycles ≡ call_cycle_faults m (folder_of files) i (string_bytes e.0) e.1.bytes.items) (now : referents joined ≡ joined_faults own on_cycles) where
  pub listed_is : joined_or_own e.1 joined ≡ report_faults m (folder_of files) i (string_bytes e.0) e.1.bytes.items
  listed_is = by (length on_cycles == 0) refl
    where
      long : length (referents joined) ≡ length joined
      long = length-map joined (λ (r : Bor Fault). r.now)

      by : (b : Bool) → (length on_cycles == 0) ≡ b → joined_or_own e.1 joined ≡ report_faults m (folder_of files) i (string_bytes e.0) e.1.bytes.items
      by true none =
          let empty : length joined ≡ 0 = sym long ∙ ap length (rw none at now) in
          rw empty (own_reported m ordered (folder_of files) i (string_bytes e.0) e.1.bytes.items e.1.faults.items
          (checked_number m (folder_of files) files i e checked at) (sym all ∙ none_of on_cycles none))
      by false some =
          let put : referents joined ≡ fault_list (own ++ on_cycles) = rw some at now in
          let in_order_too = some_in_order (own ++ on_cycles) in
          let both = some_of_both own on_cycles in
          let no : (length joined == 0) ≡ false = let length_is = ap length put in grind (arith, nat_tests, long, length_is, in_order_too, both, some) in
          rw no (listed_both m files i e (own ++ on_cycles) joined checked at (rw (is, all)) put)

-- ---- numbered elements

module _ {X : Type 0} (P : ℕ → X → Type 0) where
  pub numbered_none : (all : List X) → all ≡ [] → AreNumbered P 0 all
  numbered_none all none = record { number = ap length none; each = λ i x below is. absurd (omega (arith, below)) }

  pub numbered_more : (n : ℕ) (old new : List X) (x : X) → AreNumbered P n old → P n x → new ≡ old ++ x ∷ [] → AreNumbered P (n + 1) new
  numbered_more n old new x are one more = record {
    number = rw (more, length_push old x, are.number);
    each = λ i y below is. ⊎_elim
        (λ lt. are.each i y lt (is ∙ rw more (get_or_append_left old (x ∷ []) y i (rw are.number lt))))
        (λ past.
        let here : n ≡ i = omega (arith, past, below) in
        let last : y ≡ x = is ∙ rw (more, ← here) (get_or_push old x y n are.number) in
        rw (← here, last) one)
        (cases_lt i n);
  }
