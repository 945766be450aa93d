-- The files that a change of one path can affect.
use Rattle.std.proofs.Math.Bool.{or-false, or_comm}
use Rattle.std.proofs.lemmas.Map.Lookups.{btree_set_from_contains, exact_bytes}
use Rattle.std.proofs.lemmas.Map.Keys.{sorted_tail}
use Rattle.std.proofs.Common.{◌++◌, ◌≡◌, ℕ, Bool, true, false, not, ◌&&◌, ◌||◌, cond, filter}
use Rattle.std.proofs.Common.{List, [], ◌∷◌, Option, Some, None, is_some, refl, sym, ◌∙◌, ap, subst, arith}
use Rattle.std.specs.Prelude.{bytes_eq}
use Rattle.std.proofs.Common.{Bor}
use Rattle.std.specs.Option.{option_copied}
use Rattle.al_session_folder.specs.declared.kept.KeptFile.{KeptFile}
use Rattle.std.specs.Option.{option_map, option_map_or, option_eq}
use Rattle.std.specs.List.{AllByRecursion, list_all, list_any}
use Rattle.std.specs.List.Sorted.{IsStrictlySortedBy}
use Rattle.std.specs.Ordering.{nat_cmp, is_eq, eq_by_cmp}
use Rattle.std.specs.declared.cmp.Ordering.TheVariants.{Less}
use Rattle.std.specs.Cmp.Lexicographic.{slice_cmp}
use Rattle.std.proofs.lemmas.Bool.Decides.{nat_tests, same_from_decides}
use Rattle.std.proofs.lemmas.List.Elements.{All-from_recursion, recursion_from_All}
use Rattle.std.proofs.lemmas.Map.Views.{All-map-remove_entry, Contains-from_any, list_any-from_Contains}
use Rattle.std.specs.BTreeMap.{is_at}
use Rattle.std.proofs.lemmas.Bool.{both_ways, cond-true, cond-false, cond_both, false_from_ne_true, or_left, or_right}
use Rattle.std.proofs.lemmas.Map.Text.{is_eq-slice_cmp}
use Rattle.std.proofs.lemmas.Cmp.{nat_list_cmp_total, nat_list_eq_equiv}
use Rattle.al_lint.specs.Meaning.{Meaning, candidates, is_candidate}
use Rattle.std.proofs.lemmas.List.Folds.{list_any-append}
use Rattle.al_session_folder.specs.Folder.{Folder, without_file, bytes_at, paths_of, interface_in, find_map, answer}
use Rattle.al_session_folder.specs.Affected.{is_untouched, affected_paths, is_affected, is_among}
use Rattle.al_session_folder.specs.FolderViews.{FolderChange, IsChange, affected_by, change_of, changed_by}
use Rattle.al_session_folder.specs.Kept.{Callers, Files, IsCallerIndex, file_at, folder_of, is_caller, with_bytes_at}
use Rattle.al_base.specs.InOrder.{in_order}
use Rattle.al_base.proofs.InOrder.{Contains-from_in_order, Contains-in_order, IsStrictlySortedBy-in_order}
use Rattle.al_lint.specs.declared.lint.Target.{Target}
use Rattle.al_session_folder.proofs.Places.{sorted_put}
use Rattle.al_session_folder.proofs.Views.{bytes_changed, bytes_kept, bytes_same, bytes_self, kept_at, none_after}

pub eq_flipped : (p q : List ℕ) (t : Bool) → bytes_eq p q ≡ t → bytes_eq q p ≡ t
eq_flipped p q t h = nat_list_eq_equiv.symm q p ∙ h

pub same_answer_exact : {I : Type 0} (eq : I → I → Bool) → ((x y : I) → eq x y ≡ true → x ≡ y) → (a b : Option I) → option_eq eq a b ≡ true → a ≡ b
same_answer_exact eq exact None None h = refl
same_answer_exact eq exact (Some x) (Some y) h = ap Some (exact x y h)
same_answer_exact eq exact _ _ h = absurd cc

pub same_as_itself : {I : Type 0} (eq : I → I → Bool) → ((x : I) → eq x x ≡ true) → (o : Option I) → option_eq eq o o ≡ true
same_as_itself eq itself None = refl
same_as_itself eq itself (Some x) = itself x

module _ {I : Type 0} (m : Meaning I) (p : List ℕ) (f : Folder) (now : Option (List ℕ)) (ordered : IsStrictlySortedBy (slice_cmp nat_cmp) (paths_of f)) where
  abbrev After : Folder
  After = with_bytes_at f p now

  abbrev IsStill : Type 0
  IsStill = interface_in m f p ≡ interface_in m (with_bytes_at f p now) p

  -- A change at `p` leaves the interfaces at other paths as they are.
  offers : (q : List ℕ) → (bytes_eq p q ≡ true → IsStill) → interface_in m After q ≡ interface_in m f q
  offers q still = by (bytes_eq q p) refl
    where
      by : (t : Bool) → bytes_eq q p ≡ t → interface_in m After q ≡ interface_in m f q
      by true a = rw (bytes_same q p a) (sym (still (eq_flipped q p true a)))
      by false a = rw (bytes_changed p q f now ordered, a)

  -- The answer of a call is the same if `p` isn't one of its candidates, or if the interface at `p` is the same.
  among_still : (ps : List (List ℕ)) → (list_any (bytes_eq p) ps ≡ true → IsStill) → find_map (interface_in m After) ps ≡ find_map (interface_in m f) ps
  among_still [] still = refl
  among_still (q ∷ ps) still = rw (offers q (λ a. still (or_left _ _ a)), among_still ps (λ a. still (or_right _ _ a)))

  module _ (eq : I → I → Bool) (itself : (x : I) → eq x x ≡ true) where
    abbrev AllSame : List Target → Bool
    AllSame ts = list_all (λ t. option_eq eq (answer m f t) (answer m (with_bytes_at f p now) t)) ts

    same_answers : (ts : List Target) → (is_candidate ts p ≡ true → IsStill) → AllSame ts ≡ true
    unfolding answer
    same_answers [] still = refl
    same_answers (t ∷ ts) still =
        rw (among_still (candidates t) (λ a. still (or_left _ _ a)), same_as_itself eq itself (find_map (interface_in m f) (candidates t))) (same_answers ts (λ a. still (or_right _ _ a)))

    -- a call that doesn't have the candidate `p` keeps its answer
    pub same_elsewhere : (t : Target) → is_candidate (t ∷ []) p ≡ false → option_eq eq (answer m f t) (answer m (with_bytes_at f p now) t) ≡ true
    unfolding answer
    same_elsewhere t far =
        let not_there = λ (a : list_any (bytes_eq p) (candidates t) ≡ true). both_ways (is_candidate (t ∷ []) p) far (or_left (list_any (bytes_eq p) (candidates t)) false a) in
        rw (among_still (candidates t) (λ a. absurd (not_there a)), same_as_itself eq itself (find_map (interface_in m f) (candidates t))) refl

    -- a file at another path is affected if and only if it is there and one of its calls has another answer
    elsewhere : (q : List ℕ) → bytes_eq q p ≡ false → is_affected eq m f After q ≡ option_map_or (λ b. not (AllSame (m.calls q b))) (bytes_at f q) false
    unfolding is_untouched
    elsewhere q far = rw (bytes_changed p q f now ordered, far) (by (bytes_at f q))
      where
        by : (o : Option (List ℕ)) → option_map_or (λ b. not (option_eq bytes_eq o (Some b) && AllSame (m.calls q b))) o false ≡ option_map_or (λ b. not (AllSame (m.calls q b))) o false
        by None = refl
        by (Some b) = rw (bytes_self b)

    -- A file isn't affected if none of its calls has the candidate `p`, or if the interface at `p` is the same.
    unaffected : (q : List ℕ) → bytes_eq q p ≡ false → (option_map_or (λ b. is_candidate (m.calls q b) p) (bytes_at f q) false ≡ true → IsStill) → is_affected eq m f After q ≡ false
    unaffected q far still = elsewhere q far ∙ by (bytes_at f q) still
      where
        by : (o : Option (List ℕ)) → (option_map_or (λ b. is_candidate (m.calls q b) p) o false ≡ true → IsStill) → option_map_or (λ b. not (AllSame (m.calls q b))) o false ≡ false
        by None still = refl
        by (Some b) still = ap not (same_answers (m.calls q b) still)

    pub none_affected : IsStill → (q : List ℕ) → not (bytes_eq q p) && is_affected eq m f After q ≡ false
    none_affected still q = let far = λ (a : bytes_eq q p ≡ false). unaffected q a (λ _. still) in grind (arith, nat_tests, far)

    -- If the bytes at the changed path differ from before, the file there, if there is one, is affected.
    pub affected_itself : (q : List ℕ) → bytes_eq q p ≡ true → (now ≡ bytes_at f p → ⊥) → is_affected eq m f After q ≡ is_some now
    unfolding is_untouched
    affected_itself q same other = rw (bytes_same q p same, bytes_changed p p f now ordered, bytes_self p) (by now other)
      where
        by : (o : Option (List ℕ)) → (o ≡ bytes_at f p → ⊥) → option_map_or (λ b. not (option_eq bytes_eq (bytes_at f p) (Some b) && AllSame (m.calls p b))) o false ≡ is_some o
        by None other = refl
        by (Some b) other = rw (false_from_ne_true (option_eq bytes_eq (bytes_at f p) (Some b)) (λ is. other (sym (same_answer_exact bytes_eq bytes_same (bytes_at f p) (Some b) is))))

    -- Each affected file is the one at the changed path or one of its callers.
    pub affected_members : (q : List ℕ) (any : Bool) → any ≡ option_map_or (λ b. is_candidate (m.calls q b) p) (bytes_at f q) false → (now ≡ bytes_at f p → ⊥)
        → (any && (not (bytes_eq q p) && is_affected eq m f After q)) || is_among q (cond (is_some now) (p ∷ []) []) ≡ is_affected eq m f After q
    affected_members q any calls other =
        let put = first (is_some now) in
        let itself = λ (a : bytes_eq q p ≡ true). affected_itself q a other in
        let stranger = λ (a : bytes_eq q p ≡ false) (no : any ≡ false). unaffected q a (λ yes. absurd (both_ways any no (calls ∙ yes))) in
        grind (arith, nat_tests, put, itself, stranger)
      where
        first : (s : Bool) → is_among q (cond s (p ∷ []) []) ≡ s && bytes_eq q p
        first true = or-false (bytes_eq q p)
        first false = refl

-- Strictly sorted lists with the same members are equal.

pub same_members : (ps qs : List (List ℕ)) → IsStrictlySortedBy (slice_cmp nat_cmp) ps → IsStrictlySortedBy (slice_cmp nat_cmp) qs
    → ((q : List ℕ) → is_among q ps ≡ is_among q qs) → ps ≡ qs
same_members ps qs s t same =
    btree_set_from_contains nat_list_cmp_total (record { keys = ps }) (record { keys = qs }) s t (λ q. by_order q ps ∙ same q ∙ sym (by_order q qs)) exact_bytes
  where
    by_order : (q : List ℕ) (rs : List (List ℕ)) → list_any (eq_by_cmp (slice_cmp nat_cmp) q) rs ≡ is_among q rs
    by_order q [] = refl
    by_order q (r ∷ rs) = rw (is_eq-slice_cmp q r, by_order q rs)

-- Membership in the list of affected files.

module _ (T : List ℕ × List ℕ → Bool) where
  pub all_kept : (P : List ℕ → Type 0) (g : Folder) → AllByRecursion P (paths_of g) → AllByRecursion P (paths_of (filter T g))
  all_kept P [] all = tt
  all_kept P (e ∷ es) all =
      cond_both (T e) (e ∷ filter T es) (filter T es) (λ l. AllByRecursion P (paths_of l)) (λ _. (all.0, all_kept P es all.1)) (λ _. all_kept P es all.1)

  pub sorted_kept : (g : Folder) → IsStrictlySortedBy (slice_cmp nat_cmp) (paths_of g) → IsStrictlySortedBy (slice_cmp nat_cmp) (paths_of (filter T g))
  unfolding IsStrictlySortedBy
  sorted_kept [] s = tt
  sorted_kept (e ∷ es) s =
      cond_both (T e) (e ∷ filter T es) (filter T es) (λ l. IsStrictlySortedBy (slice_cmp nat_cmp) (paths_of l))
      (λ _. (all_kept (λ y. slice_cmp nat_cmp e.0 y ≡ Less) es s.0, sorted_kept es s.1)) (λ _. sorted_kept es s.1)

  pub member_kept : (g : Folder) (q : List ℕ) → IsStrictlySortedBy (slice_cmp nat_cmp) (paths_of g) → is_among q (paths_of (filter T g)) ≡ option_map_or (λ b. T (q, b)) (bytes_at g q) false
  member_kept [] q s = refl
  member_kept (e ∷ es) q s =
      let rest = member_kept es q (sorted_tail _ _ _ s) in
      let more = filtered (T e) in
      let here : bytes_eq q e.0 ≡ true → kept (bytes_at (e ∷ es) q) ≡ T e = λ a. ap kept (cond-true _ _ _ (is_eq-slice_cmp q e.0 ∙ a)) ∙ ap (λ x. T (x, e.1)) (bytes_same q e.0 a) in
      let after : bytes_eq q e.0 ≡ true → kept (bytes_at es q) ≡ false = λ a. ap kept (none_after q e es (bytes_same q e.0 a) s) in
      let past : bytes_eq q e.0 ≡ false → kept (bytes_at (e ∷ es) q) ≡ kept (bytes_at es q) = λ a. ap kept (cond-false _ _ _ (is_eq-slice_cmp q e.0 ∙ a)) in
      grind (arith, nat_tests, rest, more, here, after, past)
    where
      kept : Option (List ℕ) → Bool
      kept o = option_map_or (λ b. T (q, b)) o false

      filtered : (t : Bool) → is_among q (paths_of (cond t (e ∷ filter T es) (filter T es))) ≡ (t && bytes_eq q e.0) || is_among q (paths_of (filter T es))
      filtered true = refl
      filtered false = refl

-- sorting keeps the members of a list of paths
pub among_ordered : (q : List ℕ) (ps : List (List ℕ)) → is_among q (in_order (slice_cmp nat_cmp) ps) ≡ is_among q ps
among_ordered q ps = same_from_decides (is_among q (in_order (slice_cmp nat_cmp) ps)) (is_among q ps) (
  λ h. Contains-from_in_order nat_list_cmp_total exact_bytes ps q (Contains-from_any bytes_same q (in_order (slice_cmp nat_cmp) ps) h),
  λ c. list_any-from_Contains nat_list_eq_equiv q (in_order (slice_cmp nat_cmp) ps) (Contains-in_order nat_list_cmp_total exact_bytes ps q c),
)
    (Contains-from_any bytes_same q ps, list_any-from_Contains nat_list_eq_equiv q ps)

among_last : (q n : List ℕ) (ps : List (List ℕ)) → is_among q (ps ++ n ∷ []) ≡ bytes_eq q n || is_among q ps
among_last q n ps = list_any-append (bytes_eq q) ps (n ∷ []) ∙ or_comm (is_among q ps) (is_among q (n ∷ [])) ∙ ap (λ t. t || is_among q ps) (or-false (bytes_eq q n))

-- One more path among the affected ones.

pub members_more : (q n p : List ℕ) (aff : List ℕ → Bool) (old new : List (List ℕ)) → new ≡ cond (not (bytes_eq n p) && aff n) (old ++ n ∷ []) old
    → is_among q new ≡ (bytes_eq q n && (not (bytes_eq q p) && aff q)) || is_among q old
members_more q n p aff old new e =
    let members = ap (is_among q) e ∙ more (not (bytes_eq n p) && aff n) in
    let same : bytes_eq q n ≡ true → not (bytes_eq q p) && aff q ≡ not (bytes_eq n p) && aff n = λ z. ap (λ x. not (bytes_eq x p) && aff x) (bytes_same q n z) in
    grind (arith, nat_tests, members, same)
  where
    more : (t : Bool) → is_among q (cond t (old ++ n ∷ []) old) ≡ (t && bytes_eq q n) || is_among q old
    more true = among_last q n old
    more false = refl

module _ {I : Type 0} (eq : I → I → Bool) (m : Meaning I) (f g : Folder) (ordered : IsStrictlySortedBy (slice_cmp nat_cmp) (paths_of g)) where
  pub affected_sorted : IsStrictlySortedBy (slice_cmp nat_cmp) (affected_paths eq m f g)
  unfolding affected_paths
  affected_sorted = sorted_kept (λ e. not (is_untouched eq m f g e.0 e.1)) g ordered

  pub affected_member : (q : List ℕ) → is_among q (affected_paths eq m f g) ≡ is_affected eq m f g q
  unfolding affected_paths
  affected_member q = member_kept (λ e. not (is_untouched eq m f g e.0 e.1)) g q ordered

  -- a sorted list whose members are exactly the affected files
  pub affected_is : (paths : List (List ℕ)) → IsStrictlySortedBy (slice_cmp nat_cmp) paths → ((q : List ℕ) → is_among q paths ≡ is_affected eq m f g q) → paths ≡ affected_paths eq m f g
  affected_is paths s members = same_members paths (affected_paths eq m f g) s affected_sorted (λ q. members q ∙ sym (affected_member q))

start_sorted : (t : Bool) (p : List ℕ) (ps : List (List ℕ)) → ps ≡ cond t (p ∷ []) [] → IsStrictlySortedBy (slice_cmp nat_cmp) ps
unfolding IsStrictlySortedBy
start_sorted t p ps e = subst (IsStrictlySortedBy (slice_cmp nat_cmp)) (sym e) (by t)
  where
    by : (t : Bool) → IsStrictlySortedBy (slice_cmp nat_cmp) (cond t (p ∷ []) [])
    by true = (tt, tt)
    by false = tt

pub sorted_gone : (p : List ℕ) (f : Folder) → IsStrictlySortedBy (slice_cmp nat_cmp) (paths_of f) → IsStrictlySortedBy (slice_cmp nat_cmp) (paths_of (without_file f p))
unfolding IsStrictlySortedBy
sorted_gone p [] s = tt
sorted_gone p (e ∷ es) s =
    cond_both (is_eq (slice_cmp nat_cmp p e.0)) es (e ∷ without_file es p) (λ l. IsStrictlySortedBy (slice_cmp nat_cmp) (paths_of l))
    (λ _. s.1)
    (λ _. (recursion_from_All _ _ (All-map-remove_entry (is_at (slice_cmp nat_cmp p)) (λ e. e.0) (λ y. slice_cmp nat_cmp e.0 y ≡ Less) es (All-from_recursion _ _ s.0)), sorted_gone p es s.1))

pub changed_sorted : (p : List ℕ) (f : Folder) (now : Option (List ℕ)) → IsStrictlySortedBy (slice_cmp nat_cmp) (paths_of f) → IsStrictlySortedBy (slice_cmp nat_cmp) (paths_of (with_bytes_at f p now))
changed_sorted p f None s = sorted_gone p f s
changed_sorted p f (Some b) s = sorted_put p f b s

some_kept : {U I : Type 0} (now : Option (Bor (KeptFile U I))) → is_some now ≡ is_some (option_map (λ (file : KeptFile U I). file.bytes.items) (option_copied now))
some_kept None = refl
some_kept (Some file) = refl

-- A change of kept files, and the change of the folder that contracts see.
module _ {U I : Type 0} (m : Meaning I) (is_unit : U → List ℕ → List ℕ → Type 0) (eq : I → I → Bool) (itself : (x : I) → eq x x ≡ true) (files : Files U I) (p : List ℕ)
    (next : Option (Bor (KeptFile U I))) (change : FolderChange) (view : change_of files p (option_copied next) ≡ change) (is : IsChange m is_unit files p (option_copied next)) where
  abbrev Bytes : Option (List ℕ)
  Bytes = option_map (λ (file : KeptFile U I). file.bytes.items) (option_copied next)

  -- whether a file at another path is affected
  pub touched_is : (q : List ℕ) (file : KeptFile U I) (r : Bool) → bytes_eq q p ≡ false → Some file ≡ file_at files q
      → r ≡ list_all (λ t. option_eq eq (answer m change.before t) (answer m (changed_by change) t)) file.calls.targets.items
      → not (bytes_eq q change.path) && is_affected eq m change.before (changed_by change) q ≡ not r
  touched_is q file r far found told =
      let kept = kept_at m is_unit files q file is.view.kept.kept (sym found) in
      let same = rw (← view, kept.calls.targets) at told in
      rw (← view, far, elsewhere m p (folder_of files) Bytes is.view.kept.ordered eq itself q far, bytes_kept files q, ← found, same)

  -- whether a call that doesn't have the changed path as a candidate keeps its answer
  pub elsewhere_is : (t : Target) → is_candidate (t ∷ []) change.path ≡ false → true ≡ option_eq eq (answer m change.before t) (answer m (changed_by change) t)
  elsewhere_is t far = rw (← view) (sym (same_elsewhere m p (folder_of files) Bytes is.view.kept.ordered eq itself t (rw (← view) at far)))

  pub absent_is : (q : List ℕ) → None ≡ file_at files q → not (bytes_eq q change.path) && is_affected eq m change.before (changed_by change) q ≡ false
  absent_is q none =
      let far : bytes_eq q p ≡ false → is_affected eq m (folder_of files) (with_bytes_at (folder_of files) p Bytes) q ≡ false =
      λ a. rw (elsewhere m p (folder_of files) Bytes is.view.kept.ordered eq itself q a, bytes_kept files q, ← none) in
      rw (← view) (grind (arith, nat_tests, far))

  -- the paths that were found are the affected ones
  module _ {S R : Type 0} (callers : Callers S R) (index : IsCallerIndex m change.before callers) (other : change.bytes ≡ bytes_at change.before change.path → ⊥)
      (start : List (List ℕ)) (put : start ≡ cond (is_some next) (p ∷ []) []) where
    affected_all : (any : List ℕ → Bool) → ((q : List ℕ) → any q ≡ is_caller callers p q) → (paths : List (List ℕ)) → IsStrictlySortedBy (slice_cmp nat_cmp) paths
        → ((q : List ℕ) → is_among q paths ≡ ((not (bytes_eq q change.path) && is_affected eq m change.before (changed_by change) q) && any q) || is_among q start) → paths ≡ affected_by eq m change
    affected_all any calls paths s members =
        rw (← view) (affected_is eq m (folder_of files) (with_bytes_at (folder_of files) p Bytes) (changed_sorted p (folder_of files) Bytes is.view.kept.ordered) paths s (λ q.
        let here = rw (← view, put, some_kept next) at (members q) in
        let all = affected_members m p (folder_of files) Bytes is.view.kept.ordered eq itself q (any q) (calls q ∙ rw (← view) at (index p q)) (rw (← view) at other) in
        grind (arith, nat_tests, here, all)))

    -- after sorting
    pub affected_found : (any : List ℕ → Bool) → ((q : List ℕ) → any q ≡ is_caller callers p q) → (paths : List (List ℕ))
        → ((q : List ℕ) → is_among q paths ≡ ((not (bytes_eq q change.path) && is_affected eq m change.before (changed_by change) q) && any q) || is_among q start)
        → in_order (slice_cmp nat_cmp) paths ≡ affected_by eq m change
    affected_found any calls paths members =
        affected_all any calls (in_order (slice_cmp nat_cmp) paths) (IsStrictlySortedBy-in_order nat_list_cmp_total exact_bytes paths) (λ q. among_ordered q paths ∙ members q)

    pub affected_none : ((q : List ℕ) → is_caller callers p q ≡ false) → start ≡ affected_by eq m change
    affected_none none =
        affected_all (is_caller callers p) (λ q. refl) start (start_sorted (is_some next) p start put) (λ q. let no = none q in grind (arith, nat_tests, no))

    pub affected_still : interface_in m change.before change.path ≡ interface_in m (changed_by change) change.path → start ≡ affected_by eq m change
    affected_still still =
        affected_all (is_caller callers p) (λ q. refl) start (start_sorted (is_some next) p start put)
        (λ q. let no = none_affected m p (folder_of files) Bytes is.view.kept.ordered eq itself (rw (← view) at still) q in rw (← view) (grind (arith, nat_tests, no)))
