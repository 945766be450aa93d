-- What is known of outputs, found by place: answers prepended one by one.
use Rattle.std.proofs.Common.{◌≡◌, ◌<◌, ◌+◌, ℕ, List, [], refl, sym, ap, ◌∙◌, Bool, true, false, ◌&&◌, cond, Option, Some, None, option_map, Bor, arith}
use Rattle.std.proofs.Common.{drop, get_or, length, map}
use Rattle.std.proofs.Math.Bool.{and-false, and-true}
use Rattle.std.proofs.lemmas.Bool.Decides.{nat_tests}
use Rattle.std.proofs.lemmas.List.{drop_more, length-map}
use Rattle.std.proofs.lemmas.Map.Text.{is_eq-slice_cmp}
use Rattle.std.proofs.lemmas.Option.{slice_get-map, slice_get_past, slice_get_read}
use Rattle.std.specs.BTreeMap.{BTreeMap, Updates, get, get_by, is_at}
use Rattle.std.specs.Cmp.Lexicographic.{slice_cmp}
use Rattle.std.specs.Map.{lookup}
use Rattle.std.specs.Option.{option_cmp, option_copied, option_eq, option_flatten}
use Rattle.std.specs.Ordering.{is_eq, nat_cmp, ordering_then}
use Rattle.std.specs.Prelude.{◌==◌, find, if◌then◌else◌, option_and_then, slice_get, unwrap_or}
use Rattle.std.specs.Slice.{IsItemAt}
use Rattle.std.specs.Str.{bytes_eq}
use Rattle.std.specs.declared.cmp.Ordering.{Ordering}
use Rattle.std.specs.declared.cmp.Ordering.TheVariants.{Equal}
use Rattle.al_check_contexts.specs.Answered.{OutputsOfCall, is_call_at, call_outputs}
use Rattle.al_expr_types.specs.declared.name_list.NameList.{NameList}
use Rattle.al_check_contexts.specs.Lookups.{Found, and_found, found_at, known_by, list_at}
use Rattle.al_check_contexts.specs.declared.known.Answer.{Answer}
use Rattle.al_check_contexts.specs.declared.known.Outputs.{Outputs}

-- ---- keys of the map as places

abbrev Key : Type 0
Key = Option (Bor (List ℕ)) × Option ℕ

abbrev job_cmp : Option (Bor (List ℕ)) → Option (Bor (List ℕ)) → Ordering
job_cmp = option_cmp (λ a b. slice_cmp nat_cmp a.now b.now)

abbrev key_cmp : Key → Key → Ordering
key_cmp a b = ordering_then (job_cmp a.0 b.0) (option_cmp nat_cmp a.1 b.1)

abbrev place_cmp : Option (List ℕ) → Option ℕ → Key → Ordering
place_cmp job step k = ordering_then (option_cmp (slice_cmp nat_cmp) job (option_copied k.0)) (option_cmp nat_cmp step k.1)

to_job : Option (List ℕ) → Option (Bor (List ℕ))
to_job None = None
to_job (Some t) = Some (record { ref_ptr = (0, 0); now = t })

copied_job : (job : Option (List ℕ)) → option_copied (to_job job) ≡ job
unfolding to_job
copied_job None = refl
copied_job (Some t) = refl

jobs_compared : (a b : Option (Bor (List ℕ))) → job_cmp a b ≡ option_cmp (slice_cmp nat_cmp) (option_copied a) (option_copied b)
jobs_compared None None = refl
jobs_compared (Some a) (Some b) = refl
jobs_compared _ _ = refl

compared : (job : Option (List ℕ)) (step : Option ℕ) (k : Key) → key_cmp (to_job job, step) k ≡ place_cmp job step k
compared job step k =
    ap (λ o. ordering_then o (option_cmp nat_cmp step k.1))
    (jobs_compared (to_job job) k.0 ∙ ap (λ j. option_cmp (slice_cmp nat_cmp) j (option_copied k.0)) (copied_job job))

got : {V : Type 0} (m : BTreeMap Key V) (job : Option (List ℕ)) (step : Option ℕ) → get key_cmp m (to_job job, step) ≡ get_by (place_cmp job step) m
got m job step = λ d. get_by (λ k. compared job step k d) m

-- ---- whether a key is at a place

then_eq : (o p : Ordering) → is_eq (ordering_then o p) ≡ (is_eq p && is_eq o)
then_eq Equal p = sym (and-true (is_eq p))
then_eq _ p = sym (and-false (is_eq p))

same_number : (i k : ℕ) → is_eq (nat_cmp i k) ≡ (i == k)
same_number i k = grind (arith, nat_tests)

same_option : {A : Type 0} (cmp : A → A → Ordering) (eq : A → A → Bool) → ((x y : A) → is_eq (cmp x y) ≡ eq x y) →
    (a b : Option A) → is_eq (option_cmp cmp a b) ≡ option_eq eq a b
same_option cmp eq same None None = refl
same_option cmp eq same (Some x) (Some y) = same x y
same_option cmp eq same _ _ = refl

at_place : (key : Key) (names : Option (List (List ℕ))) (job : Option (List ℕ)) (step : Option ℕ) →
    is_at (key_cmp key) (to_job job, step) ≡ is_call_at job step (record { job = option_copied key.0; step = key.1; names = names })
at_place key names job step =
    then_eq (job_cmp key.0 (to_job job)) (option_cmp nat_cmp key.1 step)
    ∙ ap (λ b. b && is_eq (job_cmp key.0 (to_job job))) (same_option nat_cmp (λ i k. i == k) same_number key.1 step)
    ∙ ap (λ b. option_eq (λ i k. i == k) key.1 step && b)
    (ap is_eq (jobs_compared key.0 (to_job job) ∙ ap (option_cmp (slice_cmp nat_cmp) (option_copied key.0)) (copied_job job))
    ∙ same_option (slice_cmp nat_cmp) bytes_eq is_eq-slice_cmp (option_copied key.0) job)

-- what is found at a key is what is known there
pub names_found : (o : Outputs) (job : Option (Bor (List ℕ))) (step : Option ℕ) (r : Option (Option ℕ)) → r ≡ get_by (key_cmp (job, step)) o.positions →
    known_by o (option_copied job) step ≡ option_and_then (λ names. names) (option_map (option_and_then (list_at o)) r)
unfolding found_at
names_found o job step r e =
    ap (λ x. option_and_then (λ names. names) (option_map (option_and_then (list_at o)) x))
    (sym (λ d. get_by (λ k. ordering_then (jobs_compared job k.0 d) (option_cmp nat_cmp step k.1)) o.positions) ∙ sym e)

-- ---- a list at a position

pub list_found : (lists : List (Bor NameList)) (i : ℕ) (r : Option (Bor (Bor NameList))) → IsItemAt lists i r →
    option_map (λ l. l.now) (option_map (λ x. x.now) r) ≡ slice_get (map (λ l. l.now) lists) i
list_found lists i None item = sym (slice_get_past (map (λ l. l.now) lists) i (rw length-map item.3))
list_found lists i (Some x) item =
    sym (slice_get-map (λ l. l.now) lists i
    ∙ ap (option_map (λ l. l.now)) (slice_get_read lists (length lists) i x.now refl item.3.0 item.1))

-- past the lists there is none
none_after : (lists : List (List (List ℕ))) (i : ℕ) → i ≡ length lists → slice_get lists i ≡ None
none_after lists i e = slice_get_past lists i (omega (arith, e))

-- the list at a position, if both are known
pub or_none : (lists : List (List (List ℕ))) (i : ℕ) (r : Option (Option ℕ)) → i ≡ length lists →
    slice_get lists (unwrap_or (option_flatten r) i) ≡ option_and_then (λ names. names) (option_map (option_and_then (slice_get lists)) r)
or_none lists i (Some (Some k)) e = refl
or_none lists i (Some None) e = none_after lists i e
or_none lists i None e = none_after lists i e

-- ---- a prepended answer

chosen : {V W : Type 0} (f : V → W) (b : Bool) (v : V) (o : Option V) → option_map f (cond b (Some v) o) ≡ (if b then Some (f v) else option_map f o)
chosen f true v o = refl
chosen f false v o = refl

pub put_found : (old : Outputs) (new : BTreeMap Key (Option ℕ)) (key : Key) (position : Option ℕ) → Updates key_cmp old.positions new key (Some position) →
    found_at (record old { positions = new })
    ≡ and_found (record { job = option_copied key.0; step = key.1; names = option_and_then (list_at old) position }) (found_at old)
unfolding found_at
put_found old new key position u =
    let names : Option ℕ → Option (List (List ℕ)) = option_and_then (list_at old) in
    λ d job step.
    (ap (option_map names) (sym (got new job step) ∙ u.0 (to_job job, step))
    ∙ chosen names (is_at (key_cmp key) (to_job job, step)) position (get key_cmp old.positions (to_job job, step))
    ∙ ap (λ o. if is_at (key_cmp key) (to_job job, step) then Some (names position) else option_map names o) (got old.positions job step)
    ∙ ap (λ b. if b then Some (names position) else option_map names (get_by (place_cmp job step) old.positions)) (at_place key (names position) job step)) d

-- ---- all answers

abbrev pub found_in : List OutputsOfCall → Found
found_in bs job step = option_map (λ b. b.names) (find (is_call_at job step) bs)

-- one more answer, prepended
pub found_more : (lists : List (List (List ℕ))) (answers : List Answer) (i k : ℕ) (d : Answer) (old new : Found) → i < length answers → k ≡ i + 1 →
    new ≡ and_found (call_outputs lists (get_or answers i d)) old → old ≡ found_in (map (call_outputs lists) (drop k answers)) →
    new ≡ found_in (map (call_outputs lists) (drop i answers))
found_more lists answers i k d old new within next put so_far =
    let b = call_outputs lists (get_or answers i d) in
    let rest = map (call_outputs lists) (drop (i + 1) answers) in
    put ∙ ap (and_found b) (so_far ∙ ap (λ n. found_in (map (call_outputs lists) (drop n answers))) next)
    ∙ (λ e job step. sym (chosen (λ (x : OutputsOfCall). x.names) (is_call_at job step b) b (find (is_call_at job step) rest)) e)
    ∙ ap (λ l. found_in (map (call_outputs lists) l)) (sym (drop_more answers i d within))

-- where nothing was put
pub none_found : (o : Outputs) (bs : List OutputsOfCall) → o.positions.entries ≡ [] → bs ≡ [] → found_at o ≡ found_in bs
unfolding found_at
none_found o bs e h = (λ d job step. option_map (option_and_then (list_at o)) (lookup (is_at (place_cmp job step)) (e d))) ∙ ap found_in (sym h)
