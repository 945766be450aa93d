-- The candidates that aren't in the folder, and sorting paths.
use Rattle.std.proofs.lemmas.Map.Lookups.{exact_bytes}
use Rattle.std.proofs.Common.{map, ◌≡◌, ℕ, ◌+◌, ◌<◌, Bool, List, [], ◌∷◌, ◌++◌, length, get_or, take}
use Rattle.std.proofs.Common.{filter, String, refl, sym, ◌∙◌, ap}
use Rattle.std.proofs.Common.{append-nil, append_assoc}
use Rattle.std.specs.List.{dedup, flat_map}
use Rattle.std.specs.List.Sorted.{IsPermutation, IsSortedBy, IsStrictlySortedBy}
use Rattle.std.specs.Borrow.{Bor}
use Rattle.std.specs.Cmp.{IsStrictWeakOrder}
use Rattle.std.specs.Fn.{Called, ComparesAs, Mut}
use Rattle.std.specs.Prelude.{bytes_eq}
use Rattle.std.specs.Global.{Global}
use Rattle.std.specs.Ordering.{is_lt, nat_cmp}
use Rattle.std.specs.declared.cmp.Ordering.{Ordering}
use Rattle.std.specs.Cmp.Lexicographic.{slice_cmp}
use Rattle.std.proofs.lemmas.Cmp.{nat_list_cmp_total}
use Rattle.std.proofs.lemmas.List.{take_more}
use Rattle.std.proofs.lemmas.Grind.{flat_map-append}
use Rattle.std.proofs.lemmas.List.Elements.{filter-append}
use Rattle.std.proofs.lemmas.List.MinMax.{ranks_by}
use Rattle.std.proofs.lemmas.Fn.{always_returns_same}
use Rattle.std.proofs.lemmas.Map.Text.{is_eq-slice_cmp}
use Rattle.al_lint.specs.Meaning.{Meaning, candidates}
use Rattle.al_session_folder.specs.Kept.{Files, folder_of, AllKept}
use Rattle.al_session_folder.specs.declared.kept.KeptFile.{KeptFile}
use Rattle.al_session_folder.specs.Folder.{Folder}
use Rattle.al_session_folder.specs.Missing.{is_absent, absent_candidates, missing_in}
use Rattle.al_base.specs.InOrder.{in_order}
use Rattle.al_base.proofs.InOrder.{IsStrictlySortedBy-in_order}
use Rattle.al_lint.specs.declared.lint.Target.{Target}
use Rattle.al_session_folder.proofs.Referring.{ordered_mapped}

-- one more call
pub next_absent : (f : Folder) (ps so_far more : List (List ℕ)) (ts : List Target) (i : ℕ) (t : Target) → i < length ts → t ≡ get_or ts i t
    → so_far ≡ ps ++ absent_candidates f (take i ts) → more ≡ so_far ++ filter (is_absent f) (candidates t)
    → more ≡ ps ++ absent_candidates f (take (i + 1) ts)
next_absent f ps so_far more ts i t within read before now =
    rw (
      now,
      before,
      append_assoc,
      take_more ts i t within,
      ← read,
      flat_map-append candidates (take i ts) (t ∷ []),
      append-nil (candidates t),
      filter-append (is_absent f) (flat_map candidates (take i ts)) (candidates t),
    )

-- one more file
pub next_missing : {X : Type 0} (part : X → List (List ℕ)) (so_far more : List (List ℕ)) (xs : List X) (i : ℕ) (x : X) → i < length xs → x ≡ get_or xs i x
    → so_far ≡ flat_map part (take i xs) → more ≡ so_far ++ part x → more ≡ flat_map part (take (i + 1) xs)
next_missing part so_far more xs i x within read before now = rw (now, before, take_more xs i x within, ← read, flat_map-append part (take i xs) (x ∷ []), append-nil (part x))

-- over kept files, and over their folder
pub missing_is : {U I : Type 0} (m : Meaning I) (is_unit : U → List ℕ → List ℕ → Type 0) (f : Folder) (files : Files U I) → AllKept m is_unit files
    → flat_map (λ (e : String Global × KeptFile U I). absent_candidates f e.1.calls.targets.items) files ≡ flat_map (λ e. absent_candidates f (m.calls e.0 e.1)) (folder_of files)
missing_is m is_unit f [] kept = refl
missing_is m is_unit f (e ∷ es) kept = rw (kept.0.calls.targets, missing_is m is_unit f es kept.1)

pub nothing_sorted : IsStrictlySortedBy (slice_cmp nat_cmp) []
unfolding IsStrictlySortedBy
nothing_sorted = tt

-- the missing candidates of all files
pub missing_of : {U I : Type 0} (m : Meaning I) (is_unit : U → List ℕ → List ℕ → Type 0) (files : Files U I) (paths : List (List ℕ)) → AllKept m is_unit files
    → paths ≡ in_order (slice_cmp nat_cmp) (flat_map (λ (e : String Global × KeptFile U I). absent_candidates (folder_of files) e.1.calls.targets.items) files) → paths ≡ missing_in m (folder_of files)
unfolding missing_in
missing_of m is_unit files paths kept is = is ∙ ap (in_order (slice_cmp nat_cmp)) (missing_is m is_unit (folder_of files) files kept)

-- the missing candidates are sorted
pub missing_sorted : {I : Type 0} (m : Meaning I) (f : Folder) → IsStrictlySortedBy (slice_cmp nat_cmp) (missing_in m f)
unfolding missing_in
missing_sorted m f = IsStrictlySortedBy-in_order nat_list_cmp_total exact_bytes (flat_map (λ e. absent_candidates f (m.calls e.0 e.1)) f)

-- Sorting paths, or references to them, and then removing duplicates.
pub ordered_by : {Y F : Type 0} (v : Y → List ℕ) {g : Mut F (Bor Y × (Bor Y × Unit {0})) Ordering} {f : F} (ys sorted out : List Y)
    → IsPermutation ys sorted → ((lt : Y → Y → Bool) → IsStrictWeakOrder lt → ComparesAs g lt f → IsSortedBy lt sorted)
    → ((a : Bor Y × (Bor Y × Unit {0})) (r : Ordering) (f' : F) → Called g f a r f' → (r ≡ slice_cmp nat_cmp (v a.0.now) (v a.1.0.now)) × (f' ≡ f))
    → out ≡ dedup (λ p q. bytes_eq (v p) (v q)) sorted → map v out ≡ in_order (slice_cmp nat_cmp) (map v ys)
ordered_by v {g = g} {f = f} ys sorted out moved up h is =
    ordered_mapped v nat_list_cmp_total exact_bytes bytes_eq (λ x y. sym (is_eq-slice_cmp x y)) ys sorted out moved
    (up (λ x y. is_lt (slice_cmp nat_cmp (v x) (v y))) (ranks_by nat_list_cmp_total v)
    (always_returns_same g (λ a r. is_lt r ≡ is_lt (slice_cmp nat_cmp (v a.0.now) (v a.1.0.now))) f (λ a r f' k. (ap is_lt (h a r f' k).0, (h a r f' k).1)))) is
