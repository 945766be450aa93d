-- Files that are kept without a check, and are checked once all of them are there.
use Rattle.std.proofs.Common.{◌≡◌, ◌≤◌, ℕ, take, true, false, true≢false, List, [], ◌∷◌, length, map, get_or}
use Rattle.std.proofs.Common.{String, Vec, refl, sym, ◌∙◌, ap, arith}
use Rattle.std.specs.Prelude.{string_bytes, bytes_eq, IsSome}
use Rattle.std.specs.Global.{Global}
use Rattle.std.specs.Option.{option_map, option_map_or}
use Rattle.std.specs.List.{AllByRecursion}
use Rattle.std.specs.List.Sorted.{IsStrictlySortedBy}
use Rattle.std.specs.Map.{lookup}
use Rattle.std.proofs.lemmas.List.{length-map, take_all}
use Rattle.std.proofs.lemmas.List.Elements.{recursion_from_All}
use Rattle.std.proofs.lemmas.List.Folds.{list_any_at}
use Rattle.indexmap.specs.IndexSet.{contains_text}
use Rattle.al_base.specs.declared.faults.Fault.{Fault}
use Rattle.al_lint.specs.Meaning.{Meaning}
use Rattle.al_session_folder.specs.declared.kept.KeptFile.{KeptFile}
use Rattle.al_session_folder.specs.Folder.{bytes_at, faults_in, paths_of}
use Rattle.al_session_folder.specs.Affected.{is_among}
use Rattle.al_session_folder.specs.Kept.{Files, folder_of, file_at, faults_of, AllKept, Callers}
use Rattle.al_session_folder.proofs.Places.{paths_of-folder_of}
use Rattle.al_session_folder.proofs.Views.{bytes_self, kept_at, part_at}
use Rattle.al_session.specs.Builder.{AreLoaded}
use Rattle.al_session.specs.Session.{AreLinted}
use Rattle.al_session.specs.Private.Lists.{with_lists}
use Rattle.al_session.proofs.Giving.{all_checked, folder_of-with_lists, given_kept}
use Rattle.al_session.proofs.Linted.{all_there}

-- the files of a folder, once the faults of all paths are computed and stored
module _ {U I S R : Type 0} (m : Meaning I) (is_unit : U → List ℕ → List ℕ → Type 0) (es : Files U I) (callers : Callers S R) (paths : List (List ℕ)) (loaded : AreLoaded m is_unit es callers)
    (are : paths ≡ paths_of (folder_of es)) where
  pub each_there : AllByRecursion (λ q. IsSome (bytes_at (folder_of es) q)) paths
  each_there = rw are (all_there (folder_of es) loaded.kept.ordered)

  pub as_many_paths : length paths ≡ length (folder_of es)
  as_many_paths = ap length are ∙ length-map (folder_of es) (λ (e : List ℕ × List ℕ). e.0)

  pub all_linted : (lists : List (Vec Fault Global)) (es2 : Files U I) → es2 ≡ with_lists es paths lists
      → map (λ (l : Vec Fault Global). l.items) lists ≡ map (faults_of m (folder_of es)) paths → AreLinted m is_unit es2 callers
  all_linted lists es2 put given =
      let same = folder_of-with_lists es paths lists in
      rw put (record {
        kept = given_kept m is_unit es paths lists loaded.kept;
        faults = rw same (all_checked m (folder_of es) es paths lists loaded.kept.ordered refl given (others es (rw (← are) (each paths))));
        index = rw same loaded.index;
      })
    where
      each : (qs : List (List ℕ)) → AllByRecursion (λ q. is_among q qs ≡ true) qs
      each qs = recursion_from_All (λ q. is_among q qs ≡ true) qs (λ i d lt. list_any_at (bytes_eq (get_or qs i d)) qs i d lt (bytes_self (get_or qs i d)))

      others : (l : Files U I) → AllByRecursion (λ q. is_among q paths ≡ true) (paths_of (folder_of l))
          → AllByRecursion (λ (e : String Global × KeptFile U I). is_among (string_bytes e.0) paths ≡ false
          → e.1.faults.items ≡ faults_in m (folder_of es) (string_bytes e.0) e.1.bytes.items) l
      others [] all = tt
      others (e ∷ l) all = (λ none. absurd (true≢false (sym all.0 ∙ none)), others l all.1)

-- the paths that are collected once no file is left
pub all_paths : {U I : Type 0} (es : Files U I) (i : ℕ) (paths : List (List ℕ)) → length es ≤ i → paths ≡ map (λ e. string_bytes e.0) (take i es)
    → paths ≡ paths_of (folder_of es)
all_paths es i paths ended are = rw (take_all i es ended) at are ∙ paths_of-folder_of es

-- the calls that are kept at a path
pub calls_kept : {U I : Type 0} (m : Meaning I) (is_unit : U → List ℕ → List ℕ → Type 0) (files : Files U I) (q : List ℕ) → AllKept m is_unit files
    → option_map (λ (file : KeptFile U I). file.calls.targets.items) (file_at files q) ≡ option_map (m.calls q) (bytes_at (folder_of files) q)
calls_kept m is_unit files q kept =
    part_at (λ file. file.calls.targets.items) (m.calls q) files q (λ file found. (kept_at m is_unit files q file kept found).calls.targets)

-- what is kept of an empty folder
pub empty_loaded : {U I S R : Type 0} (m : Meaning I) (is_unit : U → List ℕ → List ℕ → Type 0) (es : Files U I) (callers : Callers S R)
    → es ≡ [] → callers.entries ≡ [] → AreLoaded m is_unit es callers
unfolding IsStrictlySortedBy
empty_loaded m is_unit es callers none lacks = rw none (record {
  kept = record { ordered = tt; few = omega arith; kept = tt };
  index = λ c q. ap (λ l. option_map_or (λ known. contains_text known q) (lookup (λ k. bytes_eq c (string_bytes k)) l) false) lacks;
})

-- in an empty folder all files are checked
pub empty_linted : {U I S R : Type 0} (m : Meaning I) (is_unit : U → List ℕ → List ℕ → Type 0) (es : Files U I) (callers : Callers S R)
    → es ≡ [] → callers.entries ≡ [] → AreLinted m is_unit es callers
empty_linted m is_unit es callers none lacks =
    let loaded = empty_loaded m is_unit es callers none lacks in
    record { kept = loaded.kept; faults = rw none tt; index = loaded.index }
