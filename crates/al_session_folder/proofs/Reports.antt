-- A folder's report and status, by the faults kept of its files.
use Rattle.std.proofs.lemmas.List.Folds.{list_any_at, list_any_more}
use Rattle.std.proofs.lemmas.Option.{get_or_from_slice_get, same_Some, slice_get_within}
use Rattle.std.proofs.lemmas.Bool.{or_from}
use Rattle.std.proofs.Common.{◌+◌, ◌≤◌, ◌≡◌, ℕ, Bool, true, false, List, length, Option, sym, ◌∙◌, ap}
use Rattle.std.specs.Option.{option_map}
use Rattle.std.proofs.Common.{Some, slice_get, take}
use Rattle.al_session_folder.proofs.Views.{bytes_kept, holds_at, kept_at, part_at}
use Rattle.std.specs.List.{AllByRecursion, list_any}
use Rattle.std.specs.List.Sorted.{IsStrictlySortedBy}
use Rattle.al_base.specs.FaultLists.{fault_cmp}
use Rattle.al_base.specs.declared.faults.Fault.{Fault}
use Rattle.al_base.specs.Spans.{LiesIn}
use Rattle.al_lint.specs.Meaning.{Meaning}
use Rattle.al_session_folder.specs.Folder.{Folder, faults_in, answers, bytes_at}
use Rattle.al_session_folder.specs.Kept.{Files, folder_of, file_at, AllKept}
use Rattle.al_session_folder.specs.Checked.{AllChecked}
use Rattle.al_session_folder.specs.declared.kept.KeptFile.{KeptFile}

-- the faults that are kept at a path
pub list_kept : {U I : Type 0} (m : Meaning I) (f : Folder) (files : Files U I) (q : List ℕ) (file : KeptFile U I) → AllChecked m f files → file_at files q ≡ Some file
    → file.faults.items ≡ faults_in m f q file.bytes.items
list_kept m f files q file checked found = holds_at (λ q file. file.faults.items ≡ faults_in m f q file.bytes.items) files q file checked found

pub faults_kept : {U I : Type 0} (m : Meaning I) (f : Folder) (files : Files U I) (q : List ℕ) → AllChecked m f files
    → option_map (λ (file : KeptFile U I). file.faults.items) (file_at files q) ≡ option_map (faults_in m f q) (bytes_at (folder_of files) q)
faults_kept m f files q checked = part_at (λ file. file.faults.items) (faults_in m f q) files q (λ file. list_kept m f files q file checked)

-- the faults that are kept at a path are sorted
pub order_kept : {U I : Type 0} (m : Meaning I)
    → ((p b : List ℕ) (given : List (Option I)) → IsStrictlySortedBy fault_cmp (m.faults p b given))
    → (files : Files U I) (q : List ℕ) (faults : List Fault) (file : KeptFile U I) → AllChecked m (folder_of files) files → Some file ≡ file_at files q → faults ≡ file.faults.items
    → IsStrictlySortedBy fault_cmp faults
unfolding faults_in
order_kept m law files q faults file checked found same =
    rw (same, list_kept m (folder_of files) files q file checked (sym found)) (law q file.bytes.items (answers m (folder_of files) q file.bytes.items))

-- the faults that are kept at a path are within the file
pub spans_kept : {U I : Type 0} (m : Meaning I) (is_unit : U → List ℕ → List ℕ → Type 0)
    → ((p b : List ℕ) (given : List (Option I)) → length b ≤ 1048576 → AllByRecursion (λ (fault : Fault). LiesIn (length b) fault.span) (m.faults p b given))
    → (files : Files U I) (q b : List ℕ) (faults : List Fault) (file : KeptFile U I) → AllKept m is_unit files
    → AllChecked m (folder_of files) files → Some file ≡ file_at files q → bytes_at (folder_of files) q ≡ Some b → faults
    ≡ file.faults.items
    → AllByRecursion (λ (fault : Fault). LiesIn (length b) fault.span) faults
unfolding faults_in
spans_kept m is_unit law files q b faults file kept checked found there same =
    let bytes : file.bytes.items ≡ b = same_Some _ _ (rw (← found) at (sym (bytes_kept files q)) ∙ there) in
    rw (same, list_kept m (folder_of files) files q file checked (sym found), ← bytes)
    (law q file.bytes.items (answers m (folder_of files) q file.bytes.items) (kept_at m is_unit files q file kept (sym found)).small)

pub any_found : {X : Type 0} (T : X → Bool) (xs : List X) (i : ℕ) (x : X) → slice_get xs i ≡ Some x → T x ≡ true → list_any T xs ≡ true
any_found T xs i x h t = list_any_at T xs i x (slice_get_within xs i x h) (rw (get_or_from_slice_get xs i x x h) t)

pub any_none : {X : Type 0} (T : X → Bool) (xs : List X) (i : ℕ) (x : X) → slice_get xs i ≡ Some x → T x ≡ false → list_any T (take i xs) ≡ false → list_any T (take (i + 1) xs) ≡ false
any_none T xs i x h t before =
    list_any_more T xs i x (slice_get_within xs i x h) ∙ or_from _ _ before (ap T (get_or_from_slice_get xs i x x h) ∙ t)
