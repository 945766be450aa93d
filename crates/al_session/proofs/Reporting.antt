-- A folder's report and its status, by the faults that are listed of each file.
use Rattle.std.proofs.Common.{◌≡◌, ℕ, ◌+◌, Bool, true, false, cond, not, List, [], ◌∷◌, ◌++◌, length, refl, ◌||◌, arith}
use Rattle.std.specs.Prelude.{String, string_bytes}
use Rattle.std.specs.Bool.{◌==◌}
use Rattle.std.specs.Global.{Global}
use Rattle.std.specs.List.{enumerate_from, flat_map, list_any}
use Rattle.std.proofs.lemmas.Bool.Decides.{nat_tests}
use Rattle.al_text.specs.Snippets.{fault_text}
use Rattle.al_text.specs.declared.printing.Format.{Format}
use Rattle.al_lint.specs.Meaning.{Meaning}
use Rattle.al_session_folder.specs.Folder.{Folder, faults_in}
use Rattle.al_session_folder.specs.Kept.{Files, folder_of}
use Rattle.al_session_folder.specs.Cycles.{call_cycle_faults, report_faults}
use Rattle.al_session_folder.specs.declared.kept.KeptFile.{KeptFile}
use Rattle.al_session_folder.specs.Checked.{AllChecked}
use Rattle.al_session_folder.proofs.ListedFaults.{some_in_order, some_of_both}
use Rattle.al_session.specs.Report.{status_of, report_of}
use Rattle.al_session.specs.Private.Printing.{numbered_lines}

-- ---- the report

lines_from : {U I : Type 0} (m : Meaning I) (f : Folder) (format : Format) (n : ℕ) (es : Files U I) →
    flat_map (numbered_lines format m f) (enumerate_from n es)
    ≡ flat_map (λ x. flat_map (fault_text format x.1.0 x.1.1) (report_faults m f x.0 x.1.0 x.1.1)) (enumerate_from n (folder_of es))
lines_from m f format n [] = refl
lines_from m f format n (e ∷ es) = rw (lines_from m f format (n + 1) es)

pub report_is : {U I : Type 0} (m : Meaning I) (files : Files U I) (format : Format) →
    flat_map (numbered_lines format m (folder_of files)) (enumerate_from 0 files) ≡ report_of format m (folder_of files)
unfolding report_of
report_is m files format = lines_from m (folder_of files) format 0 files

-- ---- the status

module _ {I : Type 0} (m : Meaning I) (f : Folder) where
  abbrev IsOnCycleAt : ℕ × (List ℕ × List ℕ) → Bool
  IsOnCycleAt x = not (length (call_cycle_faults m f x.0 x.1.0 x.1.1) == 0)

  -- A file has faults to report if and only if one of its calls is on a call cycle or it has faults of its own.
  any_reported : {U : Type 0} (n : ℕ) (es : Files U I) → AllChecked m f es
      → list_any (λ (x : ℕ × (List ℕ × List ℕ)). not (length (report_faults m f x.0 x.1.0 x.1.1) == 0)) (enumerate_from n (folder_of es))
      ≡ (list_any IsOnCycleAt (enumerate_from n (folder_of es)) || list_any (λ (e : String Global × KeptFile U I). not (length e.1.faults.items == 0)) es)
  unfolding report_faults
  any_reported n [] checked = refl
  any_reported n (e ∷ es) checked =
      let on_cycles = call_cycle_faults m f n (string_bytes e.0) e.1.bytes.items in
      let own = faults_in m f (string_bytes e.0) e.1.bytes.items in
      let rest = any_reported (n + 1) es checked.1 in
      rw (checked.0, some_in_order (on_cycles ++ own), some_of_both on_cycles own, rest) (grind (arith, nat_tests))

module _ {U I : Type 0} (m : Meaning I) (files : Files U I) (checked : AllChecked m (folder_of files) files) where
  pub status_faults : list_any (λ (e : String Global × KeptFile U I). not (length e.1.faults.items == 0)) files ≡ true → 1 ≡ status_of m (folder_of files)
  unfolding status_of
  status_faults h = rw (any_reported m (folder_of files) 0 files checked, h) (grind (arith, nat_tests))

  pub status_cycles : (some : Bool) → list_any (λ (e : String Global × KeptFile U I). not (length e.1.faults.items == 0)) files ≡ false
      → some ≡ list_any (IsOnCycleAt m (folder_of files)) (enumerate_from 0 (folder_of files)) → cond some 1 0 ≡ status_of m (folder_of files)
  unfolding status_of
  status_cycles some h s = rw (any_reported m (folder_of files) 0 files checked, h, s) (grind (arith, nat_tests))
