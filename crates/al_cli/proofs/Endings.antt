-- How a run ends, by what its steps leave.
use Rattle.std.proofs.Common.{◌≡◌, ◌≢◌, ℕ, List, [], ◌∷◌, map, Option, None, Some, Result, Ok, Err, OnOk, OnErr, sym, subst, ◌∙◌, refl}
use Rattle.std.specs.Prelude.{IsErrAnd, IsOkUnless}
use Rattle.std.specs.Borrow.{Bor}
use Rattle.std.specs.Cmp.Lexicographic.{slice_cmp}
use Rattle.std.specs.Io.KnownBytes.{Keeps}
use Rattle.std.specs.List.Sorted.{IsStrictlySortedBy}
use Rattle.std.specs.Ordering.{nat_cmp}
use Rattle.std.proofs.KnownBytes.{Appends-kept}
use Rattle.al_base.specs.Counted.{HasRisen}
use Rattle.al_base.specs.Streams.{Writes, WritesOrFails, bytes_written, write_failures}
use Rattle.al_base.specs.declared.stops.Stop.{Stop}
use Rattle.al_base.specs.declared.stops.Stop.TheVariants.{WriteFault}
use Rattle.al_base.specs.declared.streams.Input.{Input}
use Rattle.al_base.specs.declared.streams.Output.{Output}
use Rattle.al_base.proofs.Bytes.{AppendsPrefix-all}
use Rattle.al_text.specs.declared.printing.Format.{Format}
use Rattle.al_session.specs.Folder.{Folder}
use Rattle.al_cli_scripts.specs.Replies.{session}
use Rattle.al_cli_scripts.specs.Runs.{IsCutShort, Runs, RunsToEnd, Steps}
use Rattle.al_cli_scripts.proofs.Outputs.{Prefix-all}
use Rattle.al_cli_words.specs.declared.words.Words.{Words}
use Rattle.al_cli.specs.Disk.{Holding}
use Rattle.al_cli.specs.Private.Endings.{FlushEnds, ReportEnds}
use Rattle.al_cli.specs.Program.{FolderEnds, IsAskedFolder, ScriptEnds, format_of}
use Rattle.al_cli.specs.Taken.{AreAsked, AreListedFiles, each_once, path_named}
use Rattle.al_cli.specs.declared.ending.Ending.{Ending}
use Rattle.al_cli.specs.declared.ending.Ending.TheVariants as ending

-- a fact that doesn't depend on the result
pub on_ok : {T S : Type 0} (r : Result T S) {P : Type 0} → P → OnOk r P
on_ok (Ok x) p = p
on_ok (Err e) p = tt

-- ---- Which files are asked for.

abbrev files_in : List (Bor (List ℕ)) → List (List ℕ)
files_in words = map (λ file. file.now) words

pub asked_listed : {T S : Type 0} (h : Option Holding) (words : List (Bor (List ℕ))) (paths : List (List ℕ)) (r : Result T S) → words ≡ []
    → OnOk r (IsStrictlySortedBy (slice_cmp nat_cmp) paths) → OnOk r (AreListedFiles h paths) → OnOk r (AreAsked h (files_in words) paths)
asked_listed h words paths (Ok x) none sorted listed = rw none (sorted, listed)
asked_listed h words paths (Err e) none sorted listed = tt

pub asked_named : {T S : Type 0} (h : Option Holding) (words : List (Bor (List ℕ))) (paths : List (List ℕ)) (r : Result T S) → words ≢ []
    → OnOk r (paths ≡ each_once (map path_named (files_in words))) → OnOk r (AreAsked h (files_in words) paths)
asked_named h [] paths (Ok x) some are = absurd (some refl)
asked_named h (w ∷ ws) paths (Ok x) some are = are
asked_named h words paths (Err e) some are = tt

-- ---- Writes that are flushed.

-- a failure that the caller returns
pub fails_here : {W T U : Type 0} (contents : W → Option (List ℕ)) (old new : Output W) (r : Result U Stop) (e : Stop) (xs : List ℕ) → IsErrAnd r (λ y. y ≡ e)
    → WritesOrFails {T = T} contents old new (Err e) xs → WritesOrFails contents old new r xs
fails_here contents old new (Ok x) e xs is w = absurd is
fails_here contents old new (Err y) e xs is w = record { all = tt; prefix = w.prefix; failures = tt; failed = w.failed; err = is ∙ w.err }

-- all of xs, and then a flush
pub flushed : {W T : Type 0} (contents : W → Option (List ℕ)) (old mid new : Output W) (r : Result T Stop) (xs : List ℕ) → Writes contents old mid xs
    → write_failures mid ≡ write_failures old → Keeps (bytes_written contents mid) (bytes_written contents new)
    → OnOk r (write_failures new ≡ write_failures mid) → OnErr r (HasRisen (write_failures mid) (write_failures new)) → IsOkUnless r WriteFault
    → WritesOrFails contents old new r xs
flushed contents old mid new (Ok u) xs wrote same kept unfailed failed err =
    record { all = Appends-kept _ _ _ xs wrote kept; prefix = tt; failures = unfailed ∙ same; failed = tt; err = tt }
flushed contents old mid new (Err e) xs wrote same kept unfailed failed err = record {
  all = tt;
  prefix = AppendsPrefix-all _ _ xs (Appends-kept _ _ _ xs wrote kept);
  failures = tt;
  failed = subst (λ n. HasRisen n (write_failures new)) same failed;
  err = err;
}

-- ---- Scripts.

module _ {F : Type 0} (steps : Steps F) (start : F) where
  end_kept : (left wrote mid now : Option (List ℕ)) (status : ℕ) → Keeps mid now → RunsToEnd steps start [] left wrote mid status
      → RunsToEnd steps start [] left wrote now status
  end_kept None wrote mid now status kept end = tt
  end_kept (Some script) wrote mid now status kept end = (end.0, end.1, Appends-kept wrote mid now end.0 end.2 kept)

  end_cut : (left wrote mid now : Option (List ℕ)) (status : ℕ) → Keeps mid now → RunsToEnd steps start [] left wrote mid status
      → IsCutShort steps start [] left wrote now
  end_cut None wrote mid now status kept end = tt
  end_cut (Some script) wrote mid now status kept end =
      Prefix-all wrote now end.1 (AppendsPrefix-all wrote now end.0 (Appends-kept wrote mid now end.0 end.2 kept))

  module _ {R W : Type 0} (remaining : R → Option (List ℕ)) (contents : W → Option (List ℕ)) (unread left : Input R) (wrote mid now : Output W)
      (status : ℕ) (runs : Runs steps start remaining contents unread left wrote mid (Ok status))
      (kept : Keeps (contents mid.inner) (contents now.inner)) where
    -- a run whose output was flushed
    runs_flushed : now.failures ≡ mid.failures → Runs steps start remaining contents unread left wrote now (Ok status)
    runs_flushed same = record {
      end = end_kept (remaining unread.inner) (contents wrote.inner) (contents mid.inner) (contents now.inner) status kept runs.end;
      stop = tt;
      last_read = runs.last_read;
      read_failures = runs.read_failures;
      write_failures = record { answered = same ∙ runs.write_failures.answered; stopped = λ other. absurd cc };
      reads = runs.reads;
      all_turns = runs.all_turns;
      asked = runs.asked;
      asks = runs.asks;
    }

    -- or could not be flushed
    runs_unflushed : HasRisen mid.failures now.failures → Runs steps start remaining contents unread left wrote now (Err WriteFault)
    runs_unflushed risen = record {
      end = tt;
      stop = end_cut (remaining unread.inner) (contents wrote.inner) (contents mid.inner) (contents now.inner) status kept runs.end;
      last_read = tt;
      read_failures = record { answered = tt; stopped = λ other. absurd cc };
      write_failures = record { answered = tt; stopped = λ same. subst (λ n. HasRisen n now.failures) runs.write_failures.answered risen };
      reads = runs.reads;
      all_turns = λ other. absurd cc;
      asked = runs.asked;
      asks = λ other. runs.asks (λ memory. absurd cc);
    }

pub script_flushed : {R W : Type 0} (format : Format) (remaining : R → Option (List ℕ)) (contents : W → Option (List ℕ)) (unread left : Input R)
    (wrote mid now : Output W) (status : ℕ) (end : Ending) → Runs (session format) [] remaining contents unread left wrote mid (Ok status)
    → FlushEnds contents mid now status end → ScriptEnds format remaining contents unread left wrote now end
script_flushed format remaining contents unread left wrote mid now status (ending.Answered said) runs flush =
    subst (λ (n : ℕ). Runs (session format) [] remaining contents unread left wrote now (Ok n)) (sym flush.0)
    (runs_flushed (session format) [] remaining contents unread left wrote mid now status runs flush.1 flush.2)
script_flushed format remaining contents unread left wrote mid now status (ending.Stopped stop) runs flush =
    subst (λ (s : Stop). Runs (session format) [] remaining contents unread left wrote now (Err s)) (sym flush.0)
    (runs_unflushed (session format) [] remaining contents unread left wrote mid now status runs flush.1 flush.2)
script_flushed format remaining contents unread left wrote mid now status (ending.Reported said) runs flush = absurd flush
script_flushed format remaining contents unread left wrote mid now status (ending.Unread why) runs flush = absurd flush
script_flushed format remaining contents unread left wrote mid now status (ending.NoRun said) runs flush = absurd flush
script_flushed format remaining contents unread left wrote mid now status ending.NotText runs flush = absurd flush

-- ---- Reports.

pub folder_reported : (words : Words) (holds : List ℕ → Option Holding) (folder : Folder) (wrote now : Option (List ℕ)) (end : Ending) → IsAskedFolder words holds folder
    → ReportEnds (format_of words) folder wrote now end → FolderEnds words holds wrote now end
folder_reported words holds folder wrote now (ending.Reported status) loaded ends = (folder, loaded, ends.0, ends.1)
folder_reported words holds folder wrote now (ending.Stopped stop) loaded ends = (folder, loaded, ends)
folder_reported words holds folder wrote now (ending.Answered status) loaded ends = absurd ends
folder_reported words holds folder wrote now (ending.Unread why) loaded ends = absurd ends
folder_reported words holds folder wrote now (ending.NoRun said) loaded ends = absurd ends
folder_reported words holds folder wrote now ending.NotText loaded ends = absurd ends
