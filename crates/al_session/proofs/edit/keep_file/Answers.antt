use Rattle.std.proofs.Common.{true≢false, sym, ap, arith, ◌∙◌, is_some, length, inl, inr, Some}
use Rattle.std.specs.Prelude.{bytes_eq, string_bytes}
use Rattle.std.specs.String.{string_eq}
use Rattle.std.specs.Map.{set_value}
use Rattle.indexmap.specs.IndexSet.{contains_text}
use Rattle.indexmap.proofs.MapLemmas.{absent_from_lookup, insert_entry-absent, or_len-absent}
use Rattle.indexmap.proofs.MoveLemmas.{push_moved}
use Rattle.al_session_folder.specs.Kept.{file_at, folder_of}
use Rattle.al_session_folder.proofs.Places.{absent, found, gap, length-folder_of}
use Rattle.al_session_folder.proofs.Views.{has_file}
use Rattle.al_session.proofs.Puts.{index_changed, lacks_file}
use Rattle.al_session.proofs.edit.keep_file.Goals as goal

pub unreachable-requires : goal.unreachable-requires
unreachable-requires g c =
    let es = c.args.kept.now.files.entries in
    let p = c.args.path.now in
    true≢false (sym (ap (λ m. is_some (file_at m.entries p)) c.index_file.ensures.files ∙ has_file es p
    ∙ ap is_some (found p (folder_of es) c.in-Ok.field-0 (sym c.place_in.ensures ∙ c.in-Ok.is)).finds) ∙ ap is_some (sym c.in_default.ensures.value))

pub shift_insert-requires-clause-in_bounds : goal.shift_insert-requires-clause-in_bounds
shift_insert-requires-clause-in_bounds g c =
    let es = c.args.kept.now.files.entries in
    let within = (gap c.args.path.now (folder_of es) c.in-Err.index (sym c.place_in.ensures ∙ c.in-Err.is)).within in
    omega (arith, within, length-folder_of es, ap (λ m. length m.entries) c.index_file-in-Err.ensures.files, ap length c.reserve.ensures.entries)

pub shift_insert-requires-clause-below_len : goal.shift_insert-requires-clause-below_len
shift_insert-requires-clause-below_len g c = λ there.
    let es = c.args.kept.now.files.entries in
    let new = ap (λ m. file_at m.entries (string_bytes c.in_ok-name-in-Err.name)) c.index_file-in-Err.ensures.files
    ∙ ap (λ l. file_at l (string_bytes c.in_ok-name-in-Err.name)) c.reserve.ensures.entries ∙ ap (file_at es) c.in_ok-name-in-Err.ensures.ok
    ∙ lacks_file es c.args.path.now (absent (folder_of es) c.args.path.now c.in-Err.index c.requires.loaded.kept.ordered (sym c.place_in.ensures ∙ c.in-Err.is)) in
    absurd (true≢false (sym there ∙ ap is_some new))

pub returns-in-Some-clause-files : goal.returns-in-Some-clause-files
returns-in-Some-clause-files g c =
    let es = c.args.kept.now.files.entries in
    let p = c.args.path.now in
    inl (
      has_file es p ∙ ap is_some (found p (folder_of es) c.in-Ok.field-0 (sym c.place_in.ensures ∙ c.in-Ok.is)).finds,
      (c.get_mut.follows.holds c.args.file).0 ∙ ap (λ m. set_value (λ k. bytes_eq p (string_bytes k)) m.entries c.args.file) c.index_file.ensures.files,
    )

pub returns-in-Some-clause-index : goal.returns-in-Some-clause-index
returns-in-Some-clause-index g c = index_changed g.L.Lint.meaning (folder_of c.args.kept.now.files.entries) c.args.path.now c.args.kept.now.callers
    c.index_file.new.kept.callers c.requires.loaded.index (Some c.args.file.bytes.items) (contains_text c.args.file.calls.candidates) c.requires.loaded.kept.ordered
    c.requires.file.calls.candidates c.in_ok-index_file-in-Ok.ensures.moved

pub returns-in-Ok-shift_insert-clause-files : goal.returns-in-Ok-shift_insert-clause-files
returns-in-Ok-shift_insert-clause-files g c =
    let es = c.args.kept.now.files.entries in
    let name = c.in_ok-name-in-Err.name in
    let place = sym c.place_in.ensures ∙ c.in-Err.is in
    let lacks = absent (folder_of es) c.args.path.now c.in-Err.index c.requires.loaded.kept.ordered place in
    let same = ap (λ m. m.entries) c.index_file-in-Err.ensures.files ∙ c.reserve.ensures.entries in
    let none = absent_from_lookup (string_eq name) es (ap (file_at es) c.in_ok-name-in-Err.ensures.ok ∙ lacks_file es c.args.path.now lacks) in
    let within = (gap c.args.path.now (folder_of es) c.in-Err.index place).within in
    inr (
      c.in-Err.index,
      name,
      c.in_ok-name-in-Err.ensures.ok,
      place,
      omega (arith, c.requires.room lacks, length-folder_of es),
      c.in-Ok-shift_insert.ensures.entries ∙ rw (same, insert_entry-absent string_eq name c.args.file es none, or_len-absent (string_eq name) es none)
          (push_moved es (name, c.args.file) c.in-Err.index (omega (arith, within, length-folder_of es))),
    )

pub returns-in-Ok-shift_insert-clause-index : goal.returns-in-Ok-shift_insert-clause-index
returns-in-Ok-shift_insert-clause-index g c = index_changed g.L.Lint.meaning (folder_of c.args.kept.now.files.entries) c.args.path.now c.args.kept.now.callers
    c.index_file-in-Err.new.kept.callers c.requires.loaded.index (Some c.args.file.bytes.items) (contains_text c.args.file.calls.candidates) c.requires.loaded.kept.ordered
    c.requires.file.calls.candidates c.in_ok-index_file-in-Err.ensures.moved
