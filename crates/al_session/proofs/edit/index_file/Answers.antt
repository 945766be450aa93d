use Rattle.std.proofs.Common.{◌∙◌, ap, sym}
use Rattle.std.specs.Prelude.{bytes_eq, string_bytes}
use Rattle.std.specs.List.{list_any}
use Rattle.std.specs.Option.{option_map_or}
use Rattle.indexmap.specs.IndexSet.{contains_text}
use Rattle.al_session_folder.specs.Kept.{file_at}
use Rattle.al_session.proofs.Puts.{callers_at}
use Rattle.al_session.proofs.edit.index_file.Goals as goal

pub reindex-requires : goal.reindex-requires
reindex-requires g c text =
    let es = c.args.kept.now.files.entries in
    let empty = sym (ap (list_any (λ k. bytes_eq text (string_bytes k))) c.with_hasher-none.ensures.empty) in
    callers_at g.L.Lint.meaning g.L.Lint.is_unit es c.args.kept.now.callers c.args.path.now c.requires.index c.requires.kept.kept text
    ∙ ap (option_map_or (λ file. contains_text file.calls.candidates text) (file_at es c.args.path.now)) empty ∙ sym (c.candidates_at-before.ensures text)
