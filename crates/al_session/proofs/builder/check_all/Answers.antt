use Rattle.std.proofs.Common.{◌∙◌, String, ap, arith, length, sym}
use Rattle.std.specs.Prelude.{string_bytes}
use Rattle.std.specs.Global.{Global}
use Rattle.std.proofs.lemmas.List.{map_more}
use Rattle.std.proofs.lemmas.Option.{get_or_from_slice_get, slice_get_within}
use Rattle.al_base.specs.Paths.{path_fault_of}
use Rattle.al_session_folder.specs.Kept.{faults_of, folder_of}
use Rattle.al_session_folder.specs.declared.kept.KeptFile.{KeptFile}
use Rattle.al_session_folder.proofs.CallCycles.{kept_number}
use Rattle.al_session.proofs.Giving.{folder_of-with_lists}
use Rattle.al_session.proofs.Linted.{as_many}
use Rattle.al_session.proofs.Loading.{all_linted, all_paths, as_many_paths, each_there}
use Rattle.al_session.proofs.builder.check_all.Goals as goal

pub owned_path-requires : goal.owned_path-requires
owned_path-requires g c =
    ap path_fault_of c.as_str.ensures.value ∙ (kept_number g.L.Lint.meaning g.L.Lint.is_unit c.args.kept.now.files.entries c.loop-index.index
    (c.file_number.result.0.now, c.file_number.result.1.now) c.requires.kept.kept c.file_number.ensures).valid

pub loop-index-preserved : goal.loop-index-preserved
loop-index-preserved g c =
    let es = c.args.kept.now.files.entries in
    let e : String Global × KeptFile _ _ = (c.file_number.result.0.now, c.file_number.result.1.now) in
    rw (
      c.in_ok-push.ensures.items,
      c.loop-index.invariant,
      c.in_ok-owned_path.ensures,
      c.as_str.ensures.value,
      map_more (λ x. string_bytes x.0) es c.loop-index.index e (slice_get_within es c.loop-index.index e c.file_number.ensures),
      get_or_from_slice_get es c.loop-index.index e e c.file_number.ensures,
    )

pub check_paths-requires : goal.check_paths-requires
check_paths-requires g c =
    let es = c.args.kept.now.files.entries in
    let all = all_paths es c.loop-index.index c.loop-index.paths.items (omega (arith, c.len-index-end.ensures.len, c.loop-index-test.false)) c.loop-index.invariant in
    rw c.of.ensures (each_there g.L.Lint.meaning g.L.Lint.is_unit es c.args.kept.now.callers c.deref.result.now c.requires (c.deref.ensures.value ∙ all))

pub set_faults-requires : goal.set_faults-requires
set_faults-requires g c =
    as_many (λ l. l.items) (faults_of g.L.Lint.meaning c.of.result) c.in_ok-lists.lists.items _ c.in_ok-lists.ensures.faults
    ∙ ap length (c.deref.ensures.value ∙ sym c.deref-2.ensures.value)

pub returns-clause-linted : goal.returns-clause-linted
returns-clause-linted g c =
    let es = c.args.kept.now.files.entries in
    let all = all_paths es c.loop-index.index c.loop-index.paths.items (omega (arith, c.len-index-end.ensures.len, c.loop-index-test.false)) c.loop-index.invariant in
    all_linted g.L.Lint.meaning g.L.Lint.is_unit es c.args.kept.now.callers c.deref-2.result.now c.requires
    (c.deref-2.ensures.value ∙ all) c.in_ok-lists.lists.items c.set_faults.new.files.entries c.set_faults.ensures
    (rw (c.of.ensures, c.deref.ensures.value ∙ sym c.deref-2.ensures.value) at c.in_ok-lists.ensures.faults)

pub returns-clause-folder : goal.returns-clause-folder
returns-clause-folder g c =
    ap folder_of c.set_faults.ensures ∙ folder_of-with_lists c.args.kept.now.files.entries c.deref-2.result.now c.in_ok-lists.lists.items

pub returns-clause-checks : goal.returns-clause-checks
returns-clause-checks g c =
    let es = c.args.kept.now.files.entries in
    let all = all_paths es c.loop-index.index c.loop-index.paths.items (omega (arith, c.len-index-end.ensures.len, c.loop-index-test.false)) c.loop-index.invariant in
    let long = as_many_paths g.L.Lint.meaning g.L.Lint.is_unit es c.args.kept.now.callers c.deref.result.now c.requires (c.deref.ensures.value ∙ all) in
    rw long at c.in_ok-lists.ensures.checks
