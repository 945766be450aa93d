-- Folders whose files have the same paths and the same calls have the same graph of calls.
use Rattle.std.proofs.Common.{◌≡◌, ℕ, zero, suc, List, [], ◌∷◌, map, set, slice_get, Option, Some, None}
use Rattle.std.proofs.Common.{Vec, refl, sym, ◌∙◌, ap, subst}
use Rattle.std.specs.Prelude.{bytes_eq}
use Rattle.std.specs.Global.{Global}
use Rattle.std.specs.List.{filter_map, position}
use Rattle.std.specs.List.Sorted.{IsStrictlySortedBy}
use Rattle.std.specs.Option.{option_map, unwrap_or}
use Rattle.std.specs.Ordering.{nat_cmp}
use Rattle.std.specs.Cmp.Lexicographic.{slice_cmp}
use Rattle.std.proofs.lemmas.Option.{none-some, same_Some}
use Rattle.std.proofs.lemmas.Simd.{map-map}
use Rattle.al_lint.specs.Meaning.{Meaning, candidates}
use Rattle.al_session_folder.specs.Folder.{Folder, bytes_at, find_map, paths_of, with_file}
use Rattle.al_session_folder.specs.Kept.{AreKept, Files, IsKept, file_at, folder_of}
use Rattle.al_session_folder.specs.Cycles.{callee, calls_graph}
use Rattle.al_session_folder.specs.CallGraphs.{HasSameCalls, IsCallGraph, TellCycles}
use Rattle.al_session_folder.specs.declared.kept.KeptFile.{KeptFile}
use Rattle.al_lint.specs.declared.lint.Target.{Target}
use Rattle.al_session_folder.proofs.Views.{bytes_kept, kept_at, place_of}

-- ---- the graph of such a folder

module _ {I : Type 0} (m : Meaning I) (f g : Folder) (same : HasSameCalls m f g) where
  pub graph_same : calls_graph m g ≡ calls_graph m f
  graph_same =
      let calls : List ℕ × List ℕ → List Target = λ e. m.calls e.0 e.1 in
      sym (map-map (filter_map (callee g)) calls g)
      ∙ (λ i. map (filter_map (λ t. find_map (λ p. position (bytes_eq p) (same.paths i)) (candidates t))) (same.calls i))
      ∙ map-map (filter_map (callee f)) calls f

  -- the graph of the one folder is that of the other
  pub graph_still : (graph : List (Vec ℕ Global)) (labels : List (Option ℕ)) → IsCallGraph m f graph labels → IsCallGraph m g graph labels
  graph_still graph labels is = record {
    edges = is.edges ∙ sym graph_same;
    tell = subst (λ (l : List (List ℕ)). TellCycles l labels) (sym graph_same) is.tell;
  }

-- ---- putting a file with the same calls

module _ {I : Type 0} (m : Meaning I) where
  set_calls : (f : Folder) (i : ℕ) (p old now : List ℕ) → slice_get f i ≡ Some (p, old) → m.calls p now ≡ m.calls p old → HasSameCalls m f (set f i (p, now))
  set_calls [] i p old now at same = record { paths = refl; calls = refl }
  set_calls (x ∷ xs) zero p old now at same =
      let is : x ≡ (p, old) = ap (λ o. unwrap_or o x) at in
      record {
        paths = ap (λ (y : List ℕ × List ℕ). y.0 ∷ paths_of xs) (sym is);
        calls = ap (λ ts. ts ∷ map (λ (e : List ℕ × List ℕ). m.calls e.0 e.1) xs) (same ∙ ap (λ (y : List ℕ × List ℕ). m.calls y.0 y.1) (sym is));
      }
  set_calls (x ∷ xs) (suc i) p old now at same =
      let rest = set_calls xs i p old now at same in
      record { paths = ap (λ l. x.0 ∷ l) rest.paths; calls = ap (λ l. m.calls x.0 x.1 ∷ l) rest.calls }

  pub put_calls : (f : Folder) (p b now : List ℕ) → IsStrictlySortedBy (slice_cmp nat_cmp) (paths_of f) → bytes_at f p ≡ Some b → m.calls p now ≡ m.calls p b →
      HasSameCalls m f (with_file f p now)
  put_calls f p b now s there same = let at = place_of p b f s there in subst (HasSameCalls m f) (at.2 now) (set_calls f at.0 p b now at.1 same)

  -- among kept files
  pub put_same_calls : {U : Type 0} (is_unit : U → List ℕ → List ℕ → Type 0) (files : Files U I) (p : List ℕ) (file : KeptFile U I) → AreKept m is_unit files → IsKept m is_unit p file →
      option_map (λ (kept : KeptFile U I). kept.calls.targets.items) (file_at files p) ≡ Some file.calls.targets.items →
      HasSameCalls m (folder_of files) (with_file (folder_of files) p file.bytes.items)
  put_same_calls {U} is_unit files p file kept one same = by (file_at files p) refl same
    where
      by : (o : Option (KeptFile U I)) → file_at files p ≡ o → option_map (λ (kept : KeptFile U I). kept.calls.targets.items) o ≡ Some file.calls.targets.items
          → HasSameCalls m (folder_of files) (with_file (folder_of files) p file.bytes.items)
      by None a same = absurd (none-some file.calls.targets.items same)
      by (Some old) a same =
          let before = kept_at m is_unit files p old kept.kept a in
          let calls = same_Some old.calls.targets.items file.calls.targets.items same in
          put_calls (folder_of files) p old.bytes.items file.bytes.items kept.ordered (rw (bytes_kept files p, a)) (sym one.calls.targets ∙ sym calls ∙ before.calls.targets)
