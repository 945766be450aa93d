-- A path is missing from a folder if and only if it isn't there and is a candidate of a call.
use Rattle.std.proofs.Common.{◌≡◌, ℕ, ◌&&◌, List, [], ◌∷◌, refl, sym, ◌∙◌, ap, arith}
use Rattle.std.proofs.lemmas.Bool.Decides.{nat_tests}
use Rattle.std.specs.Prelude.{bytes_eq}
use Rattle.std.specs.List.{flat_map, list_any}
use Rattle.std.proofs.lemmas.List.Folds.{list_any-append}
use Rattle.std.proofs.lemmas.Map.Views.{any-filter_same}
use Rattle.al_session_folder.specs.Affected.{is_among}
use Rattle.al_session_folder.specs.Folder.{Folder}
use Rattle.al_lint.specs.Meaning.{Meaning, candidates, is_candidate}
use Rattle.al_session_folder.specs.Missing.{absent_candidates, is_absent, is_missing, missing_in}
use Rattle.al_lint.specs.declared.lint.Target.{Target}
use Rattle.al_session_folder.proofs.Affecting.{among_ordered}
use Rattle.al_session_folder.proofs.Views.{bytes_same}

module _ (p : List ℕ) where
  among_candidates : (ts : List Target) → is_among p (flat_map candidates ts) ≡ is_candidate ts p
  among_candidates [] = refl
  among_candidates (t ∷ ts) = rw (list_any-append (bytes_eq p) (candidates t) (flat_map candidates ts), among_candidates ts)

  among_absent : (f : Folder) (ts : List Target) → is_among p (absent_candidates f ts) ≡ (is_absent f p && is_candidate ts p)
  among_absent f ts =
      any-filter_same (bytes_eq p) (is_absent f) (is_absent f p) (λ q same. ap (is_absent f) (sym (bytes_same p q same))) (flat_map candidates ts)
      ∙ ap (λ r. is_absent f p && r) (among_candidates ts)

  module _ {I : Type 0} (m : Meaning I) (f : Folder) where
    among_all : (es : Folder) → is_among p (flat_map (λ e. absent_candidates f (m.calls e.0 e.1)) es) ≡ (is_absent f p && list_any (λ e. is_candidate (m.calls e.0 e.1) p) es)
    among_all [] = grind (arith, nat_tests)
    among_all (e ∷ es) =
        rw (list_any-append (bytes_eq p) (absent_candidates f (m.calls e.0 e.1)) (flat_map (λ e. absent_candidates f (m.calls e.0 e.1)) es), among_absent f (m.calls e.0 e.1), among_all es)
        (grind (arith, nat_tests))

pub missing_members : {I : Type 0} (m : Meaning I) (f : Folder) (p : List ℕ) → is_among p (missing_in m f) ≡ is_missing m f p
unfolding missing_in
missing_members m f p = among_ordered p (flat_map (λ e. absent_candidates f (m.calls e.0 e.1)) f) ∙ among_all p m f f
