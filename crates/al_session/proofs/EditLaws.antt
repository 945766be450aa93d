-- The laws of edits, for `Session::edit_laws`.
use Rattle.std.proofs.lemmas.Map.Lookups.{exact_bytes}
use Rattle.std.proofs.Common.{◌≡◌, ℕ, Bool, true, false, List, Some, sym, ◌∙◌, ap}
use Rattle.std.specs.Prelude.{bytes_eq}
use Rattle.std.specs.FinMap.Entries.{below_all, is_sorted, same_entries}
use Rattle.std.specs.List.{AllByRecursion}
use Rattle.std.specs.List.Sorted.{IsStrictlySortedBy}
use Rattle.std.specs.declared.cmp.Ordering.TheVariants.{Less}
use Rattle.std.proofs.Common.{[], ◌∷◌, refl}
use Rattle.std.specs.Option.{option_map}
use Rattle.std.specs.Ordering.{nat_cmp}
use Rattle.std.specs.Cmp.Lexicographic.{slice_cmp}
use Rattle.std.proofs.Common.{arith}
use Rattle.std.proofs.lemmas.Bool.{false_from_ne_true}
use Rattle.std.proofs.lemmas.Bool.Decides.{nat_tests}
use Rattle.std.proofs.lemmas.Cmp.{nat_list_cmp_total}
use Rattle.al_lint.specs.Meaning.{Meaning}
use Rattle.al_session_folder.specs.Affected.{affected_paths}
use Rattle.al_session_folder.specs.Folder.{Folder, bytes_at, faults_in, paths_of, with_file}
use Rattle.al_session_folder.proofs.Affecting.{affected_member}
use Rattle.al_session_folder.proofs.Places.{sorted_put}
use Rattle.al_session_folder.proofs.Views.{at_is, bytes_same, bytes_with, put_same}
use Rattle.al_session.specs.EditLaws.{OthersKeepFaults, PutsInAnyOrder, SamePutChangesNothing}
use Rattle.al_session.proofs.Giving.{faults_stay}
use Rattle.al_session.proofs.Linted.{affected_same}

abbrev InOrder : Folder → Type 0
InOrder f = IsStrictlySortedBy (slice_cmp nat_cmp) (paths_of f)

-- a folder in order is sorted by the test that `same_entries` takes
below : (p : List ℕ) (es : Folder) → AllByRecursion (λ q. slice_cmp nat_cmp p q ≡ Less) (paths_of es) → below_all (slice_cmp nat_cmp) p es ≡ true
below p [] all = refl
below p (e ∷ es) all = rw all.0 (below p es all.1)

rises : (f : Folder) → InOrder f → is_sorted (slice_cmp nat_cmp) f ≡ true
unfolding IsStrictlySortedBy
rises [] s = refl
rises (e ∷ es) s = rw (below e.0 es s.0) (rises es s.1)

-- folders in order with the same bytes at each path are equal
one_folder : (f g : Folder) → InOrder f → InOrder g → ((q : List ℕ) → bytes_at f q ≡ bytes_at g q) → f ≡ g
one_folder f g s t same =
    same_entries (slice_cmp nat_cmp) nat_list_cmp_total exact_bytes f g (rw (rises f s) tt) (rw (rises g t) tt) (λ q. sym (at_is f q) ∙ same q ∙ at_is g q)

-- ---- the laws

pub same_put : {I : Type 0} (eq : I → I → Bool) → ((x : I) → eq x x ≡ true) → (m : Meaning I) (f : Folder) → InOrder f → SamePutChangesNothing eq m f
same_put eq itself m f s p b there =
    let same : with_file f p b ≡ f = put_same p b f s there in
    (same, ap (affected_paths eq m f) same ∙ affected_same eq itself m f s)

pub any_order : (f : Folder) → InOrder f → PutsInAnyOrder f
any_order f s p b q c apart =
    one_folder (with_file (with_file f p b) q c) (with_file (with_file f q c) p b)
    (sorted_put q (with_file f p b) c (sorted_put p f b s)) (sorted_put p (with_file f q c) b (sorted_put q f c s))
    (λ r.
    let far : bytes_eq r q ≡ true → bytes_eq r p ≡ false = λ k. false_from_ne_true (bytes_eq r p) (λ l. apart (sym (bytes_same r p l) ∙ bytes_same r q k)) in
    rw (bytes_with q r (with_file f p b) c, bytes_with p r f b, bytes_with p r (with_file f q c) b, bytes_with q r f c) (grind (arith, nat_tests, far)))

pub others_keep : {I : Type 0} (eq : I → I → Bool) → ((x y : I) → eq x y ≡ true → x ≡ y) → (m : Meaning I) (f : Folder) → OthersKeepFaults eq m f
others_keep eq exact m f g s q b there none =
    let stays = faults_stay eq exact m f g q b there (sym (affected_member eq m f g s q) ∙ none) in
    ap (option_map (faults_in m g q)) there ∙ ap Some stays.1 ∙ sym (ap (option_map (faults_in m f q)) stays.0)
