-- Putting files one after another, each at a path where no file is.
use Rattle.std.proofs.Common.{◌≡◌, ℕ, true, false, List, [], ◌∷◌, ◌++◌, None, refl, sym, ap, ◌∙◌, subst, arith}
use Rattle.std.specs.Prelude.{is_some, unwrap_or, bytes_eq}
use Rattle.std.specs.List.{AllByRecursion}
use Rattle.al_session.specs.Folder.{Folder, bytes_at, put_refusal, with_file}
use Rattle.std.proofs.lemmas.Bool.Decides.{nat_tests}
use Rattle.al_session_folder.proofs.Views.{bytes_put, bytes_put_other, bytes_same, bytes_self}
use Rattle.al_check.specs.Linting.{linting}
use Rattle.al_cli.specs.Linted.{folder_with}
use Rattle.al_cli.specs.Private.Kept.{AreKept, KeptFiles, entries_in}
use Rattle.al_cli.specs.Taken.{AreGathered, AreNew}
use Rattle.al_cli.proofs.Putting.{taken_more, with_more}

abbrev IsThere : Folder → List ℕ → Type 0
IsThere f q = is_some (bytes_at f q) ≡ true

-- a path where a file is differs from one where no file is
apart : (f : Folder) (p q : List ℕ) → bytes_at f p ≡ None → IsThere f q → bytes_eq q p ≡ false
apart f p q none there =
    let gone : bytes_eq q p ≡ true → is_some (bytes_at f q) ≡ false = λ h. ap (λ x. is_some (bytes_at f x)) (bytes_same q p h) ∙ ap is_some none in
    grind (arith, nat_tests, gone)

-- one more file at a path where no file is
new_more : (f : Folder) (es : List (List ℕ × List ℕ)) (e : List ℕ × List ℕ) → AreNew f es → bytes_at (folder_with f es) e.0 ≡ None → AreNew f (es ++ e ∷ [])
new_more f [] e new none = (none, tt)
new_more f (x ∷ xs) e new none = (new.0, new_more (with_file f x.0 x.1) xs e new.1 none)

module _ (f : Folder) (p b : List ℕ) where
  -- the entries of the files that are there stay
  entries_put : (ps : List (List ℕ)) → bytes_at f p ≡ None → AllByRecursion (IsThere f) ps
      → entries_in (with_file f p b) (ps ++ p ∷ []) ≡ entries_in f ps ++ (p, b) ∷ []
  entries_put [] none all = rw (bytes_put p p f b (bytes_self p)) refl
  entries_put (q ∷ qs) none all = rw (bytes_put_other p q f b (apart f p q none all.0)) (ap (λ l. (q, unwrap_or (bytes_at f q) []) ∷ l) (entries_put qs none all.1))

  -- all of them are in the folder, and so is the new one
  there_put : (ps : List (List ℕ)) → bytes_at f p ≡ None → AllByRecursion (IsThere f) ps → AllByRecursion (IsThere (with_file f p b)) (ps ++ p ∷ [])
  there_put [] none all = (ap is_some (bytes_put p p f b (bytes_self p)), tt)
  there_put (q ∷ qs) none all =
      (ap is_some (bytes_put_other p q f b (apart f p q none all.0)) ∙ all.0, there_put qs none all.1)

  pub parts_more : (g : Folder) (c c2 : ℕ) (ps : List (List ℕ)) → bytes_at f p ≡ None → put_refusal linting f p b ≡ None → g ≡ with_file f p b
      → c2 ≡ c → KeptFiles f c ps → KeptFiles g c2 (ps ++ p ∷ [])
  parts_more g c c2 ps none right made same kept =
      let es = entries_in f ps in
      let more : entries_in g (ps ++ p ∷ []) ≡ es ++ (p, b) ∷ [] = rw made (entries_put ps none kept.there) in
      record {
        gathered = record {
          taken = rw more (taken_more [] es (p, b) kept.gathered.taken (subst (λ (h : Folder). put_refusal linting h p b ≡ None) kept.made right));
          new = rw more (new_more [] es (p, b) kept.gathered.new (subst (λ (h : Folder). bytes_at h p ≡ None) kept.made none));
        };
        made = made ∙ ap (λ (h : Folder). with_file h p b) kept.made ∙ sym (with_more [] es (p, b)) ∙ ap (folder_with []) (sym more);
        there = rw made (there_put ps none kept.there);
        unchecked = same ∙ kept.unchecked;
      }

-- the parts of `AreKept`, which is opaque
pub parts_of : (f : Folder) (c : ℕ) (ps : List (List ℕ)) → AreKept f c ps → KeptFiles f c ps
unfolding AreKept
parts_of f c ps kept = kept

pub kept_of : (f : Folder) (c : ℕ) (ps : List (List ℕ)) → KeptFiles f c ps → AreKept f c ps
unfolding AreKept
kept_of f c ps parts = parts

-- putting one more file at a path where no file is
pub kept_more : (f g : Folder) (p text b : List ℕ) (c d : ℕ) (ps qs : List (List ℕ)) → AreKept f c ps → bytes_at (folder_with [] (entries_in f ps)) p ≡ None
    → text ≡ p → put_refusal linting f text b ≡ None → g ≡ with_file f text b → d ≡ c → qs ≡ ps ++ p ∷ []
    → AreKept g d qs × (entries_in g qs ≡ entries_in f ps ++ (p, b) ∷ [])
kept_more f g p text b c d ps qs kept alone same_text right made same more =
    let parts = parts_of f c ps kept in
    let none : bytes_at f p ≡ None = ap (λ (h : Folder). bytes_at h p) parts.made ∙ alone in
    let with : g ≡ with_file f p b = made ∙ ap (λ (x : List ℕ). with_file f x b) same_text in (
      rw more (kept_of g d (ps ++ p ∷ []) (parts_more f p b g c d ps none (rw same_text at right) with same parts)),
      rw (more, with) (entries_put f p b ps none parts.there),
    )

-- the kept files, by their list of entries
pub kept_as : (f : Folder) (c : ℕ) (ps : List (List ℕ)) (es : List (List ℕ × List ℕ)) → AreKept f c ps → entries_in f ps ≡ es
    → AreGathered es × (f ≡ folder_with [] es) × (c ≡ 0)
kept_as f c ps es kept is =
    let parts = parts_of f c ps kept in
    (subst AreGathered is parts.gathered, parts.made ∙ ap (folder_with []) is, parts.unchecked)

-- no files, in an empty folder
pub kept_none : AreKept [] 0 []
kept_none = kept_of [] 0 [] (record { gathered = record { taken = tt; new = tt }; made = refl; there = tt; unchecked = refl })
