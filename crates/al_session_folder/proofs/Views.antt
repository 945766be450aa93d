-- Look-ups among kept files as look-ups in their folder, also after a change.
use Rattle.std.specs.FinMap.Entries.{find, put, find-put}
use Rattle.std.proofs.lemmas.List.{set-get_or}
use Rattle.std.proofs.lemmas.Map.Keys.{IsDistinct-from_sorted}
use Rattle.std.proofs.lemmas.Cmp.{eq_by_cmp_equiv, nat_list_cmp_total, nat_list_eq_equiv}
use Rattle.std.proofs.lemmas.Map.Entries.{none_past_head, lookup_from_place, place_from_lookup}
use Rattle.std.proofs.lemmas.List.Elements.{recursion_from_All}
use Rattle.std.proofs.lemmas.Option.{slice_get-get_or, get_or_from_slice_get, none-some, same_Some}
use Rattle.std.proofs.Common.{String, is_some, true≢false, set, slice_get, Result, Ok, Err, ◌≡◌, ℕ, Bool, true, false, cond, List, [], ◌∷◌, Option, Some, None, refl, sym, ◌∙◌, ap}
use Rattle.std.specs.Global.{Global}
use Rattle.std.specs.Prelude.{string_bytes, bytes_eq, IsSome, IfSome}
use Rattle.std.specs.Borrow.{Bor}
use Rattle.std.specs.Option.{option_copied, option_map}
use Rattle.std.specs.List.{AllByRecursion}
use Rattle.std.specs.List.Sorted.{IsStrictlySortedBy}
use Rattle.std.specs.Ordering.{nat_cmp, is_eq}
use Rattle.std.specs.Cmp.Lexicographic.{slice_cmp}
use Rattle.std.specs.BTreeMap.{is_at}
use Rattle.std.proofs.lemmas.Map.{lookup-none, lookup-remove_entry}
use Rattle.std.proofs.lemmas.Bool.{cond-true, cond-false}
use Rattle.std.proofs.lemmas.Map.Text.{is_eq-slice_cmp}
use Rattle.std.proofs.lemmas.Slice.Eq.{bytes_eq-Decides}
use Rattle.al_lint.specs.Meaning.{Meaning}
use Rattle.al_session_folder.specs.Folder.{Folder, bytes_at, with_file, without_file, paths_of}
use Rattle.al_session_folder.specs.Kept.{Files, folder_of, file_at, file_after, next_folder, with_bytes_at, IsKept, AllKept, IsKeptIf, IsView}
use Rattle.al_session_folder.specs.declared.kept.KeptFile.{KeptFile}
use Rattle.al_session_folder.proofs.Places.{absent, by_ordering, each_at, found}
use Rattle.std.proofs.Common.{arith}
use Rattle.std.proofs.lemmas.Bool.Decides.{nat_tests}
use Rattle.al_session_folder.specs.Place.{path_place}

pub bytes_same : (p q : List ℕ) → bytes_eq p q ≡ true → p ≡ q
bytes_same p q h = (bytes_eq-Decides p q).0 h

pub bytes_self : (p : List ℕ) → bytes_eq p p ≡ true
bytes_self p = (bytes_eq-Decides p p).1 refl

-- A file that was put can be looked up, and files at other paths stay.
with_is : (f : Folder) (p b : List ℕ) → with_file f p b ≡ put (slice_cmp nat_cmp) p b f
with_is [] p b = refl
with_is (e ∷ es) p b = by_ordering (slice_cmp nat_cmp p e.0) (λ a. rw a) (λ a. rw a) (λ a. rw (a, with_is es p b))

pub at_is : (f : Folder) (q : List ℕ) → bytes_at f q ≡ find (slice_cmp nat_cmp) q f
at_is [] q = refl
at_is (e ∷ es) q = ap (cond (is_eq (slice_cmp nat_cmp q e.0)) (Some e.1)) (at_is es q)

pub bytes_with : (p q : List ℕ) (f : Folder) (b : List ℕ) → bytes_at (with_file f p b) q ≡ cond (bytes_eq q p) (Some b) (bytes_at f q)
bytes_with p q f b =
    at_is (with_file f p b) q ∙ ap (find (slice_cmp nat_cmp) q) (with_is f p b) ∙ find-put (slice_cmp nat_cmp) nat_list_cmp_total q p b f
    ∙ ap (cond (is_eq (slice_cmp nat_cmp q p)) (Some b)) (sym (at_is f q)) ∙ ap (λ t. cond t (Some b) (bytes_at f q)) (is_eq-slice_cmp q p)

pub bytes_put : (p q : List ℕ) (f : Folder) (b : List ℕ) → bytes_eq q p ≡ true → bytes_at (with_file f p b) q ≡ Some b
bytes_put p q f b same = bytes_with p q f b ∙ cond-true _ _ _ same

pub bytes_put_other : (p q : List ℕ) (f : Folder) (b : List ℕ) → bytes_eq q p ≡ false → bytes_at (with_file f p b) q ≡ bytes_at f q
bytes_put_other p q f b apart = bytes_with p q f b ∙ cond-false _ _ _ apart

-- no later file has the path of the first one
pub none_after : (q : List ℕ) (e : List ℕ × List ℕ) (es : Folder) → q ≡ e.0 → IsStrictlySortedBy (slice_cmp nat_cmp) (paths_of (e ∷ es)) → bytes_at es q ≡ None
none_after q e es same s =
    lookup-none _ es (none_past_head (eq_by_cmp_equiv nat_list_cmp_total) q e es (IsDistinct-from_sorted _ _ s)
    (is_eq-slice_cmp q e.0 ∙ ap (bytes_eq q) (sym same) ∙ bytes_self q))

-- A file that was deleted is gone, and files at other paths stay.
pub bytes_gone : (p q : List ℕ) (f : Folder) → IsStrictlySortedBy (slice_cmp nat_cmp) (paths_of f) → bytes_at (without_file f p) q ≡ cond (bytes_eq q p) None (bytes_at f q)
bytes_gone p q f s =
    let laws = eq_by_cmp_equiv nat_list_cmp_total in
    lookup-remove_entry laws (is_at (slice_cmp nat_cmp p)) (laws.congr p) q f (IsDistinct-from_sorted _ _ s)
    ∙ ap (λ t. cond t None (bytes_at f q)) (is_eq-slice_cmp p q ∙ nat_list_eq_equiv.symm p q)

-- the bytes at each path after a change
pub bytes_changed : (p q : List ℕ) (f : Folder) (now : Option (List ℕ)) → IsStrictlySortedBy (slice_cmp nat_cmp) (paths_of f)
    → bytes_at (with_bytes_at f p now) q ≡ cond (bytes_eq q p) now (bytes_at f q)
bytes_changed p q f None s = bytes_gone p q f s
bytes_changed p q f (Some b) s = bytes_with p q f b

module _ {U I : Type 0} where
  -- a look-up among kept files finds what the folder has
  pub bytes_kept : (files : Files U I) (q : List ℕ) → bytes_at (folder_of files) q ≡ option_map (λ (file : KeptFile U I). file.bytes.items) (file_at files q)
  bytes_kept [] q = refl
  bytes_kept (e ∷ es) q = rw (is_eq-slice_cmp q (string_bytes e.0), bytes_kept es q) (grind (arith, nat_tests))

  pub has_file : (files : Files U I) (q : List ℕ) → is_some (file_at files q) ≡ is_some (bytes_at (folder_of files) q)
  has_file files q = rw (bytes_kept files q) (by (file_at files q))
    where
      by : (o : Option (KeptFile U I)) → is_some o ≡ is_some (option_map (λ (file : KeptFile U I). file.bytes.items) o)
      by None = refl
      by (Some file) = refl

  pub bytes_after : (files : Files U I) (p q : List ℕ) (now : Option (KeptFile U I)) → IsStrictlySortedBy (slice_cmp nat_cmp) (paths_of (folder_of files))
      → bytes_at (next_folder files p now) q ≡ option_map (λ (file : KeptFile U I). file.bytes.items) (file_after files p now q)
  bytes_after files p q now s =
      rw (bytes_changed p q (folder_of files) (option_map (λ (file : KeptFile U I). file.bytes.items) now) s, bytes_kept files q) (grind (arith, nat_tests))

  -- what is true of each kept file is true of the one at a path
  pub holds_at : (P : List ℕ → KeptFile U I → Type 0) (files : Files U I) (q : List ℕ) (file : KeptFile U I)
      → AllByRecursion (λ (e : String Global × KeptFile U I). P (string_bytes e.0) e.1) files → file_at files q ≡ Some file → P q file
  holds_at P files q file all h =
      let there = place_from_lookup (λ k. bytes_eq q (string_bytes k)) files file h in
      rw (bytes_same q (string_bytes there.1) there.3) (each_at (λ (e : String Global × KeptFile U I). P (string_bytes e.0) e.1) files there.0 (there.1, file) all there.2)

  -- a part of each kept file that is determined by its path and bytes
  pub part_at : {A : Type 0} (v : KeptFile U I → A) (w : List ℕ → A) (files : Files U I) (q : List ℕ) → ((file : KeptFile U I) → file_at files q ≡ Some file → v file ≡ w file.bytes.items)
      → option_map v (file_at files q) ≡ option_map w (bytes_at (folder_of files) q)
  part_at v w files q tells = rw (bytes_kept files q) (by (file_at files q) tells)
    where
      by : (o : Option (KeptFile U I)) → ((file : KeptFile U I) → o ≡ Some file → v file ≡ w file.bytes.items)
          → option_map v o ≡ option_map w (option_map (λ (file : KeptFile U I). file.bytes.items) o)
      by None tells = refl
      by (Some file) tells = ap Some (tells file refl)

  module _ (m : Meaning I) (is_unit : U → List ℕ → List ℕ → Type 0) where
    -- the file at a path satisfies the invariant of kept files
    pub kept_at : (files : Files U I) (q : List ℕ) (file : KeptFile U I) → AllKept m is_unit files → file_at files q ≡ Some file → IsKept m is_unit q file
    kept_at files q file all h = holds_at (IsKept m is_unit) files q file all h

    pub kept_after : (files : Files U I) (p q : List ℕ) (now : Option (KeptFile U I)) (file : KeptFile U I) → IsView m is_unit files p now
        → file_after files p now q ≡ Some file → IsKept m is_unit q file
    kept_after files p q now file view h = by now (bytes_eq q p) refl view.next h
      where
        by : (now : Option (KeptFile U I)) (t : Bool) → bytes_eq q p ≡ t → IsKeptIf m is_unit p now → cond t now (file_at files q) ≡ Some file → IsKept m is_unit q file
        by now false a next h = kept_at files q file view.kept.kept h
        by None true a next h = absurd (none-some file h)
        by (Some kept) true a next h = rw (bytes_same q p a, ← same_Some kept file h) next

-- a file that is in the folder has a position, and a put replaces the entry there
pub place_of : (p b : List ℕ) (f : Folder) → IsStrictlySortedBy (slice_cmp nat_cmp) (paths_of f) → bytes_at f p ≡ Some b
    → (i : ℕ) × (slice_get f i ≡ Some (p, b)) × ((now : List ℕ) → set f i (p, now) ≡ with_file f p now)
place_of p b f s there = by (path_place (paths_of f) p) refl
  where
    by : (r : Result ℕ ℕ) → path_place (paths_of f) p ≡ r → (i : ℕ) × (slice_get f i ≡ Some (p, b)) × ((now : List ℕ) → set f i (p, now) ≡ with_file f p now)
    by (Err i) h = absurd (none-some b (sym (absent f p i s h) ∙ there))
    by (Ok i) h = let r = found p f i h in (i, r.entry ∙ ap (λ x. Some (p, x)) (same_Some r.bytes b (sym r.finds ∙ there)), r.puts)

-- putting a file with the bytes that it has changes nothing
pub put_same : (p b : List ℕ) (f : Folder) → IsStrictlySortedBy (slice_cmp nat_cmp) (paths_of f) → bytes_at f p ≡ Some b → with_file f p b ≡ f
put_same p b f s there =
    let at = place_of p b f s there in
    sym (at.2 b) ∙ ap (set f at.0) (sym (get_or_from_slice_get f at.0 (p, b) (p, b) at.1)) ∙ set-get_or f at.0 (p, b)

-- each file of a sorted folder is found by its path
pub all_in : (f : Folder) → IsStrictlySortedBy (slice_cmp nat_cmp) (paths_of f) → AllByRecursion (λ x. bytes_at f x.0 ≡ Some x.1) f
all_in f s = recursion_from_All (λ (x : List ℕ × List ℕ). bytes_at f x.0 ≡ Some x.1) f
    (λ i d within. lookup_from_place (eq_by_cmp_equiv nat_list_cmp_total) f i _ _ (IsDistinct-from_sorted _ _ s) (slice_get-get_or f i d within))

-- what is true of a value is true of a reference to it
pub holds_copied : {X : Type 0} (P : X → Type 0) (o : Option X) (r : Option (Bor X)) → option_copied r ≡ o → ((x : X) → o ≡ Some x → P x) → IfSome r (λ x. P x.now)
holds_copied P o None is each = tt
holds_copied P o (Some x) is each = each x.now (sym is)

pub never_lacking : {A : Type 0} (o : Option A) → None ≡ o → IsSome o → ⊥
never_lacking o h there = true≢false (sym there ∙ sym (ap is_some h))
