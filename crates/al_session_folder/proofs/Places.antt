-- Files in order of path, and the position of a path among them.
use Rattle.std.proofs.lemmas.List.{length-map}
use Rattle.std.proofs.lemmas.Map.Lookups.{exact_bytes}
use Rattle.std.proofs.lemmas.Map.Keys.{sorted_tail}
use Rattle.std.proofs.lemmas.Map.Entries.{none_below_head}
use Rattle.std.proofs.lemmas.Map.Views.{All-keys-insert_entry}
use Rattle.al_graph.proofs.Orders.{all_weaker}
use Rattle.std.proofs.lemmas.List.Elements.{All-from_recursion, recursion_from_All}
use Rattle.std.proofs.lemmas.Option.{slice_get_within, get_or_from_slice_get}
use Rattle.std.proofs.Common.{◌≡◌, ℕ, ◌<◌, ◌≤◌, List, [], ◌∷◌, length, map, set, Some, None, Result, Ok, Err, refl, sym, ◌∙◌, ap, subst, arith, slice_get, String}
use Rattle.std.specs.Prelude.{string_bytes}
use Rattle.std.specs.Global.{Global}
use Rattle.std.specs.List.{AllByRecursion, insert}
use Rattle.std.specs.List.Sorted.{IsStrictlySortedBy}
use Rattle.std.specs.Ordering.{nat_cmp, is_eq, ordering_reverse}
use Rattle.std.specs.declared.cmp.Ordering.{Ordering}
use Rattle.std.specs.declared.cmp.Ordering.TheVariants.{Less, Equal, Greater}
use Rattle.std.specs.Cmp.Lexicographic.{slice_cmp}
use Rattle.std.specs.BTreeMap.{is_at}
use Rattle.std.proofs.lemmas.Cmp.{nat_list_cmp_total}
use Rattle.std.proofs.lemmas.Map.{NonePasses, lookup-none}
use Rattle.al_session_folder.specs.Folder.{Folder, bytes_at, with_file, paths_of}
use Rattle.al_session_folder.specs.Place.{path_place, one_further}
use Rattle.al_session_folder.specs.Kept.{Files, folder_of, entry_of}
use Rattle.al_session_folder.specs.declared.kept.KeptFile.{KeptFile}

pub by_ordering : {P : Type 0} (r : Ordering) → (r ≡ Less → P) → (r ≡ Equal → P) → (r ≡ Greater → P) → P
by_ordering Less a b c = a refl
by_ordering Equal a b c = b refl
by_ordering Greater a b c = c refl

-- what is true of each element is true of the one at an index
pub each_at : {X : Type 0} (P : X → Type 0) (xs : List X) (i : ℕ) (x : X) → AllByRecursion P xs → slice_get xs i ≡ Some x → P x
each_at P xs i x all at = subst P (get_or_from_slice_get xs i x x at) (All-from_recursion P xs all i x (slice_get_within xs i x at))

module _ (p : List ℕ) where
  -- `Ok i`: the entry of the path is at `i`, and a look-up finds it
  pub record IsFound (es : Folder) (i : ℕ) : Type 0 where
    pub within : i < length es
    pub bytes : List ℕ
    pub entry : slice_get es i ≡ Some (p, bytes)
    pub finds : bytes_at es p ≡ Some bytes
    pub puts : (b : List ℕ) → set es i (p, b) ≡ with_file es p b

  -- `Err i`: the path isn't in the folder, and would be inserted at `i`
  pub record IsGap (es : Folder) (i : ℕ) : Type 0 where
    pub within : i ≤ length es
    pub puts : (b : List ℕ) → insert es i (p, b) ≡ with_file es p b
    pub lacks : IsStrictlySortedBy (slice_cmp nat_cmp) (paths_of es) → NonePasses (is_at (slice_cmp nat_cmp p)) es

  abbrev IsPlaced : Folder → Result ℕ ℕ → Type 0
  IsPlaced es (Ok i) = IsFound es i
  IsPlaced es (Err i) = IsGap es i

  -- the position after a first entry whose path is less than `p`
  after : (e : List ℕ × List ℕ) (es : Folder) (r : Result ℕ ℕ) → slice_cmp nat_cmp p e.0 ≡ Greater → IsPlaced es r → IsPlaced (e ∷ es) (one_further r)
  after e es (Ok i) a r = record {
    within = omega (arith, r.within);
    bytes = r.bytes;
    entry = r.entry;
    finds = rw a r.finds;
    puts = λ b. rw (a, r.puts b);
  }
  after e es (Err i) a r = record {
    within = omega (arith, r.within);
    puts = λ b. rw (a, r.puts b);
    lacks = λ s. (ap is_eq a, r.lacks (sorted_tail _ _ _ s));
  }

  placed : (es : Folder) → IsPlaced es (path_place (paths_of es) p)
  placed [] = record { within = omega arith; puts = λ b. refl; lacks = λ s. tt }
  placed (e ∷ es) = by_ordering (slice_cmp nat_cmp p e.0)
      (λ a. rw a (record { within = omega arith; puts = λ b. rw a; lacks = λ s. none_below_head nat_list_cmp_total p e es s a }))
      (λ a. let same = exact_bytes p e.0 a in
      rw a (record { within = omega arith; bytes = e.1; entry = ap (λ q. Some (q, e.1)) (sym same); finds = rw a; puts = λ b. rw a (ap (λ q. (q, b) ∷ es) same) }))
      (λ a. rw a (after e es (path_place (paths_of es) p) a (placed es)))

  pub found : (es : Folder) (i : ℕ) → path_place (paths_of es) p ≡ Ok i → IsFound es i
  found es i h = subst (IsPlaced es) h (placed es)

  pub gap : (es : Folder) (i : ℕ) → path_place (paths_of es) p ≡ Err i → IsGap es i
  gap es i h = subst (IsPlaced es) h (placed es)

  pub sorted_put : (es : Folder) (b : List ℕ) → IsStrictlySortedBy (slice_cmp nat_cmp) (paths_of es) → IsStrictlySortedBy (slice_cmp nat_cmp) (paths_of (with_file es p b))
  unfolding IsStrictlySortedBy
  sorted_put [] b s = (tt, tt)
  sorted_put (e ∷ es) b s = by_ordering (slice_cmp nat_cmp p e.0)
      (λ a. rw a ((a, all_weaker _ (λ y. slice_cmp nat_cmp p y ≡ Less) (λ y h. nat_list_cmp_total.trans p e.0 y a h) (paths_of es) s.0), s))
      (λ a. rw a s)
      (λ a. rw a (
        recursion_from_All _ _ (All-keys-insert_entry (slice_cmp nat_cmp) p b (λ y. slice_cmp nat_cmp e.0 y ≡ Less) es (All-from_recursion _ _ s.0)
            (nat_list_cmp_total.antisymm e.0 p ∙ ap ordering_reverse a)),
        sorted_put es b s.1,
      ))

-- a path whose position is `Err` isn't in the folder
pub absent : (es : Folder) (p : List ℕ) (i : ℕ) → IsStrictlySortedBy (slice_cmp nat_cmp) (paths_of es) → path_place (paths_of es) p ≡ Err i → bytes_at es p ≡ None
absent es p i s h = lookup-none _ es ((gap p es i h).lacks s)

module _ {U I : Type 0} where
  pub length-folder_of : (files : Files U I) → length (folder_of files) ≡ length files
  length-folder_of files = length-map files entry_of

  pub paths_of-folder_of : (files : Files U I) → map (λ (e : String Global × KeptFile U I). string_bytes e.0) files ≡ paths_of (folder_of files)
  paths_of-folder_of [] = refl
  paths_of-folder_of (f ∷ fs) = ap (λ l. string_bytes f.0 ∷ l) (paths_of-folder_of fs)
