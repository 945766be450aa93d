-- Files taken one after another that a folder has, and those that it lists.
use Rattle.std.proofs.Common.{◌≡◌, ℕ, Bool, true, false, ◌||◌, ◌&&◌, if◌then◌else◌, List, [], ◌∷◌, ◌++◌, ◌≤◌, length, map}
use Rattle.std.proofs.Common.{Option, None, Some, Ok, refl, sym, ap, ◌∙◌, subst, append_assoc, append-nil, option_map}
use Rattle.std.specs.Prelude.{String, Vec, bytes_eq, filter, slice_get, string_bytes}
use Rattle.std.specs.Borrow.{Bor}
use Rattle.std.specs.Global.{Global}
use Rattle.std.specs.BTreeSet.{BTreeSet}
use Rattle.std.specs.Iterator.{SkipsThenYields, YieldsFirstBy}
use Rattle.std.proofs.lemmas.Iterator.Consumers.{YieldsList-from_first, nth_from_yields_List}
use Rattle.std.proofs.lemmas.List.{length-map}
use Rattle.std.proofs.lemmas.List.Folds.{list_any-append}
use Rattle.al_base.specs.Limits.{most_files}
use Rattle.al_session.specs.Affected.{is_among}
use Rattle.al_session.specs.Folder.{paths_of}
use Rattle.al_session_folder.proofs.Views.{bytes_same}
use Rattle.al_cli.specs.Disk.{Holding, HeldFile, IsHeld, TellsListing, Tells, is_file}
use Rattle.al_cli.specs.declared.disk.Entry.TheVariants as entry
use Rattle.al_cli.specs.declared.gathering.Found.TheVariants as found
use Rattle.al_cli.specs.Private.Turns.{IsFoundAt, KeepsHeld, with_entry}
use Rattle.al_cli.specs.Taken.{AreHeld, AreListedFiles, with_path}
use Rattle.al_cli.proofs.Turns.{paths_with}

-- Files that the folder has.

held_with : (h : Option Holding) (es : List (List ℕ × List ℕ)) (e : List ℕ × List ℕ) → AreHeld h es → IsHeld h e.0 e.1 → AreHeld h (es ++ e ∷ [])
held_with h [] e held here = (here, tt)
held_with h (x ∷ xs) e held here = (held.0, held_with h xs e held.1 here)

held_last : (h : Option Holding) (es : List (List ℕ × List ℕ)) (e : List ℕ × List ℕ) → AreHeld h (es ++ e ∷ []) → IsHeld h e.0 e.1
held_last h [] e held = held.0
held_last h (x ∷ xs) e held = held_last h xs e held.1

pub held_none : (h : Option Holding) (es : List (List ℕ × List ℕ)) → es ≡ [] → AreHeld h es
held_none h es none = rw none tt

pub held_same : (h : Option Holding) (es gs : List (List ℕ × List ℕ)) → gs ≡ es → AreHeld h es → AreHeld h gs
held_same h es gs same held = rw same held

-- no file was taken, or one more that the folder has
pub kept_same : (h : Option Holding) (es gs : List (List ℕ × List ℕ)) → gs ≡ es → KeepsHeld h es gs
kept_same h es gs same = record { all = λ held. held_same h es gs same held }

pub kept_more : (h : Option Holding) (es gs : List (List ℕ × List ℕ)) (p b : List ℕ) → IsHeld h p b → gs ≡ es ++ (p, b) ∷ [] → KeepsHeld h es gs
kept_more h es gs p b here more = record { all = λ held. held_same h (es ++ (p, b) ∷ []) gs more (held_with h es (p, b) held here) }

-- What a disk tells of a path.

pub told_file : (h : Option Holding) (p : List ℕ) (v : Vec ℕ Global) → Tells h p (Ok (entry.File v)) → IsHeld h p v.items
told_file None p v told = tt
told_file (Some folder) p v told = told

pub told_absent : (h : Option Holding) (p : List ℕ) → Tells h p (Ok entry.Absent) → IsFoundAt h p found.Absent
told_absent None p told = tt
told_absent (Some folder) p told = told

pub told_outside : (h : Option Holding) (p : List ℕ) → Tells h p (Ok entry.Outside) → IsFoundAt h p found.Outside
told_outside None p told = tt
told_outside (Some folder) p told = told

pub found_file : (h : Option Holding) (p : List ℕ) → IsFoundAt h p found.File
found_file None p = tt
found_file (Some folder) p = tt

-- The paths that the folder lists.

abbrev texts : List (String Global) → List (List ℕ)
texts ks = map (λ (s : String Global). string_bytes s) ks

-- what an iterator over these paths gives after the first n
pub path_at : (r : Option (Bor (String Global))) (k : Bor (String Global)) (s u ks : List (String Global)) (n : ℕ) → r ≡ Some k → s ≡ ks
    → SkipsThenYields (YieldsFirstBy (λ (x : Bor (String Global)). x.now) (λ l. l)) s n r u → slice_get ks n ≡ Some k.now
path_at r k s u ks n is all ran =
    sym (nth_from_yields_List r u n ran (YieldsList-from_first (λ (x : Bor (String Global)). x.now) (λ l. l) ks all))
    ∙ ap (option_map (λ (x : Bor (String Global)). x.now)) is

abbrev has_file : Holding → List ℕ → Bool
has_file folder p = is_file (folder.has p)

-- the taken paths, and those of the rest at which the folder has a file, are the paths that it lists and has a file at, of which there aren't too many
abbrev pub Covers : Option Holding → List (List ℕ) → List (List ℕ) → Type 0
Covers None taken rest = Unit {0}
Covers (Some folder) taken rest = (listed : List (List ℕ)) × (folder.listed ≡ Some listed) × (length listed ≤ most_files)
    × ((p : List ℕ) → is_among p (taken ++ filter (has_file folder) rest) ≡ (is_among p listed && has_file folder p))

and_or : (a b c : Bool) → (a ≡ true → c ≡ true) → (a || (b && c)) ≡ ((a || b) && c)
and_or true b c h = sym (h refl)
and_or false b c h = refl

and_skip : (a b c : Bool) → (a ≡ true → c ≡ false) → (b && c) ≡ ((a || b) && c)
and_skip true true c h = refl
and_skip true false c h = sym (h refl)
and_skip false b c h = refl

or_same : (a b c : Bool) → (b ≡ true → a ≡ true) → (a || c) ≡ (a || (b || c))
or_same true b c h = refl
or_same false true c h = let no : false ≡ true = h refl in cc
or_same false false c h = refl

among_filter : (f : List ℕ → Bool) (ps : List (List ℕ)) (p : List ℕ) → is_among p (filter f ps) ≡ (is_among p ps && f p)
among_filter f [] p = refl
among_filter f (q ∷ qs) p = by (f q) refl (among_filter f qs p)
  where
    by : (t : Bool) → f q ≡ t → is_among p (filter f qs) ≡ (is_among p qs && f p)
        → is_among p (if t then q ∷ filter f qs else filter f qs) ≡ ((bytes_eq p q || is_among p qs) && f p)
    by true e more = ap (λ (b : Bool). bytes_eq p q || b) more ∙ and_or (bytes_eq p q) (is_among p qs) (f p) (λ s. ap f (bytes_same p q s) ∙ e)
    by false e more = more ∙ and_skip (bytes_eq p q) (is_among p qs) (f p) (λ s. ap f (bytes_same p q s) ∙ e)

-- a path that is there twice
already : (p q : List ℕ) (ps qs : List (List ℕ)) → is_among q ps ≡ true → is_among p (ps ++ qs) ≡ is_among p (ps ++ q ∷ qs)
already p q ps qs here =
    let there : bytes_eq p q ≡ true → is_among p ps ≡ true = λ e. subst (λ (x : List ℕ). is_among x ps ≡ true) (sym (bytes_same p q e)) here in
    list_any-append (bytes_eq p) ps qs ∙ or_same (is_among p ps) (bytes_eq p q) (is_among p qs) there ∙ sym (list_any-append (bytes_eq p) ps (q ∷ qs))

same_among : (f : List ℕ → Bool) (ps rs qs : List (List ℕ)) (q p : List ℕ) → rs ≡ with_path ps q → (is_among q ps ≡ false → f q ≡ true)
    → is_among p (rs ++ qs) ≡ is_among p (ps ++ (if f q then q ∷ qs else qs))
same_among f ps rs qs q p is file = by (is_among q ps) (f q) refl file is
  where
    by : (t u : Bool) → is_among q ps ≡ t → (t ≡ false → u ≡ true) → rs ≡ (if t then ps else ps ++ q ∷ [])
        → is_among p (rs ++ qs) ≡ is_among p (ps ++ (if u then q ∷ qs else qs))
    by true true e h same = ap (λ (l : List (List ℕ)). is_among p (l ++ qs)) same ∙ already p q ps qs e
    by true false e h same = ap (λ (l : List (List ℕ)). is_among p (l ++ qs)) same
    by false true e h same = ap (λ (l : List (List ℕ)). is_among p (l ++ qs)) same ∙ ap (is_among p) (append_assoc ps (q ∷ []) qs)
    by false false e h same = let no : false ≡ true = h refl in cc

-- a file that was taken anew is one that the folder has
file_held : (folder : Holding) (es gs : List (List ℕ × List ℕ)) (q b : List ℕ) → gs ≡ with_entry es (q, b) → AreHeld (Some folder) gs
    → is_among q (paths_of es) ≡ false → has_file folder q ≡ true
file_held folder es gs q b is held new =
    let more : gs ≡ es ++ (q, b) ∷ [] = is ∙ ap (λ (t : Bool). if t then es else es ++ (q, b) ∷ []) new in
    let last : folder.has q ≡ HeldFile b = held_last (Some folder) es (q, b) (subst (λ (l : List (List ℕ × List ℕ)). AreHeld (Some folder) l) more held) in
    ap is_file last

-- before the loop, nothing is taken
pub covers_start : (h : Option Holding) (es : List (List ℕ × List ℕ)) (set : BTreeSet (String Global)) (rest : List (String Global)) → es ≡ [] → rest ≡ set.keys
    → TellsListing h (Ok set) → length set.keys ≤ most_files → Covers h (paths_of es) (texts rest)
covers_start None es set rest none same lists few = tt
covers_start (Some folder) es set rest none same lists few =
    (texts set.keys, lists, rw (length-map set.keys (λ (s : String Global). string_bytes s)) few, λ p. rw (none, same) (among_filter (has_file folder) (texts set.keys) p))

-- in each iteration, the next path is taken
pub covers_next : (h : Option Holding) (es gs : List (List ℕ × List ℕ)) (k : String Global) (ks ls : List (String Global)) (q : List ℕ)
    → Covers h (paths_of es) (texts ks) → ks ≡ k ∷ ls → q ≡ string_bytes k → (b : List ℕ) × (gs ≡ with_entry es (q, b)) → AreHeld h gs
    → Covers h (paths_of gs) (texts ls)
covers_next None es gs k ks ls q covers step text taken held = tt
covers_next (Some folder) es gs k ks ls q covers step text taken held =
    let paths : paths_of gs ≡ with_path (paths_of es) (string_bytes k) =
    paths_with es gs q taken.0 taken.1 ∙ ap (with_path (paths_of es)) text in
    let file : is_among (string_bytes k) (paths_of es) ≡ false → has_file folder (string_bytes k) ≡ true =
    λ new. subst (λ (x : List ℕ). has_file folder x ≡ true) text
    (file_held folder es gs q taken.0 taken.1 held (subst (λ (x : List ℕ). is_among x (paths_of es) ≡ false) (sym text) new)) in (
      covers.0,
      covers.1,
      covers.2,
      λ p. same_among (has_file folder) (paths_of es) (paths_of gs) (filter (has_file folder) (texts ls)) (string_bytes k) p paths file
          ∙ (rw step at covers.3 p),
    )

-- or it is skipped
pub covers_over : (h : Option Holding) (es fs gs : List (List ℕ × List ℕ)) (k : String Global) (ks ls : List (String Global)) (q : List ℕ)
    → Covers h (paths_of es) (texts ks) → ks ≡ k ∷ ls → q ≡ string_bytes k → IsFoundAt h q found.Outside → fs ≡ es → gs ≡ fs
    → Covers h (paths_of gs) (texts ls)
covers_over None es fs gs k ks ls q covers step text out same again = tt
covers_over (Some folder) es fs gs k ks ls q covers step text out same again =
    let none : has_file folder (string_bytes k) ≡ false = subst (λ (x : List ℕ). has_file folder x ≡ false) text (ap is_file out) in
    let others = filter (has_file folder) (texts ls) in (
      covers.0,
      covers.1,
      covers.2,
      λ p. ap (λ (l : List (List ℕ × List ℕ)). is_among p (paths_of l ++ others)) (again ∙ same)
          ∙ sym (ap (λ (t : Bool). is_among p (paths_of es ++ (if t then string_bytes k ∷ others else others))) none) ∙ (rw step at covers.3 p),
    )

-- after the loop, nothing is left
pub covers_end : (h : Option Holding) (es : List (List ℕ × List ℕ)) (rest : List (String Global)) → rest ≡ [] → Covers h (paths_of es) (texts rest)
    → AreListedFiles h (paths_of es)
covers_end None es rest none covers = tt
covers_end (Some folder) es rest none covers =
    (covers.0, covers.1, covers.2, λ p. ap (is_among p) (sym (append-nil (paths_of es))) ∙ (rw none at covers.3 p))
