-- The answers of calls, one call after another.
use Rattle.std.proofs.Common.{◌≡◌, ℕ, ◌+◌, ◌<◌, List, [], ◌∷◌, ◌++◌, Option, Some, None, refl, sym, ◌∙◌, ap, map, take, length, get_or, arith}
use Rattle.std.proofs.lemmas.List.{map_push, map_more}
use Rattle.al_base.specs.declared.faults.Fault.{Fault}
use Rattle.al_lint.specs.Meaning.{Meaning}
use Rattle.al_base.specs.Counted.{count_after}
use Rattle.al_session_folder.specs.Folder.{Folder, answer, faults_in, bytes_at}
use Rattle.al_session_folder.specs.Kept.{faults_of}
use Rattle.std.specs.Option.{option_map_or, option_or}
use Rattle.al_lint.specs.declared.lint.Target.{Target}

pub or_none : {T : Type 0} (o : Option T) → option_or o None ≡ o
or_none None = refl
or_none (Some x) = refl

-- A check's result is the file's faults if the check got the answers of the file's calls.
pub check_is : {I : Type 0} (m : Meaning I) (f : Folder) (p b b1 : List ℕ) (targets : List Target) (given : List (Option I)) (faults : List Fault)
    → b1 ≡ b → targets ≡ m.calls p b → given ≡ map (answer m f) targets → faults ≡ m.faults p b1 given → faults ≡ faults_in m f p b
unfolding faults_in
check_is m f p b b1 targets given faults bytes calls answered checked =
    checked ∙ ap (λ c. m.faults p c given) bytes ∙ ap (m.faults p b) (answered ∙ ap (map (answer m f)) calls)

-- one more element of each of two lists
pub map_both : {A B C : Type 0} (f : A → C) (g : B → C) (xs : List A) (ys : List B) (i : ℕ) (d : B) (x : A) → i < length ys → map f xs
    ≡ map g (take i ys) → f x ≡ g (get_or ys i d) → map f (xs ++ x ∷ []) ≡ map g (take (i + 1) ys)
map_both f g xs ys i d x within so_far here = rw (map_push f xs x, so_far, here, map_more g ys i d within)

pub raised_more : (n k a b : ℕ) → a ≡ count_after n k → b ≡ count_after a 1 → b ≡ count_after n (k + 1)
raised_more n k a b h e = omega arith

-- the faults of the file at a path are those of its bytes
pub faults_there : {I : Type 0} (m : Meaning I) (f : Folder) (q b : List ℕ) → bytes_at f q ≡ Some b → faults_in m f q b ≡ faults_of m f q
faults_there m f q b h = sym (ap (λ (o : Option (List ℕ)). option_map_or (faults_in m f q) o []) h)
