-- The kept calls with their answers are the file's calls with their answers.
use Rattle.std.proofs.Common.{Bor, ◌≡◌, ◌<◌, ◌+◌, ◌++◌, ◌∙◌, ℕ, List, [], ◌∷◌, zero, suc, Option, Some, None, ap, append-nil, append_assoc, drop, get_or, length, map, option_map, refl, sym}
use Rattle.std.proofs.Math.Seq.{drop-drop}
use Rattle.std.proofs.lemmas.Option.{slice_get_past, slice_get_read}
use Rattle.std.specs.Prelude.{IfSome, slice_get, slice_index_or, unwrap_or}
use Rattle.std.specs.List.{AllByRecursion, cons_option, filter_map}
use Rattle.std.specs.Option.{option_copied, option_map_or}
use Rattle.std.specs.Slice.{IsItemAt}
use Rattle.al_base.proofs.Elements.{each_cons}
use Rattle.al_base.specs.declared.codes.CallCode.TheVariants.{CallCycle}
use Rattle.al_lint.specs.declared.lint.Target.{Target}
use Rattle.al_yaml_tree.specs.Node.{Node}
use Rattle.al_tree.proofs.Lists.{left_next}
use Rattle.al_tree.specs.declared.files.FileKind.{FileKind}
use Rattle.al_check_interfaces.specs.declared.interfaces.Interface.{Interface}
use Rattle.al_check_interfaces.specs.FolderCalls.{AreCallsOf, FolderCall, as_folder_call, folder_call}
use Rattle.al_check_interfaces.specs.Uses.{Call, calls_in, target_in, that_uses}
use Rattle.al_check_interfaces.specs.declared.calls.FolderCall as code
use Rattle.al_check_calls.specs.Answers.{Answered, answered_by, calls_with_answers}

-- ---- what is true of all calls is true of those with answers

one_answered : (P : Call → Type 0) (c : Call) (o : Option Target) (answer : Option Interface) → P c → IfSome (option_map (λ t. answered_by c answer) o) (λ a. P a.call)
one_answered P c None answer p = tt
one_answered P c (Some t) answer p = p

pub each_answered : (P : Call → Type 0) (cs : List Call) (answers : List (Option Interface)) → AllByRecursion P cs → AllByRecursion (λ (a : Answered). P a.call) (calls_with_answers cs answers)
each_answered P [] answers p = tt
each_answered P (c ∷ cs) answers p =
    let others = option_map_or (λ t. drop 1 answers) (target_in c.form) answers in
    each_cons (λ (a : Answered). P a.call) (option_map (λ t. answered_by c (slice_index_or answers 0 None)) (target_in c.form)) (calls_with_answers cs others)
    (one_answered P c (target_in c.form) (slice_index_or answers 0 None) p.0) (each_answered P cs others p.1)

-- ---- the kept calls

abbrev with_answer : List (Option Interface) → Call → Answered
with_answer answers c = answered_by c (slice_index_or answers 0 None)

abbrev pub answered_of_kept : List FolderCall → List (Option Interface) → List Answered
answered_of_kept [] answers = []
answered_of_kept (k ∷ ks) answers = cons_option (option_map (with_answer answers) k.0) (answered_of_kept ks (drop 1 answers))

of_kept : (cs : List Call) (answers : List (Option Interface)) → answered_of_kept (filter_map as_folder_call cs) answers ≡ calls_with_answers cs answers
of_kept [] answers = refl
of_kept (c ∷ cs) answers = by (target_in c.form) (of_kept cs)
  where
    by : (o : Option Target) → ((answers : List (Option Interface)) → answered_of_kept (filter_map as_folder_call cs) answers ≡ calls_with_answers cs answers) →
        answered_of_kept (cons_option (option_map (λ t. (Some c, t, that_uses CallCycle c)) o) (filter_map as_folder_call cs)) answers
        ≡ cons_option (option_map (λ t. with_answer answers c) o) (calls_with_answers cs (option_map_or (λ t. drop 1 answers) o answers))
    by None rest = rest answers
    by (Some t) rest = ap (λ l. with_answer answers c ∷ l) (rest (drop 1 answers))

pub all_answered : (kind : FileKind) (root : Node) (kept : List code.FolderCall) (answers : List (Option Interface)) → AreCallsOf kind root kept →
    answered_of_kept (map (folder_call (calls_in kind root)) kept) answers ≡ calls_with_answers (calls_in kind root) answers
all_answered kind root kept answers are = ap (λ ks. answered_of_kept ks answers) are ∙ of_kept (calls_in kind root) answers

-- ---- one more call

-- the item that a slice gives for an index
pub item_at : {X : Type 0} (xs : List X) (i : ℕ) (r : Option (Bor X)) → IsItemAt xs i r → slice_get xs i ≡ option_copied r
item_at xs i None item = slice_get_past xs i item.3
item_at xs i (Some x) item = slice_get_read xs (length xs) i x.now refl item.3.0 item.1

-- the answer at an index is the first of those from there on
pub answer_there : (answers : List (Option (Bor Interface))) (i : ℕ) → option_copied (unwrap_or (slice_get answers i) None)
    ≡ slice_index_or (drop i (map (λ a. option_copied a) answers)) 0 None
answer_there [] zero = refl
answer_there [] (suc i) = refl
answer_there (a ∷ answers) zero = refl
answer_there (a ∷ answers) (suc i) = answer_there answers i

put_next : {X : Type 0} (o : Option X) (old new rest whole : List X) → new ≡ old ++ cons_option o [] → old ++ cons_option o rest ≡ whole → new ++ rest ≡ whole
put_next None old new rest whole more so_far = ap (λ l. l ++ rest) (more ∙ append-nil old) ∙ so_far
put_next (Some x) old new rest whole more so_far = ap (λ l. l ++ rest) more ∙ append_assoc old (x ∷ []) rest ∙ so_far

pub answered_more : (calls : List Call) (kept : List code.FolderCall) (i : ℕ) (k : code.FolderCall) (answers : List (Option Interface)) (o : Option Call)
    (old new whole : List Answered) → i < length kept → k ≡ get_or kept i k → slice_get calls k.number ≡ o →
    new ≡ old ++ cons_option (option_map (with_answer (drop i answers)) o) [] →
    old ++ answered_of_kept (map (folder_call calls) (drop i kept)) (drop i answers) ≡ whole →
    new ++ answered_of_kept (map (folder_call calls) (drop (i + 1) kept)) (drop (i + 1) answers) ≡ whole
answered_more calls kept i k answers o old new whole room is there more so_far =
    let rest = map (folder_call calls) (drop (i + 1) kept) in
    ap (λ l. new ++ answered_of_kept rest l) (sym (drop-drop 1 i answers))
    ∙ put_next (option_map (with_answer (drop i answers)) (slice_get calls k.number)) old new (answered_of_kept rest (drop 1 (drop i answers))) whole
    (more ∙ ap (λ c. old ++ cons_option (option_map (with_answer (drop i answers)) c) []) (sym there))
    (ap (λ l. old ++ answered_of_kept l (drop i answers)) (sym (left_next (folder_call calls) kept i k room is)) ∙ so_far)
