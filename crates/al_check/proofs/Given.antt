-- What reading a file gave determines its calls and its interface.
use Rattle.std.proofs.Common.{◌≡◌, ◌<◌, ◌∙◌, ℕ, List, [], ◌∷◌, Option, Some, None, length, map, get_or, refl, slice_get, ap, sym, subst, arith, option_map}
use Rattle.std.specs.Prelude.{Contains, Result, Ok, Err}
use Rattle.std.specs.List.{AllByRecursion, cons_option}
use Rattle.std.specs.Option.{option_map_or}
use Rattle.std.specs.Result.{result_ok}
use Rattle.std.specs.Str.Lossy.{utf8_lossy}
use Rattle.std.proofs.lemmas.List.{length-map, nil_from_length}
use Rattle.std.proofs.lemmas.List.Elements.{All-contains, All-from_recursion}
use Rattle.std.proofs.lemmas.Option.{slice_get-get_or, slice_get-map}
use Rattle.al_base.proofs.Sets.{mapped_in}
use Rattle.al_base.specs.declared.codes.CallCode.TheVariants.{CallCycle}
use Rattle.al_base.specs.declared.faults.Fault.{Fault}
use Rattle.al_scalar.specs.declared.faults.FaultAt.{FaultAt}
use Rattle.al_scalar.specs.declared.faults.YamlFault.{YamlFault}
use Rattle.al_yaml_tree.specs.Document.{tree_of}
use Rattle.al_yaml_tree.specs.Node.{Node}
use Rattle.al_lint.specs.declared.lint.Target.{Target}
use Rattle.al_tree.specs.Files.{kind_in, root_of}
use Rattle.al_tree.specs.declared.files.FileKind.{FileKind}
use Rattle.al_tree.specs.declared.files.Tree.{Tree}
use Rattle.al_check_interfaces.proofs.CallLists.{kept_faults, kept_targets}
use Rattle.al_check_interfaces.specs.Interfaces.{interface_of}
use Rattle.al_check_interfaces.specs.declared.interfaces.Interface.{Interface}
use Rattle.al_check_interfaces.specs.declared.interfaces.Interface.TheVariants.{Unreadable}
use Rattle.al_check_interfaces.specs.Uses as uses
use Rattle.al_check_interfaces.specs.Uses.{calls_in, cycle_faults, target_in, that_uses}
use Rattle.al_check_interfaces.specs.declared.calls.FolderCall.{FolderCall}
use Rattle.al_check.specs.Calling.{call_targets, file_interface, file_targets, shown_by, shown_read, targets_read}
use Rattle.al_check.specs.FileFaults.{document_faults, file_faults}
use Rattle.al_check.specs.Proofs.Laws.{faults_given}
use Rattle.al_check.specs.Reading.{CallsGiven, IsGiven, IsRead, IsTree}
use Rattle.al_check.specs.Sites.{file_sites}
use Rattle.al_check.specs.Units.{HasCalls, IsUnit, calls_kept}
use Rattle.al_check.specs.declared.files.ReadFile.{ReadFile}
use Rattle.al_check.specs.declared.units.Unit.{Unit}
use Rattle.al_check.specs.declared.units.Unit.TheVariants as unit

-- functions of a tree that was read, as the specification defines them on the bytes
module _ {A : Type 0} (f : FileKind → Node → A) (none : A) where
  abbrev of_reading : FileKind → Result Node FaultAt → A
  of_reading kind read = option_map_or (f kind) (result_ok read) none

  of_tree : (kind : FileKind) (bytes : List ℕ) (t : Tree) → IsGiven kind bytes (Ok t) → f (kind_in t) (root_of t) ≡ of_reading kind (tree_of bytes)
  of_tree kind bytes t is = ap (λ k. f k (root_of t)) is.kind_is ∙ ap (of_reading kind) (sym is.root_is)

  of_fault : (kind : FileKind) (bytes : List ℕ) (fault : YamlFault) → IsGiven kind bytes (Err fault) → none ≡ of_reading kind (tree_of bytes)
  of_fault kind bytes fault is = ap (of_reading kind) (sym is.fault_is)

abbrev targets_in_tree : FileKind → Node → List Target
targets_in_tree kind root = uses.targets_of (calls_in kind root)

abbrev sites_in_tree : FileKind → Node → List Fault
sites_in_tree kind root = cycle_faults (calls_in kind root)

targets_are : (kind : FileKind) (bytes : List ℕ) (read : Result Tree YamlFault) → IsGiven kind bytes read → targets_read read ≡ file_targets kind bytes
targets_are kind bytes (Ok t) is = of_tree targets_in_tree [] kind bytes t is
targets_are kind bytes (Err fault) is = of_fault targets_in_tree [] kind bytes fault is

interface_is : (kind : FileKind) (bytes : List ℕ) (read : Result Tree YamlFault) → IsGiven kind bytes read → shown_read read ≡ file_interface kind bytes
interface_is kind bytes (Ok t) is = of_tree interface_of Unreadable kind bytes t is
interface_is kind bytes (Err fault) is = of_fault interface_of Unreadable kind bytes fault is

pub targets_called : (file : ReadFile) (kind : FileKind) (bytes : List ℕ) → IsRead file kind bytes → call_targets file ≡ file_targets kind bytes
targets_called file kind bytes is = targets_are kind bytes file.tree is.given

pub interface_shown : (file : ReadFile) (kind : FileKind) (bytes : List ℕ) → IsRead file kind bytes → shown_by file ≡ file_interface kind bytes
interface_shown file kind bytes is = interface_is kind bytes file.tree is.given

pub document_read : (t : Tree) (kind : FileKind) (bytes : List ℕ) (answers : List (Option Interface)) → IsTree kind bytes t →
    document_faults (kind_in t) (root_of t) answers ≡ file_faults kind bytes answers
document_read t kind bytes answers is =
    ap (λ k. document_faults k (root_of t) answers) is.kind_is ∙ ap (faults_given kind bytes answers) (sym is.root_is)

-- ---- the calls that reading kept

targets_in : (read : Result Tree YamlFault) (calls : List FolderCall) → CallsGiven read calls → map (λ c. c.target) calls ≡ targets_read read
targets_in (Ok t) calls are = kept_targets (calls_in (kind_in t) (root_of t)) calls are
targets_in (Err fault) calls none = ap (map (λ c. c.target)) none

pub targets_kept : (file : ReadFile) (kind : FileKind) (bytes : List ℕ) → IsRead file kind bytes → map (λ c. c.target) file.calls.items ≡ file_targets kind bytes
targets_kept file kind bytes is = targets_in file.tree file.calls.items is.calls ∙ targets_are kind bytes file.tree is.given

faults_in : (kind : FileKind) (bytes : List ℕ) (read : Result Tree YamlFault) (calls : List FolderCall) → IsGiven kind bytes read → CallsGiven read calls →
    map (λ c. c.fault) calls ≡ file_sites kind bytes
faults_in kind bytes (Ok t) calls is are =
    kept_faults (calls_in (kind_in t) (root_of t)) calls are
    ∙ of_tree sites_in_tree [] kind bytes t is
faults_in kind bytes (Err fault) calls is none = ap (map (λ c. c.fault)) none ∙ of_fault sites_in_tree [] kind bytes fault is

faults_kept : (file : ReadFile) (kind : FileKind) (bytes : List ℕ) → IsRead file kind bytes → map (λ c. c.fault) file.calls.items ≡ file_sites kind bytes
faults_kept file kind bytes is = faults_in kind bytes file.tree file.calls.items is.given is.calls

-- the calls that are kept of a file are its calls
pub calls_kept_of : (unit : Unit) (kind : FileKind) (bytes : List ℕ) → IsUnit unit kind bytes → HasCalls (calls_kept unit) kind bytes
calls_kept_of (unit.Whole file) kind bytes is = record { targets = targets_kept file kind bytes is; sites = faults_kept file kind bytes is }
calls_kept_of (unit.Brief brief) kind bytes is = is.calls
calls_kept_of (unit.Checked checked) kind bytes is = is.calls

-- a file that was read without a call of a file in the folder
pub none_called : (file : ReadFile) (kind : FileKind) (bytes : List ℕ) → IsRead file kind bytes → length file.calls.items ≡ 0 → HasCalls [] kind bytes
none_called file kind bytes is none = let has = calls_kept_of (unit.Whole file) kind bytes is in rw (nil_from_length file.calls.items none) at has

pub call_inside : (calls : List FolderCall) (kind : FileKind) (bytes : List ℕ) (call : ℕ) → HasCalls calls kind bytes → call < length (file_targets kind bytes) → call < length calls
call_inside calls kind bytes call has lt =
    let kept : length (map (λ c. c.target) calls) ≡ length (file_targets kind bytes) = ap length has.targets in
    let all : length (map (λ c. c.target) calls) ≡ length calls = length-map calls (λ c. c.target) in
    omega (arith, lt, kept, all)

-- the fault of the call with this number
pub site_kept : (calls : List FolderCall) (kind : FileKind) (bytes : List ℕ) (call : ℕ) (found : FolderCall) → HasCalls calls kind bytes → found ≡ get_or calls call found →
    call < length calls → slice_get (file_sites kind bytes) call ≡ Some found.fault
site_kept calls kind bytes call found has read lt =
    ap (λ l. slice_get l call) (sym has.sites) ∙ slice_get-map (λ c. c.fault) calls call
    ∙ ap (option_map (λ c. c.fault)) (slice_get-get_or calls call found lt ∙ ap Some (sym read))

-- a fault with one argument
pub record IsNamed (fault : Fault) : Type 0 where
  pub text : List ℕ
  pub is : fault.args ≡ text ∷ []

cycles_named : (cs : List uses.Call) → AllByRecursion IsNamed (cycle_faults cs)
cycles_named [] = tt
cycles_named (c ∷ cs) = put (target_in c.form) (cycles_named cs)
  where
    put : (o : Option Target) → AllByRecursion IsNamed (cycle_faults cs) → AllByRecursion IsNamed (cons_option (option_map (λ t. that_uses CallCycle c) o) (cycle_faults cs))
    put None rest = rest
    put (Some t) rest = (record { text = utf8_lossy c.text; is = refl }, rest)

sites_named : (kind : FileKind) (read : Result Node FaultAt) → AllByRecursion IsNamed (of_reading sites_in_tree [] kind read)
sites_named kind (Ok root) = cycles_named (calls_in kind root)
sites_named kind (Err fault) = tt

pub site_named : (calls : List FolderCall) (kind : FileKind) (bytes : List ℕ) (call : ℕ) (found : FolderCall) → HasCalls calls kind bytes → found ≡ get_or calls call found →
    call < length calls → IsNamed found.fault
site_named calls kind bytes call found has read lt =
    let there = mapped_in (λ c. c.fault) calls call found lt read in
    All-contains IsNamed (file_sites kind bytes) found.fault (All-from_recursion IsNamed (file_sites kind bytes) (sites_named kind (tree_of bytes)))
    (subst (λ l. Contains l found.fault) has.sites there)
