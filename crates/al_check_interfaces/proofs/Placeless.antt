-- A tree without spans has the same interface as the tree; for the law `interfaces_of_trees`.
use Rattle.std.proofs.Common.{◌≡◌, ℕ, List, [], ◌∷◌, ◌++◌, map, Bool, true, false, not, refl, ap, ◌∙◌, Option, Some, None, option_map}
use Rattle.std.specs.Prelude.{codes, cond, find, if◌then◌else◌, is_some, option_and_then, ◌||◌}
use Rattle.std.specs.Bool.{then_some}
use Rattle.std.specs.List.{cons_option, filter_map, list_any}
use Rattle.std.specs.Option.{option_map_or, option_to_list}
use Rattle.std.specs.Str.{bytes_eq}
use Rattle.al_base.specs.Names.{among, same_name}
use Rattle.al_scalar.specs.Line.{Cell}
use Rattle.al_scalar.specs.Scalar.{Scalar, text_of}
use Rattle.al_yaml_tree.specs.Access.{entries, nodes, scalar_in}
use Rattle.al_yaml_tree.specs.Node.{Node, Nodes, Entries, scalar, sequence, mapping, no_nodes, item, no_entries, entry}
use Rattle.al_tree.specs.Faults.{is_key, is_null, value_in}
use Rattle.al_tree.specs.Keys.{key_of}
use Rattle.al_tree.specs.Values.{firsts_by, text_in, texts_in, value_at, value_below}
use Rattle.al_tree.specs.declared.files.FileKind.{FileKind}
use Rattle.al_tree.specs.declared.files.FileKind.TheVariants as kind
use Rattle.al_tree.specs.Declarations.{declared_below, declared_in, named_among}
use Rattle.al_tree.specs.Inputs.{input_named}
use Rattle.al_tree.specs.declared.inputs.InputType.TheVariants as input
use Rattle.al_check_interfaces.specs.Interfaces.{has_default, is_required, is_true, name_of, names_call, of_call, parameter, says_call, signature_of, type_taken}
use Rattle.al_check_interfaces.specs.Placeless.{ShowsNoPlaces, ShowsNothingElse, placeless, placeless_entries, placeless_items, placeless_scalar}
use Rattle.al_check_interfaces.specs.declared.interfaces.Interface.TheVariants.{Readable}
use Rattle.al_check_interfaces.specs.declared.interfaces.Role.TheVariants as role
use Rattle.al_check_interfaces.specs.declared.signatures.Declaring.{Declaring}
use Rattle.al_check_interfaces.specs.declared.signatures.Declaring.TheVariants as declared

-- the texts are the same

bytes_same : (cs : List Cell) → map (λ (c : Cell). c.0) (map (λ (c : Cell). (c.0, 0)) cs) ≡ map (λ (c : Cell). c.0) cs
bytes_same [] = refl
bytes_same (c ∷ cs) = ap (λ xs. c.0 ∷ xs) (bytes_same cs)

text_same : (s : Scalar) → text_of (placeless_scalar s) ≡ text_of s
text_same s = bytes_same s.cells

-- ---- functions of the parts of a node that depend only on texts

module _ {X : Type 0} (f : Option Scalar → X) (same : (s : Scalar) → f (Some (placeless_scalar s)) ≡ f (Some s)) where
  of_scalar : (n : Node) → f (scalar_in (placeless n)) ≡ f (scalar_in n)
  of_scalar (scalar s) = same s
  of_scalar (sequence ns at) = refl
  of_scalar (mapping es at) = refl

  of_text_unless : (null : Bool) (s : Scalar) → f (then_some (not null) (placeless_scalar s)) ≡ f (then_some (not null) s)
  of_text_unless true s = refl
  of_text_unless false s = same s

  of_text : (n : Node) → f (text_in (placeless n)) ≡ f (text_in n)
  of_text (scalar s) = of_text_unless (is_null s) s
  of_text (sequence ns at) = refl
  of_text (mapping es at) = refl

module _ {X : Type 0} (f : Option Node → X) (same : (n : Node) → f (Some (placeless n)) ≡ f (Some n)) where
  of_first : (here : Bool) (key : Scalar) (v : Node) (others rest : Option (Scalar × Node)) → f (option_map (λ e. e.1) others) ≡ f (option_map (λ e. e.1) rest) →
      f (option_map (λ e. e.1) (cond here (Some (placeless_scalar key, placeless v)) others)) ≡ f (option_map (λ e. e.1) (cond here (Some (key, v)) rest))
  of_first true key v others rest h = same v
  of_first false key v others rest h = h

  of_found : (k : List ℕ) (es : Entries) → f (value_in k (entries (placeless_entries es))) ≡ f (value_in k (entries es))
  of_found k no_entries = refl
  of_found k (entry key v es) =
      let others = find (is_key k) (entries (placeless_entries es)) in
      ap (λ t. f (option_map (λ e. e.1) (cond (bytes_eq t k) (Some (placeless_scalar key, placeless v)) others))) (text_same key)
      ∙ of_first (bytes_eq (text_of key) k) key v others (find (is_key k) (entries es)) (of_found k es)

  of_value : (k : List ℕ) (n : Node) → f (value_at k (placeless n)) ≡ f (value_at k n)
  of_value k (mapping es at) = of_found k es
  of_value k (scalar s) = refl
  of_value k (sequence ns at) = refl

of_below : {X : Type 0} (f : Option Node → X) → ((n : Node) → f (Some (placeless n)) ≡ f (Some n)) → (ks : List (List ℕ)) (n : Node) →
    f (value_below ks (placeless n)) ≡ f (value_below ks n)
of_below f same [] n = same n
of_below f same (k ∷ ks) n = of_value (λ o. f (option_and_then (value_below ks) o)) (of_below f same ks) k n

of_text_at : {X : Type 0} (f : Option Scalar → X) → ((s : Scalar) → f (Some (placeless_scalar s)) ≡ f (Some s)) →
    (k : List ℕ) (n : Node) → f (option_and_then text_in (value_at k (placeless n))) ≡ f (option_and_then text_in (value_at k n))
of_text_at f same k n = of_value (λ o. f (option_and_then text_in o)) (of_text f same) k n

-- ---- declared names: the first of equal ones

abbrev placeless_entry : Scalar × Node → Scalar × Node
placeless_entry e = (placeless_scalar e.0, placeless e.1)

entries_same : (es : Entries) → entries (placeless_entries es) ≡ map placeless_entry (entries es)
entries_same no_entries = refl
entries_same (entry k v es) = ap (λ ds. (placeless_scalar k, placeless v) ∷ ds) (entries_same es)

firsts_step : (b : Bool) (e : Scalar × Node) (es : List (Scalar × Node)) →
    (if b then [] else placeless_entry e ∷ []) ++ map placeless_entry es ≡ map placeless_entry ((if b then [] else e ∷ []) ++ es)
firsts_step true e es = refl
firsts_step false e es = refl

firsts_same : (is_in : List (List ℕ) → List ℕ → Bool) (seen : List (List ℕ)) (es : List (Scalar × Node)) →
    firsts_by is_in seen (map placeless_entry es) ≡ map placeless_entry (firsts_by is_in seen es)
firsts_same is_in seen [] = refl
firsts_same is_in seen (e ∷ es) =
    ap (λ k. (if is_in seen k then [] else placeless_entry e ∷ []) ++ firsts_by is_in (seen ++ k ∷ []) (map placeless_entry es)) (text_same e.0)
    ∙ ap (λ ds. (if is_in seen (key_of e) then [] else placeless_entry e ∷ []) ++ ds) (firsts_same is_in (seen ++ key_of e ∷ []) es)
    ∙ firsts_step (is_in seen (key_of e)) e (firsts_by is_in (seen ++ key_of e ∷ []) es)

declared_same : (n : Node) → declared_in (placeless n) ≡ map placeless_entry (declared_in n)
declared_same (mapping es at) =
    ap (λ l. firsts_by named_among [] (firsts_by among [] l)) (entries_same es) ∙ ap (firsts_by named_among []) (firsts_same among [] (entries es))
    ∙ firsts_same named_among [] (firsts_by among [] (entries es))
declared_same (scalar s) = refl
declared_same (sequence ns at) = refl

module _ {X : Type 0} (f : Scalar × Node → X) (same : (e : Scalar × Node) → f (placeless_entry e) ≡ f e) where
  of_entries : (es : List (Scalar × Node)) → map f (map placeless_entry es) ≡ map f es
  of_entries [] = refl
  of_entries (e ∷ es) = λ i. same e i ∷ of_entries es i

  of_declared : (ks : List (List ℕ)) (n : Node) → map f (declared_below ks (placeless n)) ≡ map f (declared_below ks n)
  of_declared = of_below (λ o. map f (option_map_or declared_in o [])) (λ n. ap (map f) (declared_same n) ∙ of_entries (declared_in n))

-- ---- interfaces

required_same : (n : Node) → is_required (placeless n) ≡ is_required n
required_same =
    of_value (λ o. option_map_or is_true o false)
    (of_scalar (λ o. option_map_or (λ s. same_name (text_of s) (codes "true")) o false) (λ s. ap (λ t. same_name t (codes "true")) (text_same s))) (codes "required")

default_same : (by : Declaring) (n : Node) → has_default by (placeless n) ≡ has_default by n
default_same declared.CallInputs n = of_value is_some (λ v. refl) (codes "default") n
default_same declared.ActionInputs n = of_value is_some (λ v. refl) (codes "default") n
default_same declared.Secrets n = refl

taken_same : (by : Declaring) (n : Node) → type_taken by (placeless n) ≡ type_taken by n
taken_same declared.CallInputs n =
    of_text_at (λ o. option_map_or (λ s. input_named (text_of s)) o input.String) (λ s. ap input_named (text_same s)) (codes "type") n
taken_same declared.ActionInputs n = refl
taken_same declared.Secrets n = refl

parameter_same : (by : Declaring) (e : Scalar × Node) → parameter by (placeless_entry e) ≡ parameter by e
parameter_same by e = λ d. record {
  name = text_same e.0 d;
  required = required_same e.1 d;
  has_default = default_same by e.1 d;
  takes = taken_same by e.1 d;
}

name_same : (n : Node) → name_of (placeless n) ≡ name_of n
name_same = of_text_at (option_map text_of) (λ s. ap Some (text_same s)) (codes "name")

any_more : (o : Option Scalar) (ts us : List Scalar) → list_any says_call ts ≡ list_any says_call us →
    list_any says_call (cons_option o ts) ≡ list_any says_call (cons_option o us)
any_more None ts us e = e
any_more (Some t) ts us e = ap (λ b. says_call t || b) e

says_same : (s : Scalar) (more : Bool) → (bytes_eq (text_of (placeless_scalar s)) (codes "workflow_call") || more) ≡ (bytes_eq (text_of s) (codes "workflow_call") || more)
says_same s more = ap (λ t. bytes_eq t (codes "workflow_call") || more) (text_same s)

any_item : (ns : Nodes) → list_any says_call (filter_map text_in (nodes (placeless_items ns))) ≡ list_any says_call (filter_map text_in (nodes ns))
any_item no_nodes = refl
any_item (item n ns) =
    let others = filter_map text_in (nodes (placeless_items ns)) in
    of_text (λ o. list_any says_call (cons_option o others)) (λ s. says_same s (list_any says_call others)) n
    ∙ any_more (text_in n) others (filter_map text_in (nodes ns)) (any_item ns)

any_text : (n : Node) → list_any says_call (texts_in (placeless n)) ≡ list_any says_call (texts_in n)
any_text (scalar s) = of_text (λ o. list_any says_call (option_to_list o)) (λ t. says_same t false) (scalar s)
any_text (sequence ns at) = any_item ns
any_text (mapping es at) = refl

call_same : (n : Node) → names_call (placeless n) ≡ names_call n
call_same n = λ i. any_text n i || of_value is_some (λ v. refl) (codes "workflow_call") n i

workflow_role_same : (n : Node) → (signature_of kind.Workflow (placeless n)).role ≡ (signature_of kind.Workflow n).role
workflow_role_same = of_value (λ o. if option_map_or names_call o false then role.Callable else role.Workflow)
    (λ n. ap (λ b. if b then role.Callable else role.Workflow) (call_same n)) (codes "on")

composite_same : (n : Node) → option_map_or (λ s. bytes_eq (text_of s) (codes "composite")) (scalar_in (placeless n)) false
    ≡ option_map_or (λ s. bytes_eq (text_of s) (codes "composite")) (scalar_in n) false
composite_same = of_scalar (λ o. option_map_or (λ s. bytes_eq (text_of s) (codes "composite")) o false) (λ s. ap (λ t. bytes_eq t (codes "composite")) (text_same s))

action_role_same : (n : Node) → (signature_of kind.Action (placeless n)).role ≡ (signature_of kind.Action n).role
action_role_same = of_below
    (λ o. if option_map_or (λ v. option_map_or (λ s. bytes_eq (text_of s) (codes "composite")) (scalar_in v) false) o false then role.Composite else role.Action)
    (λ n. ap (λ b. if b then role.Composite else role.Action) (composite_same n)) (codes "runs" ∷ codes "using" ∷ [])

signature_same : (k : FileKind) (n : Node) → signature_of k (placeless n) ≡ signature_of k n
signature_same kind.Workflow n = λ d. record {
  name = name_same n d;
  role = workflow_role_same n d;
  inputs = of_declared (parameter declared.CallInputs) (parameter_same declared.CallInputs) (of_call (codes "inputs")) n d;
  secrets = of_declared (parameter declared.Secrets) (parameter_same declared.Secrets) (of_call (codes "secrets")) n d;
  outputs = of_declared key_of (λ e. text_same e.0) (of_call (codes "outputs")) n d;
}
signature_same kind.Action n = λ d. record {
  name = name_same n d;
  role = action_role_same n d;
  inputs = of_declared (parameter declared.ActionInputs) (parameter_same declared.ActionInputs) (codes "inputs" ∷ []) n d;
  secrets = [];
  outputs = of_declared key_of (λ e. text_same e.0) (codes "outputs" ∷ []) n d;
}

pub no_places : ShowsNoPlaces
no_places k (mapping es at) = ap Readable (signature_same k (mapping es at))
no_places k (scalar s) = refl
no_places k (sequence ns at) = refl

-- ---- other keys of a declared name don't matter

default_by : (by : Declaring) (m n : Node) → value_at (codes "default") m ≡ value_at (codes "default") n → has_default by m ≡ has_default by n
default_by declared.CallInputs m n e = ap is_some e
default_by declared.ActionInputs m n e = ap is_some e
default_by declared.Secrets m n e = refl

taken_by : (by : Declaring) (m n : Node) → value_at (codes "type") m ≡ value_at (codes "type") n → type_taken by m ≡ type_taken by n
taken_by declared.CallInputs m n e =
    ap (λ o. option_map_or (λ s. input_named (text_of s)) (option_and_then text_in o) input.String) e
taken_by declared.ActionInputs m n e = refl
taken_by declared.Secrets m n e = refl

pub nothing_else : ShowsNothingElse
nothing_else by e f key required default ty = λ d. record {
  name = key d;
  required = option_map_or is_true (required d) false;
  has_default = default_by by e.1 f.1 default d;
  takes = taken_by by e.1 f.1 ty d;
}
