-- Reading flow collections keeps the invariants of `NodeReading`.
use Rattle.std.proofs.Common.{◌≡◌, inl, inr, ℕ, zero, suc, ◌+◌, ◌<◌, ◌≤◌, List, refl, arith, Bool, true, false, not, ◌&&◌, ◌||◌}
use Rattle.std.proofs.Common.{Option, Some, None}
use Rattle.al_base.specs.declared.codes.YamlCode.TheVariants as yaml
use Rattle.al_base.specs.declared.faults.Span.{Span}
use Rattle.al_base.specs.Ascii.{ascii}
use Rattle.al_scalar.specs.Line.{Line, start, after_blanks, begins, past}
use Rattle.al_scalar.specs.Places.{first_text}
use Rattle.al_scalar.specs.Plain.{flow, is_value_colon}
use Rattle.al_scalar.specs.Scalar.{ScalarRead, scalar_at}
use Rattle.al_scalar.proofs.OffsetLemmas.{choose}
use Rattle.std.proofs.lemmas.Bool.{and_parts, or_cases}
use Rattle.al_yaml_tree.specs.Content.{is_file_end, flow_fault, is_flow_start, starts_quoted, is_property, is_simple_key, anchor_name, after_name, has_no_name}
use Rattle.al_yaml_tree.specs.Flow.{FlowSlot, FlowReader, CollectionReader, gap, empty_node}
use Rattle.al_yaml_tree.specs.Flow.{rest_after, flow_items, is_key_colon, after_colon_in_flow, flow_value, FlowKey}
use Rattle.al_yaml_tree.specs.Flow.{is_late_colon, unless_late, key_colon, flow_key, flow_entry_value}
use Rattle.al_yaml_tree.specs.Flow.{flow_entries, flow_content, flow_property, flow_node_over, flow_collection}
use Rattle.al_yaml_tree.specs.Node.{Node, Nodes, Entries, sequence, mapping, no_nodes, with_item, no_entries, with_entry, scalar_node}
use Rattle.al_yaml_tree.specs.Reading.{Reading, gives, fails, of_result, starting_scalar, gives_with_anchor, Part, part, ◌>>=◌}
use Rattle.al_yaml_tree.proofs.LeftLines.{File, AreLeft, IsRead, OptionLeft, left-lower, left-start, starts-after, starts-in, is-inside}
use Rattle.al_yaml_tree.proofs.LeftLines.{left-gap, left-first, left-bracket, left-name, left-colon, scalar-read}
use Rattle.al_yaml_tree.proofs.NodeReading.{IsDone, Grows, no-items, no-entries, items-grow, entries-grow, IsPart, same, IsNode, AreItems}
use Rattle.al_yaml_tree.proofs.NodeReading.{AreEntries, whole-part, read-part, part-lower, item-done, entry-done, Reads, reads-value, reads-fault}
use Rattle.al_yaml_tree.proofs.NodeReading.{reads-given, reads-then, reads-start, reads-one, reads-unless, reads-by, reads-also, empty-reads, collected}
use Rattle.al_yaml_tree.proofs.NodeReading.{alias-reads, anchored-reads}
use Rattle.al_yaml_tree.proofs.ScalarSpans.{Answers}
use Rattle.al_yaml_tree.proofs.TextLines.{solid-colon, value-colon}

abbrev pub CollectionIn : File → CollectionReader → Type 0
CollectionIn f collection = (depth low : ℕ) (ls : List Line) → is_flow_start (first_text ls) ≡ true → AreLeft f low ls
    → Reads f (IsNode f low) (collection depth ls)

-- an empty node would be at this offset
abbrev EmptyAt : ℕ → Option ℕ → Type 0
EmptyAt low None = Unit {0}
EmptyAt low (Some at) = low ≡ at

abbrev SlotIn : File → ℕ → FlowSlot → Type 0
SlotIn f low slot = (slot.opening ≤ f.size) × EmptyAt low slot.empty

abbrev FlowIn : File → FlowReader → Type 0
FlowIn f node = (slot : FlowSlot) (depth low : ℕ) (ls : List Line) → SlotIn f low slot → AreLeft f low ls
    → Reads f (IsNode f low) (node slot depth ls)

abbrev FlowKeyIn : File → ℕ → FlowKey → Type 0
FlowKeyIn f low key = IsRead f low key.read × OptionLeft f key.read.scalar.span.end key.after

key_colon-stands : (after_quote : Bool) (ls : List Line) → is_key_colon after_quote ls ≡ true → begins (ascii ":") (after_blanks (first_text ls)) ≡ true
key_colon-stands after_quote ls e =
    elim (or_cases (after_quote && begins (ascii ":") (first_text ls)) (is_value_colon flow (after_blanks (first_text ls))) e) [
      | inl h ↦ solid-colon (first_text ls) (and_parts after_quote (begins (ascii ":") (first_text ls)) h).1
      | inr h ↦ value-colon flow (after_blanks (first_text ls)) h
    ]

late-in : (f : File) (low : ℕ) (ls : List Line) (r : ScalarRead) (o : Option (List Line)) → start ls ≤ f.size → OptionLeft f low o
    → Answers f.size (OptionLeft f low) (unless_late ls r o)
late-in f low ls r (Some left) a h = h
late-in f low ls r None a h = choose (Answers f.size (OptionLeft f low)) (is_late_colon r.left) (λ _. a) (λ _. tt)

-- a scalar read as a key
abbrev key_with : List Line → ScalarRead → Option (List Line) → Reading FlowKey
key_with ls r colon = starting_scalar (start ls) (gives (record { read = r; after = colon }))

module _ {f : File} where
  -- ---- after an item

  closed-in : (q low : ℕ) (ls : List Line) → q < 128 → begins q (first_text ls) ≡ true → AreLeft f low ls
      → (low ≤ start ls + 1) × AreLeft f (start ls + 1) (past 1 ls)
  closed-in q low ls a e h = let b = starts-after h in (omega (arith, b), left-first q a e h)

  -- items or entries after those that are done, given the property of what reads the remaining ones
  module _ {A : Type 0} {g : A → Span → Node} (grows : Grows f g) (from low : ℕ) (done : A) (d : IsDone f g from low done) where
    closed-part : (end : ℕ) (ls : List Line) → (low ≤ end) × AreLeft f end ls → IsPart f g same from (part done end ls)
    closed-part end ls h = whole-part (grows from low end done h.0 (is-inside h.1) d) h.1

    rest-reads : (more : List Line → Reading (Part A)) (opening close : ℕ) (left : List Line) → opening ≤ f.size → close < 128
        → ((ls : List Line) → AreLeft f low ls → Reads f (IsPart f g same from) (more ls)) → AreLeft f low left
        → Reads f (IsPart f g same from) (rest_after close more opening done left)
    rest-reads more opening close left o a m h =
        let ls = gap false left in
        let k : AreLeft f low ls = left-gap h in
        reads-by (is_file_end ls) (λ _. reads-fault o)
        (λ _. reads-by (begins (ascii ",") (first_text ls))
        (λ e. let b = closed-in (ascii ",") low ls (omega arith) e k in m (gap false (past 1 ls)) (left-gap (left-lower b.0 b.1)))
        (λ _. reads-by (begins close (first_text ls))
        (λ e. reads-value (closed-part (start ls + 1) (past 1 ls) (closed-in close low ls a e k))) (λ _. reads-fault (starts-in k))))

  -- ---- keys

  after_colon-in : (after_quote : Bool) (low : ℕ) (ls : List Line) → AreLeft f low ls → OptionLeft f low (after_colon_in_flow after_quote ls)
  after_colon-in after_quote low ls h =
      choose (OptionLeft f low) (is_key_colon after_quote ls) (λ e. left-colon (key_colon-stands after_quote ls e) h) (λ _. tt)

  key_colon-in : (low : ℕ) (ls : List Line) (r : ScalarRead) → start ls ≤ f.size → AreLeft f low r.left
      → Answers f.size (OptionLeft f low) (key_colon ls r)
  key_colon-in low ls r a h =
      choose (Answers f.size (OptionLeft f low)) (not (is_simple_key ls r)) (λ _. a)
      (λ _. late-in f low ls r (after_colon_in_flow (starts_quoted (first_text ls)) r.left) a (after_colon-in (starts_quoted (first_text ls)) low r.left h))

  colon_key-in : (low : ℕ) (ls : List Line) (r : ScalarRead) → start ls ≤ f.size → IsRead f low r
      → Reads f (FlowKeyIn f low) (of_result (key_colon ls r) >>= key_with ls r)
  colon_key-in low ls r a h =
      reads-then {g = key_with ls r}
      (reads-given (OptionLeft f r.scalar.span.end) (key_colon ls r) (key_colon-in r.scalar.span.end ls r a h.left))
      (λ colon k. reads-one a (h, k))

  flow_key-in : (collection : CollectionReader) → CollectionIn f collection → (depth low : ℕ) (ls : List Line) → AreLeft f low ls
      → Reads f (FlowKeyIn f low) (flow_key collection depth ls)
  unfolding flow_key
  flow_key-in collection c depth low ls h =
      let a = starts-in h in
      reads-unless (flow_fault (first_text ls)) (start ls) a
      (reads-by (is_property (first_text ls)) (λ _. reads-fault a)
      (λ _. reads-by (is_flow_start (first_text ls)) (λ e. reads-then {g = λ (x : Part Node). fails yaml.WrongKey (start ls)} (c depth low ls e h) (λ x k. reads-fault a))
      (λ _. reads-then (reads-given (IsRead f low) (scalar_at flow ls) (scalar-read flow low ls h)) (λ r k. colon_key-in low ls r a k))))

  -- ---- nodes in a collection, given the property of what reads a node

  module _ (node : FlowReader) (n : FlowIn f node) where
    flow_value-in : (slot : FlowSlot) (depth low : ℕ) (ls : List Line) → SlotIn f low slot → AreLeft f low ls
        → Reads f (IsNode f low) (flow_value node slot depth ls)
    flow_value-in slot depth low ls s h =
        reads-by (is_file_end ls) (λ _. reads-fault s.0)
        (λ _. reads-by (begins (ascii ",") (first_text ls) || begins (ascii "}") (first_text ls))
        (λ _. by-empty slot.empty s.1) (λ _. n slot depth low ls s h))
      where
        by-empty : (o : Option ℕ) → EmptyAt low o
            → Reads f (IsNode f low) (elim o [ None ↦ fails yaml.UnexpectedCharacter (start ls) | Some at ↦ empty_node at ls ])
        by-empty None e = reads-fault (starts-in h)
        by-empty (Some at) e =
            let a = is-inside h in empty-reads (omega (arith, e)) (omega (arith, a, e)) (left-lower (omega (arith, e)) h)

    value_after-in : (opening depth : ℕ) (key : ScalarRead) → opening ≤ f.size → AreLeft f key.scalar.span.end key.left
        → (o : Option (List Line)) → OptionLeft f key.scalar.span.end o
        → Reads f (IsNode f key.scalar.span.end) (elim o [
          | None ↦ empty_node key.scalar.span.end key.left
          | Some left ↦ flow_value node (record { opening = opening; empty = Some (start left) }) depth (gap false left)
        ])
    value_after-in opening depth key o h None k = empty-reads (omega arith) (is-inside h) h
    value_after-in opening depth key o h (Some left) k =
        reads-also (flow_value-in (record { opening = opening; empty = Some (start left) }) depth (start left) (gap false left) (o, refl)
        (left-gap (left-start k))) (λ p i. part-lower (starts-after k) i)

    entry_value-in : (opening depth low : ℕ) (key : FlowKey) → opening ≤ f.size → FlowKeyIn f low key
        → Reads f (IsNode f key.read.scalar.span.end) (flow_entry_value node opening depth key)
    unfolding flow_entry_value
    entry_value-in opening depth low key o h = value_after-in opening depth key.read o h.0.left key.after h.1

    items-in : (turns opening depth from low : ℕ) (done : Nodes) (ls : List Line) → opening ≤ f.size → IsDone f sequence from low done
        → AreLeft f low ls → Reads f (AreItems f from) (flow_items node turns opening depth done ls)
    unfolding flow_items
    items-in zero opening depth from low done ls o d h = reads-fault (omega arith)
    items-in (suc turns) opening depth from low done ls o d h =
        reads-by (is_file_end ls) (λ _. reads-fault o)
        (λ _. reads-by (begins (ascii "]") (first_text ls))
        (λ e. reads-value (closed-part items-grow from low done d (start ls + 1) (past 1 ls)
        (closed-in (ascii "]") low ls (omega arith) e h)))
        (λ _. reads-then (n (record { opening = opening; empty = None }) depth low ls (o, tt) h)
        (λ x k. let i = item-done d k in
        rest-reads items-grow from x.end (with_item done x.value) i
        (λ left. flow_items node turns opening depth (with_item done x.value) left) opening (ascii "]") x.left o (omega arith)
        (λ left v. items-in turns opening depth from x.end (with_item done x.value) left o i v) k.left)))

    module _ (collection : CollectionReader) (c : CollectionIn f collection) where
      entries-in : (turns opening depth from low : ℕ) (done : Entries) (ls : List Line) → opening ≤ f.size → IsDone f mapping from low done
          → AreLeft f low ls → Reads f (AreEntries f from) (flow_entries node collection turns opening depth done ls)
      unfolding flow_entries
      entries-in zero opening depth from low done ls o d h = reads-fault (omega arith)
      entries-in (suc turns) opening depth from low done ls o d h =
          reads-by (is_file_end ls) (λ _. reads-fault o)
          (λ _. reads-by (begins (ascii "}") (first_text ls))
          (λ e. reads-value (closed-part entries-grow from low done d (start ls + 1) (past 1 ls)
          (closed-in (ascii "}") low ls (omega arith) e h)))
          (λ _. reads-then (flow_key-in collection c depth low ls h)
          (λ key k. reads-then (entry_value-in opening depth low key o k)
          (λ x v. let i = entry-done d k.0 v in
          rest-reads entries-grow from x.end (with_entry done key.read.scalar x.value) i
          (λ left. flow_entries node collection turns opening depth (with_entry done key.read.scalar x.value) left)
          opening (ascii "}") x.left o (omega arith)
          (λ left w. entries-in turns opening depth from x.end (with_entry done key.read.scalar x.value) left o i w) v.left))))

  -- ---- nodes and collections

  module _ (collection : CollectionReader) (c : CollectionIn f collection) where
    content-in : FlowIn f (flow_content collection)
    unfolding flow_content
    content-in slot depth low ls s h =
        let a = starts-in h in
        reads-unless (flow_fault (first_text ls)) (start ls) a
        (reads-by (is_property (first_text ls)) (λ _. reads-fault a)
        (λ _. reads-by (is_flow_start (first_text ls)) (λ e. c depth low ls e h)
        (λ _. reads-start a (reads-then {g = λ (r : ScalarRead). gives (part (scalar_node r) r.scalar.span.end r.left)}
        (reads-given (IsRead f low) (scalar_at flow ls) (scalar-read flow low ls h)) (λ r k. reads-value (read-part k k.left))))))

    property-in : (slot : FlowSlot) (depth low : ℕ) (ls : List Line) → is_property (first_text ls) ≡ true → SlotIn f low slot
        → AreLeft f low ls → Reads f (IsNode f low) (flow_property collection slot depth ls)
    unfolding flow_property
    property-in slot depth low ls e s h =
        let a = starts-in h in
        let rest = after_name ls in
        let v = left-name e h in
        reads-by (has_no_name ls) (λ _. reads-fault a)
        (λ _. reads-by (begins (ascii "*") (first_text ls))
        (λ _. reads-then {g = λ (n : Node). gives (part n (start rest) rest)} (alias-reads (anchor_name ls) (start ls) depth a)
        (λ n k. reads-value (whole-part (record { ordered = starts-after v; lies = k low (start rest) }) (left-start v))))
        (λ _. reads-then {g = λ (x : Part Node). gives_with_anchor (record { name = anchor_name ls; at = start ls; node = x.value }) x}
        (flow_value-in (flow_content collection) content-in slot depth low (gap false rest) s (left-gap v))
        (λ x k. anchored-reads (record { name = anchor_name ls; at = start ls; node = x.value }) k.done.lies k)))

    node-in : FlowIn f (flow_node_over collection)
    node-in slot depth low ls s h =
        reads-by (is_property (first_text ls)) (λ e. property-in slot depth low ls e s h) (λ _. content-in slot depth low ls s h)

  pub flow_collection-in : (bound : ℕ) → CollectionIn f (flow_collection bound)
  unfolding flow_collection
  flow_collection-in zero depth low ls e h = reads-fault (omega arith)
  flow_collection-in (suc bound) depth low ls e h =
      let c : CollectionIn f (flow_collection bound) = λ d l ms i v. flow_collection-in bound d l ms i v in
      let k = flow_collection bound in
      let n : FlowIn f (flow_node_over k) = node-in k c in
      let at = start ls in
      let a = starts-in h in
      let v = left-gap (left-bracket e (left-start h)) in
      let inside = gap false (past 1 ls) in
      reads-start a
      (reads-by (begins (ascii "[") (first_text ls))
      (λ _. collected (starts-after h) (items-in (flow_node_over k) n (suc bound) at (depth + 1) at at no_nodes inside a (no-items at a) v))
      (λ _. collected (starts-after h)
      (entries-in (flow_node_over k) n k c (suc bound) at (depth + 1) at at no_entries inside a (no-entries at a) v)))
