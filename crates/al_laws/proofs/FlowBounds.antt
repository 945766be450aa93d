-- Flow collections that are read with two bounds that suffice agree.
use Rattle.std.proofs.Common.{◌≡◌, ℕ, zero, suc, ◌+◌, ◌<◌, ◌≤◌, List, length, drop, arith, Bool, true, false, not, ◌||◌, Option, Some, None}
use Rattle.al_base.specs.declared.codes.YamlCode.TheVariants as yaml
use Rattle.al_base.specs.declared.faults.Span.{Span}
use Rattle.al_base.specs.Ascii.{ascii}
use Rattle.al_base.specs.Spans.{span}
use Rattle.al_scalar.specs.Line.{Line, start, begins, past}
use Rattle.al_scalar.specs.Places.{first_text}
use Rattle.al_scalar.specs.Plain.{flow}
use Rattle.al_scalar.specs.Scalar.{ScalarRead, scalar_at}
use Rattle.al_scalar.proofs.OffsetLemmas.{choose}
use Rattle.al_yaml_tree.specs.Content.{is_file_end, flow_fault, is_flow_start, starts_quoted, is_property, is_simple_key}
use Rattle.al_yaml_tree.specs.Content.{anchor_cells, anchor_name, after_name, has_no_name}
use Rattle.al_yaml_tree.specs.Flow.{FlowSlot, FlowReader, CollectionReader, gap, empty_node}
use Rattle.al_yaml_tree.specs.Flow.{rest_after, flow_items, is_key_colon, after_colon_in_flow, flow_value, FlowKey}
use Rattle.al_yaml_tree.specs.Flow.{is_late_colon, unless_late, key_colon, flow_key, flow_entry_value}
use Rattle.al_yaml_tree.specs.Flow.{flow_entries, flow_content, flow_property, flow_node_over, flow_collection}
use Rattle.al_yaml_tree.specs.Node.{Node, Nodes, Entries, sequence, mapping, no_nodes, with_item, no_entries, with_entry, scalar_node}
use Rattle.al_yaml_tree.specs.Reading.{Reading, gives, fails, of_result, starting_scalar, gives_with_anchor, Part, part, with_span, ◌>>=◌}
use Rattle.al_yaml_tree.proofs.LeftLines.{OptionLeft, left-lower, left-blanks, left-gap, is-inside}
use Rattle.al_laws.proofs.Agreeing.{Gives, Agree, agree-value, agree-fault, agree-given, agree-then, agree-start, agree-unless}
use Rattle.al_laws.proofs.Agreeing.{agree-by, agree-also, agree-alias, agree-anchored}
use Rattle.al_laws.proofs.Left.{of_size, Left, ReadAfter, past-left, past-one, past-bracket, scalar-after}

-- the lines after what was read are left
abbrev pub After : {A : Type 0} → ℕ → ℕ → Part A → Type 0
After size low p = Left size low p.left

-- the readers agree from an offset on
abbrev pub CollectionsAgree : ℕ → ℕ → CollectionReader → CollectionReader → Type 0
CollectionsAgree size from c d = (depth low : ℕ) (ls : List Line) → from ≤ low → is_flow_start (first_text ls) ≡ true → Left size low ls
    → Agree (After size low) (c depth ls) (d depth ls)

abbrev FlowsAgree : ℕ → ℕ → FlowReader → FlowReader → Type 0
FlowsAgree size from m n = (slot : FlowSlot) (depth low : ℕ) (ls : List Line) → from ≤ low → Left size low ls
    → Agree (After size low) (m slot depth ls) (n slot depth ls)

abbrev FlowKeyAfter : ℕ → ℕ → FlowKey → Type 0
FlowKeyAfter size low key = Left size low key.read.left × OptionLeft (of_size size) low key.after

-- a scalar read as a key
abbrev key_with : List Line → ScalarRead → Option (List Line) → Reading FlowKey
key_with ls r colon = starting_scalar (start ls) (gives (record { read = r; after = colon }))

late-after : (size low : ℕ) (ls : List Line) (r : ScalarRead) (o : Option (List Line)) → OptionLeft (of_size size) low o
    → Gives (OptionLeft (of_size size) low) (unless_late ls r o)
late-after size low ls r (Some left) h = h
late-after size low ls r None h = choose (Gives (OptionLeft (of_size size) low)) (is_late_colon r.left) (λ _. tt) (λ _. tt)

module _ {size : ℕ} where
  pub agree-empty : (at : ℕ) {low : ℕ} {ls : List Line} → Left size low ls → Agree (After size low) (empty_node at ls) (empty_node at ls)
  agree-empty at h = agree-start (agree-value h)

  pub agree-lower : {A : Type 0} {low : ℕ} {r s : Reading (Part A)} → Agree (After size (low + 1)) r s → Agree (After size low) r s
  agree-lower h = agree-also h (λ p k. left-lower (omega arith) k)

  pub agree-span : {A : Type 0} {low : ℕ} (g : A → Span → Node) (at : ℕ) {r s : Reading (Part A)} → Agree (After size low) r s
      → Agree (After size low) (with_span g at r) (with_span g at s)
  agree-span g at h = agree-then {g = λ p. gives (part (g p.value (span at p.end)) p.end p.left)}
      {h = λ p. gives (part (g p.value (span at p.end)) p.end p.left)} h (λ p k. agree-value k)

  -- ---- after an item

  rest-agree : {A : Type 0} (more more' : List Line → Reading (Part A)) (opening close low : ℕ) (done : A) (left : List Line) → close < 128
      → ((ls : List Line) → Left size (low + 1) ls → Agree (After size (low + 1)) (more ls) (more' ls)) → Left size low left
      → Agree (After size low) (rest_after close more opening done left) (rest_after close more' opening done left)
  rest-agree more more' opening close low done left a m h =
      let ls = gap false left in
      let k : Left size low ls = left-gap h in
      agree-by (is_file_end ls) (λ _. agree-fault)
      (λ _. agree-by (begins (ascii ",") (first_text ls))
      (λ e. agree-lower (m (gap false (past 1 ls)) (left-gap (past-one (ascii ",") (omega arith) e k))))
      (λ _. agree-by (begins close (first_text ls)) (λ e. agree-value (past-left 1 k)) (λ _. agree-fault)))

  -- ---- keys

  colon-after : (after_quote : Bool) (low : ℕ) (ls : List Line) → Left size low ls
      → OptionLeft (of_size size) low (after_colon_in_flow after_quote ls)
  colon-after after_quote low ls h =
      choose (OptionLeft (of_size size) low) (is_key_colon after_quote ls) (λ _. past-left 1 (left-blanks h)) (λ _. tt)

  key_colon-after : (low : ℕ) (ls : List Line) (r : ScalarRead) → Left size low r.left
      → Gives (OptionLeft (of_size size) low) (key_colon ls r)
  key_colon-after low ls r h =
      choose (Gives (OptionLeft (of_size size) low)) (not (is_simple_key ls r)) (λ _. tt)
      (λ _. late-after size low ls r (after_colon_in_flow (starts_quoted (first_text ls)) r.left)
      (colon-after (starts_quoted (first_text ls)) low r.left h))

  colon_key-agree : (low : ℕ) (ls : List Line) (r : ScalarRead) → Left size low r.left
      → Agree (FlowKeyAfter size low) (of_result (key_colon ls r) >>= key_with ls r) (of_result (key_colon ls r) >>= key_with ls r)
  colon_key-agree low ls r h =
      agree-then {g = key_with ls r} {h = key_with ls r}
      (agree-given (OptionLeft (of_size size) low) (key_colon ls r) (key_colon-after low ls r h)) (λ colon k. agree-start (agree-value (h, k)))

  flow_key-agree : (from : ℕ) (c d : CollectionReader) → CollectionsAgree size from c d → (depth low : ℕ) (ls : List Line) → from ≤ low
      → Left size low ls → Agree (FlowKeyAfter size low) (flow_key c depth ls) (flow_key d depth ls)
  unfolding flow_key
  flow_key-agree from c d both depth low ls b h =
      agree-unless (flow_fault (first_text ls)) (start ls)
      (agree-by (is_property (first_text ls)) (λ _. agree-fault)
      (λ _. agree-by (is_flow_start (first_text ls))
      (λ e. agree-then {g = λ (x : Part Node). fails yaml.WrongKey (start ls)} {h = λ (x : Part Node). fails yaml.WrongKey (start ls)}
      (both depth low ls b e h) (λ x k. agree-fault))
      (λ _. agree-then (agree-given (ReadAfter size low) (scalar_at flow ls) (scalar-after flow low ls h)) (λ r k. colon_key-agree low ls r k))))

  -- ---- nodes in a collection, given readers of nodes that agree

  module _ (from : ℕ) (m n : FlowReader) (both : FlowsAgree size from m n) where
    flow_value-agree : (slot : FlowSlot) (depth low : ℕ) (ls : List Line) → from ≤ low → Left size low ls
        → Agree (After size low) (flow_value m slot depth ls) (flow_value n slot depth ls)
    flow_value-agree slot depth low ls b h =
        agree-by (is_file_end ls) (λ _. agree-fault)
        (λ _. agree-by (begins (ascii ",") (first_text ls) || begins (ascii "}") (first_text ls))
        (λ _. by-empty slot.empty) (λ _. both slot depth low ls b h))
      where
        by-empty : (o : Option ℕ)
            → Agree {A = Part Node} (After size low) (elim o [ None ↦ fails yaml.UnexpectedCharacter (start ls) | Some at ↦ empty_node at ls ])
            (elim o [ None ↦ fails yaml.UnexpectedCharacter (start ls) | Some at ↦ empty_node at ls ])
        by-empty None = agree-fault
        by-empty (Some at) = agree-empty at h

    entry_value-agree : (opening depth low : ℕ) (read : ScalarRead) (o : Option (List Line)) → from ≤ low
        → FlowKeyAfter size low (record { read = read; after = o })
        → Agree (After size low) (flow_entry_value m opening depth (record { read = read; after = o }))
        (flow_entry_value n opening depth (record { read = read; after = o }))
    unfolding flow_entry_value
    entry_value-agree opening depth low read None b h = agree-empty read.scalar.span.end h.0
    entry_value-agree opening depth low read (Some left) b h =
        flow_value-agree (record { opening = opening; empty = Some (start left) }) depth low (gap false left) b (left-gap h.1)

    items-agree : (turns turns' opening depth low : ℕ) (done : Nodes) (ls : List Line) → from ≤ low → size < turns + low
        → size < turns' + low → Left size low ls
        → Agree (After size low) (flow_items m turns opening depth done ls) (flow_items n turns' opening depth done ls)
    unfolding flow_items
    items-agree zero turns' opening depth low done ls b a a' h = absurd (omega (arith, a, is-inside h))
    items-agree (suc turns) zero opening depth low done ls b a a' h = absurd (omega (arith, a', is-inside h))
    items-agree (suc turns) (suc turns') opening depth low done ls b a a' h =
        agree-by (is_file_end ls) (λ _. agree-fault)
        (λ _. agree-by (begins (ascii "]") (first_text ls)) (λ e. agree-value (past-left 1 h))
        (λ _. agree-then (both (record { opening = opening; empty = None }) depth low ls b h)
        (λ x k. rest-agree (λ left. flow_items m turns opening depth (with_item done x.value) left)
        (λ left. flow_items n turns' opening depth (with_item done x.value) left) opening (ascii "]") low (with_item done x.value) x.left
        (omega arith)
        (λ left v. items-agree turns turns' opening depth (low + 1) (with_item done x.value) left (omega (arith, b)) (omega (arith, a))
        (omega (arith, a')) v) k)))

    entries-agree : (c d : CollectionReader) → CollectionsAgree size from c d → (turns turns' opening depth low : ℕ) (done : Entries)
        (ls : List Line) → from ≤ low → size < turns + low → size < turns' + low → Left size low ls
        → Agree (After size low) (flow_entries m c turns opening depth done ls) (flow_entries n d turns' opening depth done ls)
    unfolding flow_entries
    entries-agree c d keys zero turns' opening depth low done ls b a a' h = absurd (omega (arith, a, is-inside h))
    entries-agree c d keys (suc turns) zero opening depth low done ls b a a' h = absurd (omega (arith, a', is-inside h))
    entries-agree c d keys (suc turns) (suc turns') opening depth low done ls b a a' h =
        agree-by (is_file_end ls) (λ _. agree-fault)
        (λ _. agree-by (begins (ascii "}") (first_text ls)) (λ e. agree-value (past-left 1 h))
        (λ _. agree-then (flow_key-agree from c d keys depth low ls b h)
        (λ key k. agree-then (entry_value-agree opening depth low key.read key.after b k)
        (λ x i. rest-agree (λ left. flow_entries m c turns opening depth (with_entry done key.read.scalar x.value) left)
        (λ left. flow_entries n d turns' opening depth (with_entry done key.read.scalar x.value) left) opening (ascii "}") low
        (with_entry done key.read.scalar x.value) x.left (omega arith)
        (λ left v. entries-agree c d keys turns turns' opening depth (low + 1) (with_entry done key.read.scalar x.value) left
        (omega (arith, b)) (omega (arith, a)) (omega (arith, a')) v) i))))

  -- ---- nodes and collections

  module _ (from : ℕ) (c d : CollectionReader) (both : CollectionsAgree size from c d) where
    content-agree : FlowsAgree size from (flow_content c) (flow_content d)
    unfolding flow_content
    content-agree slot depth low ls b h =
        agree-unless (flow_fault (first_text ls)) (start ls)
        (agree-by (is_property (first_text ls)) (λ _. agree-fault)
        (λ _. agree-by (is_flow_start (first_text ls)) (λ e. both depth low ls b e h)
        (λ _. agree-start (agree-then {g = λ (r : ScalarRead). gives (part (scalar_node r) r.scalar.span.end r.left)}
        {h = λ (r : ScalarRead). gives (part (scalar_node r) r.scalar.span.end r.left)}
        (agree-given (ReadAfter size low) (scalar_at flow ls) (scalar-after flow low ls h)) (λ r k. agree-value k)))))

    property-agree : FlowsAgree size from (flow_property c) (flow_property d)
    unfolding flow_property
    property-agree slot depth low ls b h =
        let rest = after_name ls in
        let v : Left size low rest = past-left (length (anchor_cells (drop 1 (first_text ls))) + 1) h in
        agree-by (has_no_name ls) (λ _. agree-fault)
        (λ _. agree-by (begins (ascii "*") (first_text ls))
        (λ _. agree-then {g = λ (n : Node). gives (part n (start rest) rest)} {h = λ (n : Node). gives (part n (start rest) rest)}
        (agree-alias (anchor_name ls) (start ls) depth) (λ n k. agree-value v))
        (λ _. agree-then {g = λ (x : Part Node). gives_with_anchor (record { name = anchor_name ls; at = start ls; node = x.value }) x}
        {h = λ (x : Part Node). gives_with_anchor (record { name = anchor_name ls; at = start ls; node = x.value }) x}
        (flow_value-agree from (flow_content c) (flow_content d) content-agree slot depth low (gap false rest) b (left-gap v))
        (λ x k. agree-anchored (record { name = anchor_name ls; at = start ls; node = x.value }) k)))

    node-agree : FlowsAgree size from (flow_node_over c) (flow_node_over d)
    node-agree slot depth low ls b h =
        agree-by (is_property (first_text ls)) (λ e. property-agree slot depth low ls b h) (λ _. content-agree slot depth low ls b h)

  pub flow_collection-agree : (n n' from : ℕ) → size < n + from → size < n' + from
      → CollectionsAgree size from (flow_collection n) (flow_collection n')
  unfolding flow_collection
  flow_collection-agree zero n' from a a' depth low ls b e h = absurd (omega (arith, a, b, is-inside h))
  flow_collection-agree (suc n) zero from a a' depth low ls b e h = absurd (omega (arith, a', b, is-inside h))
  flow_collection-agree (suc n) (suc n') from a a' depth low ls b e h =
      let c = flow_collection n in
      let d = flow_collection n' in
      let both : CollectionsAgree size (from + 1) c d =
      λ p l ms i j v. flow_collection-agree n n' (from + 1) (omega (arith, a)) (omega (arith, a')) p l ms i j v in
      let nodes : FlowsAgree size (from + 1) (flow_node_over c) (flow_node_over d) = node-agree (from + 1) c d both in
      let at = start ls in
      let inside = gap false (past 1 ls) in
      let v : Left size (low + 1) inside = left-gap (past-bracket e h) in
      agree-lower (agree-start (agree-by (begins (ascii "[") (first_text ls))
      (λ _. agree-span sequence at (items-agree (from + 1) (flow_node_over c) (flow_node_over d) nodes (suc n) (suc n') at (depth + 1) (low + 1)
      no_nodes inside (omega (arith, b)) (omega (arith, a, b)) (omega (arith, a', b)) v))
      (λ _. agree-span mapping at (entries-agree (from + 1) (flow_node_over c) (flow_node_over d) nodes c d both (suc n) (suc n') at (depth + 1)
      (low + 1) no_entries inside (omega (arith, b)) (omega (arith, a, b)) (omega (arith, a', b)) v))))
