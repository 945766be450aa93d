-- Block nodes that are read with two bounds that suffice agree.
use Rattle.std.proofs.Common.{◌≡◌, ℕ, zero, suc, ◌+◌, ◌<◌, ◌≤◌, List, length, drop, arith, Bool, true, false, not, ◌&&◌, ◌||◌, ◌==◌, nat_lt}
use Rattle.std.proofs.Common.{if◌then◌else◌, Option, Some, None}
use Rattle.al_base.specs.declared.codes.YamlCode.TheVariants as yaml
use Rattle.al_base.specs.Ascii.{ascii}
use Rattle.al_scalar.specs.Line.{Line, start, begins, blanks_dropped, past}
use Rattle.al_scalar.specs.Places.{first_text}
use Rattle.al_scalar.specs.Plain.{block}
use Rattle.al_scalar.specs.Scalar.{ScalarRead, scalar_at}
use Rattle.al_yaml_tree.specs.Blocks.{Spot, own_line, Slot, BlockReader, is_after_key, tab_before}
use Rattle.al_yaml_tree.specs.Blocks.{unless_tab, spot_after, is_deeper, node_found, node_below, rest_node, rest_found, rest_below}
use Rattle.al_yaml_tree.specs.Blocks.{entry_slot, sequence_entries, value_slot}
use Rattle.al_yaml_tree.specs.Blocks.{mapping_entries, scalar_node_at, ending_line}
use Rattle.al_yaml_tree.specs.Blocks.{block_sequence, block_mapping, block_content, block_property, block_node}
use Rattle.al_yaml_tree.specs.Content.{Next, ended, at_line, is_skipped, content, line_ended, whole_lines, is_dash}
use Rattle.al_yaml_tree.specs.Content.{block_fault, is_flow_start, is_property, is_simple_key, same_line, starts_quoted, characters}
use Rattle.al_yaml_tree.specs.Content.{anchor_cells, anchor_name, after_name, has_no_name, is_short_key}
use Rattle.al_yaml_tree.specs.Flow.{CollectionReader, flow_collection}
use Rattle.al_yaml_tree.specs.Keys.{Key, key_here, has_colon, is_block_start, is_on_key, collection_fault, no_entry, found_key, entry_key}
use Rattle.al_yaml_tree.specs.Node.{Node, Nodes, Entries, sequence, mapping, no_nodes, with_item, no_entries, with_entry, scalar_node}
use Rattle.al_yaml_tree.specs.Reading.{Reading, gives, fails, gives_with_anchor, Part, part, ◌>>=◌}
use Rattle.al_yaml_tree.proofs.LeftLines.{NextLeft, left-whole, left-blanks, is-inside, content-in, line_ended-in}
use Rattle.al_laws.proofs.Agreeing.{Agree, agree-value, agree-fault, agree-given, agree-then, agree-start, agree-unless, agree-by}
use Rattle.al_laws.proofs.Agreeing.{agree-alias, agree-anchored}
use Rattle.al_laws.proofs.FlowBounds.{After, CollectionsAgree, agree-empty, agree-lower, agree-span, flow_collection-agree}
use Rattle.al_laws.proofs.Left.{of_size, Left, ReadAfter, KeyAfter, OptionKeyAfter, given, past-left, past-dash, scalar-after, key-after}

-- the readers agree from an offset on
abbrev pub BlocksAgree : ℕ → ℕ → BlockReader → BlockReader → Type 0
BlocksAgree size from m n = (slot : Slot) (depth column low : ℕ) (ls : List Line) → from ≤ low → Left size low ls
    → Agree (After size low) (m slot depth column ls) (n slot depth column ls)

unless_tab-agree : {P : Part Node → Type 0} (o : Option ℕ) {r s : Reading (Part Node)} → Agree P r s
    → Agree P (unless_tab o r) (unless_tab o s)
unless_tab-agree (Some at) h = agree-fault
unless_tab-agree None h = h

module _ {size : ℕ} where
  -- ---- after an indicator, given readers of nodes that agree

  module _ (from : ℕ) (m n : BlockReader) (both : BlocksAgree size from m n) where
    found-agree : (slot : Slot) (depth low : ℕ) (ls : List Line) → from ≤ low → Left size low ls → (found : Next)
        → NextLeft (of_size size) low found
        → Agree (After size low) (node_found m slot depth ls found) (node_found n slot depth ls found)
    found-agree slot depth low ls b h ended k = agree-empty slot.empty h
    found-agree slot depth low ls b h (at_line i left) k =
        agree-by (is_deeper slot i left) (λ _. both (record slot { spot = own_line }) depth i low left b k) (λ _. agree-empty slot.empty h)

    pub below-agree : (slot : Slot) (depth low : ℕ) (ls : List Line) → from ≤ low → Left size low ls
        → Agree (After size low) (node_below m slot depth ls) (node_below n slot depth ls)
    below-agree slot depth low ls b h =
        agree-then (agree-given (NextLeft (of_size size) low) (content ls) (given size (NextLeft (of_size size) low) (content ls) (content-in low ls h)))
        (λ found k. found-agree slot depth low ls b h found k)

    rest-agree : (slot : Slot) (depth column low : ℕ) (ls rest : List Line) → from ≤ low → Left size low rest
        → Agree (After size low) (rest_node m slot depth column ls rest) (rest_node n slot depth column ls rest)
    rest-agree slot depth column low ls rest b h =
        let left = blanks_dropped rest in
        agree-by (is_skipped (first_text rest)) (λ _. below-agree slot depth low (whole_lines rest) b (left-whole h))
        (λ _. both (record slot { spot = spot_after (first_text rest) slot.spot }) depth (column + characters (start left) (first_text ls)) low
        left b (left-blanks h))

  -- ---- scalars and flow collections

  ending_line-agree : (low : ℕ) (x : Part Node) → After size low x → Agree (After size low) (ending_line x) (ending_line x)
  ending_line-agree low x h =
      agree-then {g = λ (left : List Line). gives (part x.value x.end left)} {h = λ (left : List Line). gives (part x.value x.end left)}
      (agree-given (Left size low) (line_ended x.left) (given size (Left size low) (line_ended x.left) (line_ended-in low x.left h)))
      (λ left v. agree-value v)

  after_scalar-agree : (is_block : Bool) (low : ℕ) (x : Part Node) → After size low x
      → Agree (After size low) ((if is_block then gives else ending_line) x) ((if is_block then gives else ending_line) x)
  after_scalar-agree true low x h = agree-value h
  after_scalar-agree false low x h = ending_line-agree low x h

  scalar_node-agree : (within low : ℕ) (ls : List Line) → Left size low ls
      → Agree (After size low) (scalar_node_at within ls) (scalar_node_at within ls)
  scalar_node-agree within low ls h =
      agree-start (agree-then (agree-given (ReadAfter size low) (scalar_at (block within) ls) (scalar-after (block within) low ls h))
      (λ r k. after_scalar-agree (is_block_start (first_text ls)) low (part (scalar_node r) r.scalar.span.end r.left) k))

  after_flow-agree : (spot : Spot) (at low : ℕ) (x : Part Node) → After size low x
      → Agree (After size low) (if not (is_after_key spot) && has_colon x.left then fails yaml.WrongKey at else ending_line x)
      (if not (is_after_key spot) && has_colon x.left then fails yaml.WrongKey at else ending_line x)
  after_flow-agree spot at low x h =
      agree-by (not (is_after_key spot) && has_colon x.left) (λ _. agree-fault) (λ _. ending_line-agree low x h)

  -- ---- an alias, or an anchor with its node

  property-agree : (from : ℕ) (m n : BlockReader) → BlocksAgree size from m n → BlocksAgree size from (block_property m) (block_property n)
  unfolding block_property
  property-agree from m n both slot depth column low ls b h =
      let rest = after_name ls in
      let v : Left size low rest = past-left (length (anchor_cells (drop 1 (first_text ls))) + 1) h in
      agree-by (has_no_name ls) (λ _. agree-fault)
      (λ _. agree-by (not (is_after_key slot.spot) && is_on_key ls) (λ _. agree-fault)
      (λ _. agree-by (begins (ascii "*") (first_text ls))
      (λ _. agree-then (agree-alias (anchor_name ls) (start ls) depth) (λ x k. ending_line-agree low (part x (start rest) rest) v))
      (λ _. agree-then {g = λ (x : Part Node). gives_with_anchor (record { name = anchor_name ls; at = start ls; node = x.value }) x}
      {h = λ (x : Part Node). gives_with_anchor (record { name = anchor_name ls; at = start ls; node = x.value }) x}
      (rest-agree from m n both slot depth column low ls rest b v)
      (λ x k. agree-anchored (record { name = anchor_name ls; at = start ls; node = x.value }) k))))

  -- ---- the remaining items or entries of a collection

  module _ {A : Type 0} (low : ℕ) (done : Part A) (h : After size low done) (column : ℕ) (more more' : Part A → List Line → Reading (Part A))
      (both : (ls : List Line) → Left size low ls → Agree (After size low) (more done ls) (more' done ls)) where
    rest_found-agree : (found : Next) → NextLeft (of_size size) low found
        → Agree (After size low) (rest_found column done more found) (rest_found column done more' found)
    rest_found-agree ended k = agree-value h
    rest_found-agree (at_line i left) k =
        agree-by (i == column) (λ _. both left k) (λ _. agree-by (nat_lt i column) (λ _. agree-value h) (λ _. agree-fault))

    rest_below-agree : Agree (After size low) (rest_below column done more) (rest_below column done more')
    rest_below-agree =
        agree-then (agree-given (NextLeft (of_size size) low) (content done.left)
        (given size (NextLeft (of_size size) low) (content done.left) (content-in low done.left h))) (λ found k. rest_found-agree found k)

  -- ---- lines that don't begin an entry, and the key of the next one

  module _ (from : ℕ) (c d : CollectionReader) (keys : CollectionsAgree size from c d) where
    no_entry-agree : {A : Type 0} {P : A → Type 0} (depth low : ℕ) (ls : List Line) → from ≤ low → Left size low ls
        → Agree P (no_entry c depth ls) (no_entry d depth ls)
    unfolding no_entry
    no_entry-agree depth low ls b h =
        agree-unless (block_fault (first_text ls)) (start ls)
        (agree-by (is_property (first_text ls)) (λ _. agree-fault)
        (λ _. agree-by (is_flow_start (first_text ls))
        (λ e. agree-then {g = λ (x : Part Node). fails yaml.UnexpectedCharacter (start ls)}
        {h = λ (x : Part Node). fails yaml.UnexpectedCharacter (start ls)} (keys depth low ls b e h) (λ x k. agree-fault))
        (λ _. agree-by (starts_quoted (first_text ls))
        (λ _. agree-then {g = λ (r : ScalarRead). fails yaml.UnexpectedCharacter (start ls)}
        {h = λ (r : ScalarRead). fails yaml.UnexpectedCharacter (start ls)}
        (agree-given (ReadAfter size low) (scalar_at (block 0) ls) (scalar-after (block 0) low ls h)) (λ r k. agree-fault))
        (λ _. agree-fault))))

    found_key-agree : (low : ℕ) (ls : List Line) (o : Option Key) → OptionKeyAfter size low o
        → Agree (KeyAfter size low) (found_key ls o) (found_key ls o)
    found_key-agree low ls None h = agree-fault
    found_key-agree low ls (Some key) h =
        agree-by (is_simple_key ls key.read) (λ _. agree-start (agree-value h)) (λ _. agree-fault)

    entry_key-agree : (depth low : ℕ) (ls : List Line) → from ≤ low → Left size low ls
        → Agree (KeyAfter size low) (entry_key c depth ls) (entry_key d depth ls)
    unfolding entry_key
    entry_key-agree depth low ls b h =
        agree-unless (block_fault (first_text ls)) (start ls)
        (agree-by (is_property (first_text ls)) (λ _. agree-fault)
        (λ _. agree-by (is_dash (first_text ls) || is_block_start (first_text ls)) (λ _. agree-fault)
        (λ _. agree-by (is_flow_start (first_text ls))
        (λ e. agree-then {g = λ (x : Part Node). fails (collection_fault x.left) (start ls)}
        {h = λ (x : Part Node). fails (collection_fault x.left) (start ls)} (keys depth low ls b e h) (λ x k. agree-fault))
        (λ _. agree-then (agree-given (OptionKeyAfter size low) (key_here ls) (key-after low ls h))
        (λ found k. found_key-agree low ls found k)))))

    -- ---- sequences and mappings, given readers of nodes that agree after one byte

    module _ (m n : BlockReader) (both : BlocksAgree size (from + 1) m n) where
      abbrev more_items : BlockReader → CollectionReader → ℕ → Bool → ℕ → ℕ → Part Nodes → List Line → Reading (Part Nodes)
      more_items node collection turns in_mapping column depth now left =
          if is_dash (first_text left) then sequence_entries node collection turns in_mapping column depth now.value left
          else (if in_mapping then gives now else no_entry collection depth left)

      items-agree : (turns turns' : ℕ) (in_mapping : Bool) (column depth low : ℕ) (done : Nodes) (ls : List Line) → from ≤ low
          → size < turns + low → size < turns' + low → is_dash (first_text ls) ≡ true → Left size low ls
          → Agree (After size low) (sequence_entries m c turns in_mapping column depth done ls)
          (sequence_entries n d turns' in_mapping column depth done ls)
      unfolding sequence_entries
      items-agree zero turns' in_mapping column depth low done ls b a a' e h = absurd (omega (arith, a, is-inside h))
      items-agree (suc turns) zero in_mapping column depth low done ls b a a' e h = absurd (omega (arith, a', is-inside h))
      items-agree (suc turns) (suc turns') in_mapping column depth low done ls b a a' e h =
          let rest = past 1 ls in
          agree-lower (agree-then
          (rest-agree (from + 1) m n both (entry_slot column (start rest)) depth column (low + 1) ls rest (omega (arith, b)) (past-dash e h))
          (λ x k. rest_below-agree (low + 1) (part (with_item done x.value) x.end x.left) k column
          (more_items m c turns in_mapping column depth) (more_items n d turns' in_mapping column depth)
          (λ left v. agree-by (is_dash (first_text left))
          (λ i. items-agree turns turns' in_mapping column depth (low + 1) (with_item done x.value) left (omega (arith, b)) (omega (arith, a))
          (omega (arith, a')) i v)
          (λ _. agree-by in_mapping (λ _. agree-value k) (λ _. no_entry-agree depth (low + 1) left (omega (arith, b)) v)))))

      abbrev more_entries : BlockReader → CollectionReader → ℕ → ℕ → ℕ → Part Entries → List Line → Reading (Part Entries)
      more_entries node collection turns column depth now left =
          entry_key collection depth left >>= (λ k. mapping_entries node collection turns column depth now.value k)

      entries-agree : (turns turns' column depth low : ℕ) (done : Entries) (key : Key) → from ≤ low → low ≤ size
          → size < turns + low → size < turns' + low → KeyAfter size low key
          → Agree (After size (low + 1)) (mapping_entries m c turns column depth done key) (mapping_entries n d turns' column depth done key)
      unfolding mapping_entries
      entries-agree zero turns' column depth low done key b i a a' h = absurd (omega (arith, a, i))
      entries-agree (suc turns) zero column depth low done key b i a a' h = absurd (omega (arith, a', i))
      entries-agree (suc turns) (suc turns') column depth low done key b i a a' h =
          agree-then
          (rest-agree (from + 1) m n both (value_slot column (start key.after)) depth 0 (low + 1) key.after key.after (omega (arith, b)) h)
          (λ x k. rest_below-agree (low + 1) (part (with_entry done key.read.scalar x.value) x.end x.left) k column
          (more_entries m c turns column depth) (more_entries n d turns' column depth)
          (λ left v. agree-then (entry_key-agree depth (low + 1) left (omega (arith, b)) v)
          (λ next w. agree-lower (entries-agree turns turns' column depth (low + 1) (with_entry done key.read.scalar x.value) next
          (omega (arith, b)) (is-inside v) (omega (arith, a)) (omega (arith, a')) w))))

      -- ---- nodes without properties

      block_sequence-agree : (turns turns' : ℕ) (slot : Slot) (depth column low : ℕ) (ls : List Line) → from ≤ low → size < turns + low
          → size < turns' + low → is_dash (first_text ls) ≡ true → Left size low ls
          → Agree (After size low) (block_sequence m c turns slot depth column ls) (block_sequence n d turns' slot depth column ls)
      block_sequence-agree turns turns' slot depth column low ls b a a' e h =
          agree-by (is_after_key slot.spot) (λ _. agree-fault)
          (λ _. unless_tab-agree (tab_before slot.spot) (agree-start (agree-span sequence (start ls)
          (items-agree turns turns' slot.in_mapping column (depth + 1) low no_nodes ls b a a' e h))))

      keyed-agree : (turns turns' : ℕ) (slot : Slot) (depth column low : ℕ) (ls : List Line) → from ≤ low → size < turns + low
          → size < turns' + low → Left size low ls → (o : Option Key) → OptionKeyAfter size low o
          → Agree {A = Part Node} (After size low)
          (elim o [ None ↦ scalar_node_at slot.within ls | Some key ↦ block_mapping m c turns slot.spot depth column ls key ])
          (elim o [ None ↦ scalar_node_at slot.within ls | Some key ↦ block_mapping n d turns' slot.spot depth column ls key ])
      keyed-agree turns turns' slot depth column low ls b a a' h None k = scalar_node-agree slot.within low ls h
      keyed-agree turns turns' slot depth column low ls b a a' h (Some key) k =
          agree-by (not (same_line ls key.read.left)) (λ _. agree-fault)
          (λ _. unless_tab-agree (tab_before slot.spot)
          (agree-by (not (is_short_key ls key.read)) (λ _. agree-fault)
          (λ _. agree-start (agree-span mapping (start ls)
          (agree-lower (entries-agree turns turns' column (depth + 1) low no_entries key b (is-inside h) a a' k))))))

      content-agree : (turns turns' : ℕ) (slot : Slot) (depth column low : ℕ) (ls : List Line) → from ≤ low → size < turns + low
          → size < turns' + low → Left size low ls
          → Agree (After size low) (block_content m c turns slot depth column ls) (block_content n d turns' slot depth column ls)
      unfolding block_content
      content-agree turns turns' slot depth column low ls b a a' h =
          agree-by (is_dash (first_text ls)) (λ e. block_sequence-agree turns turns' slot depth column low ls b a a' e h)
          (λ _. agree-unless (block_fault (first_text ls)) (start ls)
          (agree-by (is_property (first_text ls)) (λ _. agree-fault)
          (λ _. agree-by (is_flow_start (first_text ls))
          (λ e. agree-then (keys depth low ls b e h) (λ x k. after_flow-agree slot.spot (start ls) low x k))
          (λ _. agree-by (is_block_start (first_text ls) || is_after_key slot.spot) (λ _. scalar_node-agree slot.within low ls h)
          (λ _. agree-then (agree-given (OptionKeyAfter size low) (key_here ls) (key-after low ls h))
          (λ found k. keyed-agree turns turns' slot depth column low ls b a a' h found k))))))

  pub block_node-agree : (k k' from : ℕ) → size < k + from → size < k' + from → BlocksAgree size from (block_node k) (block_node k')
  unfolding block_node
  block_node-agree zero k' from a a' slot depth column low ls b h = absurd (omega (arith, a, b, is-inside h))
  block_node-agree (suc k) zero from a a' slot depth column low ls b h = absurd (omega (arith, a', b, is-inside h))
  block_node-agree (suc k) (suc k') from a a' slot depth column low ls b h =
      let c = flow_collection (suc k) in
      let d = flow_collection (suc k') in
      let keys : CollectionsAgree size from c d = λ p l ms i e v. flow_collection-agree (suc k) (suc k') from a a' p l ms i e v in
      let both : BlocksAgree size (from + 1) (block_node k) (block_node k') =
      λ s p i l ms j v. block_node-agree k k' (from + 1) (omega (arith, a)) (omega (arith, a')) s p i l ms j v in
      let inner : BlocksAgree size from (block_content (block_node k) c (suc k)) (block_content (block_node k') d (suc k')) =
      λ s p i l ms j v. content-agree from c d keys (block_node k) (block_node k') both (suc k) (suc k') s p i l ms j (omega (arith, a, j))
      (omega (arith, a', j)) v in
      agree-by (is_property (first_text ls))
      (λ e. property-agree from (block_content (block_node k) c (suc k)) (block_content (block_node k') d (suc k')) inner slot depth column low ls b h)
      (λ _. inner slot depth column low ls b h)
