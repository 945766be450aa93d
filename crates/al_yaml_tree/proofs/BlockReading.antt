-- Reading block nodes keeps the invariants of `NodeReading`.
use Rattle.std.proofs.Common.{◌≡◌, ℕ, zero, suc, ◌+◌, ◌≤◌, List, [], ◌∷◌, refl, arith, Bool, true, false, not, ◌&&◌, ◌||◌, ◌==◌, nat_lt}
use Rattle.std.proofs.Common.{if◌then◌else◌, Option, Some, None}
use Rattle.std.specs.Bool.{then_some}
use Rattle.al_base.specs.declared.codes.YamlCode.TheVariants as yaml
use Rattle.al_base.specs.Ascii.{ascii}
use Rattle.al_base.specs.declared.faults.Span.{Span}
use Rattle.al_scalar.specs.Line.{Cell, Line, start, place, begins, indent, after_spaces, blanks_dropped, past}
use Rattle.al_scalar.specs.Offsets.{AreClimbing}
use Rattle.al_scalar.specs.Places.{first_text}
use Rattle.al_scalar.specs.Plain.{block}
use Rattle.al_scalar.specs.Scalar.{scalar_at}
use Rattle.al_scalar.proofs.OffsetLemmas.{climbing-drop, climbing-order}
use Rattle.al_yaml_tree.specs.Blocks.{Spot, own_line, compact, after_key, Slot, BlockReader, is_after_key, tab_before}
use Rattle.al_yaml_tree.specs.Blocks.{unless_tab, spot_after, is_deeper, node_found, rest_node, rest_found, rest_below}
use Rattle.al_yaml_tree.specs.Blocks.{entry_slot, sequence_entries, value_slot}
use Rattle.al_yaml_tree.specs.Blocks.{mapping_entries, scalar_node_at, ending_line}
use Rattle.al_yaml_tree.specs.Blocks.{block_sequence, block_mapping, block_content, block_property, block_node}
use Rattle.al_yaml_tree.specs.Content.{Next, ended, at_line, is_skipped, content, line_ended, whole_lines, is_dash}
use Rattle.al_yaml_tree.specs.Content.{tab_among, block_fault, is_flow_start, is_property, same_line, characters, is_short_key}
use Rattle.al_yaml_tree.specs.Content.{anchor_name, after_name, has_no_name}
use Rattle.al_yaml_tree.specs.Flow.{CollectionReader, flow_collection}
use Rattle.al_yaml_tree.specs.Keys.{Key, key_here, has_colon, is_block_start, is_on_key, no_entry, entry_key}
use Rattle.al_yaml_tree.specs.Node.{Node, Nodes, Entries, sequence, mapping, no_nodes, with_item, no_entries, with_entry, scalar_node}
use Rattle.al_yaml_tree.specs.Reading.{Reading, gives, fails, gives_with_anchor, Part, part, ◌>>=◌}
use Rattle.al_yaml_tree.proofs.FlowReading.{CollectionIn, flow_collection-in}
use Rattle.al_yaml_tree.proofs.KeyReading.{KeyIn, OptionKeyIn, key_at-in, no_entry-in, entry_key-in}
use Rattle.al_yaml_tree.proofs.LeftLines.{File, AreLeft, IsRead, NextLeft, left-lower, left-start, starts-after, starts-in}
use Rattle.al_yaml_tree.proofs.LeftLines.{left-whole, left-blanks, left-dash, left-name, scalar-read, content-in, line_ended-in}
use Rattle.al_yaml_tree.proofs.NodeReading.{IsDone, no-items, no-entries, IsPart, same, itself, IsNode, AreItems, AreEntries}
use Rattle.al_yaml_tree.proofs.NodeReading.{whole-part, read-part, part-lower, part-back, item-done, entry-done, Reads, reads-value, reads-fault}
use Rattle.al_yaml_tree.proofs.NodeReading.{reads-given, reads-then, reads-start, reads-unless, reads-by, reads-also, empty-reads, collected}
use Rattle.al_yaml_tree.proofs.NodeReading.{alias-reads, anchored-reads}

abbrev IsIn : File → Option ℕ → Type 0
IsIn f None = Unit {0}
IsIn f (Some at) = at ≤ f.size

-- the tab before a compact collection is within the file
abbrev TabIn : File → Spot → Type 0
TabIn f spot = IsIn f (tab_before spot)

-- An empty node would be at `low` or later, within the file. The remaining lines are then at `back` of its offset or later. `back` is the
-- identity, except for a root, whose empty node would be at the file's end: there it is 0.
pub record SlotIn (f : File) (back : ℕ → ℕ) (low : ℕ) (slot : Slot) : Type 0 where
  pub tab : TabIn f slot.spot
  pub after : low ≤ slot.empty
  pub inside : slot.empty ≤ f.size
  pub reach : back slot.empty ≤ low
  pub back_to : (end : ℕ) → back end ≤ end

abbrev pub BlockIn : File → BlockReader → Type 0
BlockIn f node = (back : ℕ → ℕ) (slot : Slot) (depth column low : ℕ) (ls : List Line) → SlotIn f back low slot → AreLeft f low ls
    → Reads f (IsPart f itself back low) (node slot depth column ls)

module _ (f : File) where
  -- ---- after an indicator

  tab-in : (low end : ℕ) (cs : List Cell) → end ≤ f.size → AreClimbing low end cs → IsIn f (then_some (begins (ascii "\t") cs) (place cs 0))
  tab-in low end [] a h = tt
  tab-in low end (c ∷ cs) a h = by (c.0 == ascii "\t")
    where
      by : (b : Bool) → IsIn f (then_some b c.1)
      by true = let b = climbing-order (c.1 + 1) end cs h.1 in omega (arith, a, b)
      by false = tt

  tab_among-in : (low end : ℕ) (cs : List Cell) → end ≤ f.size → AreClimbing low end cs → IsIn f (tab_among cs)
  tab_among-in low end cs a h = tab-in low end (after_spaces cs) a (climbing-drop (indent cs) low end cs h)

  spot_after-in : (text : List Cell) (spot : Spot) → IsIn f (tab_among text) → TabIn f spot → TabIn f (spot_after text spot)
  spot_after-in text own_line t h = t
  spot_after-in text (compact None) t h = t
  spot_after-in text (compact (Some tab)) t h = h
  spot_after-in text after_key t h = h

module _ {f : File} where
  first_tab-in : (low : ℕ) (ls : List Line) → AreLeft f low ls → IsIn f (tab_among (first_text ls))
  first_tab-in low [] h = tt
  first_tab-in low (l ∷ ls) h = tab_among-in f low l.end l.text h.stand.1.0 h.stand.0.0

  at_spot-in : {back : ℕ → ℕ} {low : ℕ} {slot : Slot} (spot : Spot) → TabIn f spot → SlotIn f back low slot
      → SlotIn f back low (record slot { spot = spot })
  at_spot-in spot t s = record { tab = t; after = s.after; inside = s.inside; reach = s.reach; back_to = s.back_to }

  module _ (node : BlockReader) (n : BlockIn f node) where
    pub found-in : (back : ℕ → ℕ) (slot : Slot) (depth low : ℕ) (ls : List Line) → SlotIn f back low slot → AreLeft f low ls
        → (found : Next) → NextLeft f low found → Reads f (IsPart f itself back low) (node_found node slot depth ls found)
    found-in back slot depth low ls s h ended k = empty-reads s.after s.inside (left-lower s.reach h)
    found-in back slot depth low ls s h (at_line i left) k =
        reads-by (is_deeper slot i left) (λ _. n back (record slot { spot = own_line }) depth i low left (at_spot-in own_line tt s) k)
        (λ _. empty-reads s.after s.inside (left-lower s.reach h))

    rest-in : (back : ℕ → ℕ) (slot : Slot) (depth column low : ℕ) (ls rest : List Line) → SlotIn f back low slot → AreLeft f low rest
        → Reads f (IsPart f itself back low) (rest_node node slot depth column ls rest)
    rest-in back slot depth column low ls rest s h =
        let spot = spot_after (first_text rest) slot.spot in
        let left = blanks_dropped rest in
        reads-by (is_skipped (first_text rest))
        (λ _. reads-then (reads-given (NextLeft f low) (content (whole_lines rest)) (content-in low (whole_lines rest) (left-whole h)))
        (λ found k. found-in back slot depth low (whole_lines rest) s (left-whole h) found k))
        (λ _. n back (record slot { spot = spot }) depth (column + characters (start left) (first_text ls)) low left
        (at_spot-in spot (spot_after-in f (first_text rest) slot.spot (first_tab-in low rest h) s.tab) s) (left-blanks h))

    -- a node in a collection, where an empty node would be at the start of the remaining lines
    rest-lies : (slot : Slot) (depth column low : ℕ) (ls rest : List Line) → TabIn f slot.spot → slot.empty ≡ start rest
        → AreLeft f low rest → Reads f (IsNode f low) (rest_node node slot depth column ls rest)
    rest-lies slot depth column low ls rest t e h =
        let at = start rest in
        reads-also (rest-in same slot depth column at ls rest (record {
          tab = t;
          after = omega (arith, e);
          inside = let a = starts-in h in omega (arith, a, e);
          reach = omega (arith, e);
          back_to = λ end. omega arith;
        }) (left-start h)) (λ p k. part-lower (starts-after h) k)

    -- an alias, or an anchor with its node
    property-in : (back : ℕ → ℕ) (slot : Slot) (depth column low : ℕ) (ls : List Line) → is_property (first_text ls) ≡ true
        → SlotIn f back low slot → AreLeft f low ls → Reads f (IsPart f itself back low) (block_property node slot depth column ls)
    unfolding block_property
    property-in back slot depth column low ls e s h =
        let a = starts-in h in
        let rest = after_name ls in
        let v = left-name e h in
        reads-by (has_no_name ls) (λ _. reads-fault a)
        (λ _. reads-by (not (is_after_key slot.spot) && is_on_key ls) (λ _. reads-fault a)
        (λ _. reads-by (begins (ascii "*") (first_text ls))
        (λ _. reads-then (alias-reads (anchor_name ls) (start ls) depth a)
        (λ m k. reads-then {g = λ (left : List Line). gives (part m (start rest) left)}
        (reads-given (AreLeft f (start rest)) (line_ended rest) (line_ended-in (start rest) rest (left-start v)))
        (λ left w. reads-value (part-back back (s.back_to (start rest))
        (whole-part (record { ordered = starts-after v; lies = k low (start rest) }) w)))))
        (λ _. reads-then {g = λ (x : Part Node). gives_with_anchor (record { name = anchor_name ls; at = start ls; node = x.value }) x}
        (rest-in back slot depth column low ls rest s v)
        (λ x k. anchored-reads (record { name = anchor_name ls; at = start ls; node = x.value }) k.done.lies k))))

  -- ---- scalars and flow collections

  ending_line-in : (low : ℕ) (x : Part Node) → IsNode f low x → Reads f (IsNode f low) (ending_line x)
  ending_line-in low x h =
      reads-then {g = λ (left : List Line). gives (part x.value x.end left)}
      (reads-given (AreLeft f x.end) (line_ended x.left) (line_ended-in x.end x.left h.left)) (λ left v. reads-value (whole-part h.done v))

  after_scalar-in : (is_block : Bool) (low : ℕ) (x : Part Node) → IsNode f low x
      → Reads f (IsNode f low) ((if is_block then gives else ending_line) x)
  after_scalar-in true low x h = reads-value h
  after_scalar-in false low x h = ending_line-in low x h

  scalar_node-in : (within low : ℕ) (ls : List Line) → AreLeft f low ls → Reads f (IsNode f low) (scalar_node_at within ls)
  scalar_node-in within low ls h =
      reads-start (starts-in h)
      (reads-then (reads-given (IsRead f low) (scalar_at (block within) ls) (scalar-read (block within) low ls h))
      (λ r k. after_scalar-in (is_block_start (first_text ls)) low (part (scalar_node r) r.scalar.span.end r.left) (read-part k k.left)))

  after_flow-in : (spot : Spot) (at low : ℕ) (x : Part Node) → at ≤ f.size → IsNode f low x
      → Reads f (IsNode f low) (if not (is_after_key spot) && has_colon x.left then fails yaml.WrongKey at else ending_line x)
  after_flow-in spot at low x a h =
      reads-by (not (is_after_key spot) && has_colon x.left) (λ _. reads-fault a) (λ _. ending_line-in low x h)

  unless_tab-in : {P : Part Node → Type 0} (o : Option ℕ) {r : Reading (Part Node)} → IsIn f o → Reads f P r → Reads f P (unless_tab o r)
  unless_tab-in (Some at) a h = reads-fault a
  unless_tab-in None a h = h

  -- ---- the remaining items or entries of a collection

  module _ {A : Type 0} {g : A → Span → Node} (from : ℕ) (done : Part A) (h : IsPart f g same from done) (column : ℕ)
      (more : Part A → List Line → Reading (Part A))
      (m : (ls : List Line) → AreLeft f done.end ls → Reads f (IsPart f g same from) (more done ls)) where
    rest_found-in : (found : Next) → NextLeft f done.end found → Reads f (IsPart f g same from) (rest_found column done more found)
    rest_found-in ended k = reads-value h
    rest_found-in (at_line i left) k =
        reads-by (i == column) (λ _. m left k)
        (λ _. reads-by (nat_lt i column) (λ _. reads-value h) (λ _. reads-fault (starts-in k)))

    rest_below-in : Reads f (IsPart f g same from) (rest_below column done more)
    rest_below-in = reads-then (reads-given (NextLeft f done.end) (content done.left) (content-in done.end done.left h.left))
        (λ found k. rest_found-in found k)

  module _ (node : BlockReader) (n : BlockIn f node) (collection : CollectionReader) (c : CollectionIn f collection) where
    -- ---- sequences

    abbrev more_items : ℕ → Bool → ℕ → ℕ → Part Nodes → List Line → Reading (Part Nodes)
    more_items turns in_mapping column depth now left =
        if is_dash (first_text left) then sequence_entries node collection turns in_mapping column depth now.value left
        else (if in_mapping then gives now else no_entry collection depth left)

    items-in : (turns : ℕ) (in_mapping : Bool) (column depth from low : ℕ) (done : Nodes) (ls : List Line) → IsDone f sequence from low done
        → is_dash (first_text ls) ≡ true → AreLeft f low ls
        → Reads f (AreItems f from) (sequence_entries node collection turns in_mapping column depth done ls)
    unfolding sequence_entries
    items-in zero in_mapping column depth from low done ls d e h = reads-fault (omega arith)
    items-in (suc turns) in_mapping column depth from low done ls d e h =
        let rest = past 1 ls in
        reads-then (rest-lies node n (entry_slot column (start rest)) depth column low ls rest tt refl (left-dash e h))
        (λ x k. let i = item-done d k in
        rest_below-in from (part (with_item done x.value) x.end x.left) (whole-part i k.left) column (more_items turns in_mapping column depth)
        (λ left v. reads-by (is_dash (first_text left)) (λ j. items-in turns in_mapping column depth from x.end (with_item done x.value) left i j v)
        (λ _. reads-by in_mapping (λ _. reads-value (whole-part i k.left)) (λ _. no_entry-in collection c depth x.end left v))))

    -- ---- mappings

    abbrev more_entries : ℕ → ℕ → ℕ → Part Entries → List Line → Reading (Part Entries)
    more_entries turns column depth now left =
        entry_key collection depth left >>= (λ k. mapping_entries node collection turns column depth now.value k)

    entries-in : (turns column depth from low : ℕ) (done : Entries) (key : Key) → IsDone f mapping from low done → KeyIn f low key
        → Reads f (AreEntries f from) (mapping_entries node collection turns column depth done key)
    unfolding mapping_entries
    entries-in zero column depth from low done key d h = reads-fault (omega arith)
    entries-in (suc turns) column depth from low done key d h =
        reads-then (rest-lies node n (value_slot column (start key.after)) depth 0 key.read.scalar.span.end key.after key.after tt refl h.1)
        (λ x k. let i = entry-done d h.0 k in
        rest_below-in from (part (with_entry done key.read.scalar x.value) x.end x.left) (whole-part i k.left) column
        (more_entries turns column depth)
        (λ left v. reads-then (entry_key-in collection c depth x.end left v)
        (λ next w. entries-in turns column depth from x.end (with_entry done key.read.scalar x.value) next i w)))

    -- ---- nodes without properties

    block_sequence-in : (turns : ℕ) (slot : Slot) (depth column low : ℕ) (ls : List Line) → TabIn f slot.spot
        → is_dash (first_text ls) ≡ true → AreLeft f low ls
        → Reads f (IsNode f low) (block_sequence node collection turns slot depth column ls)
    block_sequence-in turns slot depth column low ls t e h =
        let at = start ls in
        let a = starts-in h in
        reads-by (is_after_key slot.spot) (λ _. reads-fault a)
        (λ _. unless_tab-in (tab_before slot.spot) t (reads-start a (collected (starts-after h)
        (items-in turns slot.in_mapping column (depth + 1) at at no_nodes ls (no-items at a) e (left-start h)))))

    keyed-in : (turns : ℕ) (slot : Slot) (depth column low : ℕ) (ls : List Line) → TabIn f slot.spot → AreLeft f low ls
        → (o : Option Key) → OptionKeyIn f (start ls) o → Reads f (IsNode f low) (elim o [
          | None ↦ scalar_node_at slot.within ls
          | Some key ↦ block_mapping node collection turns slot.spot depth column ls key
        ])
    keyed-in turns slot depth column low ls t h None k = scalar_node-in slot.within low ls h
    keyed-in turns slot depth column low ls t h (Some key) k =
        let at = start ls in
        let a = starts-in h in
        reads-by (not (same_line ls key.read.left)) (λ _. reads-fault a)
        (λ _. unless_tab-in (tab_before slot.spot) t
        (reads-by (not (is_short_key ls key.read)) (λ _. reads-fault a)
        (λ _. reads-start a (collected (starts-after h)
        (entries-in turns column (depth + 1) at at no_entries key (no-entries at a) k)))))

    content-lies : (turns : ℕ) (slot : Slot) (depth column low : ℕ) (ls : List Line) → TabIn f slot.spot → AreLeft f low ls
        → Reads f (IsNode f low) (block_content node collection turns slot depth column ls)
    unfolding block_content
    content-lies turns slot depth column low ls t h =
        let a = starts-in h in
        reads-by (is_dash (first_text ls)) (λ e. block_sequence-in turns slot depth column low ls t e h)
        (λ _. reads-unless (block_fault (first_text ls)) (start ls) a
        (reads-by (is_property (first_text ls)) (λ _. reads-fault a)
        (λ _. reads-by (is_flow_start (first_text ls))
        (λ e. reads-then (c depth low ls e h) (λ x k. after_flow-in slot.spot (start ls) low x a k))
        (λ _. reads-by (is_block_start (first_text ls) || is_after_key slot.spot) (λ _. scalar_node-in slot.within low ls h)
        (λ _. reads-then (reads-given (OptionKeyIn f (start ls)) (key_here ls) (key_at-in (start ls) ls (left-start h)))
        (λ found k. keyed-in turns slot depth column low ls t h found k))))))

  pub block_node-in : (bound : ℕ) → BlockIn f (block_node bound)
  unfolding block_node
  block_node-in zero back slot depth column low ls s h = reads-fault (omega arith)
  block_node-in (suc bound) back slot depth column low ls s h =
      let n : BlockIn f (block_node bound) = λ b t d i l ms u v. block_node-in bound b t d i l ms u v in
      let collection = flow_collection (suc bound) in
      let c : CollectionIn f collection = λ d l ms e v. flow_collection-in (suc bound) d l ms e v in
      let inner : BlockIn f (block_content (block_node bound) collection (suc bound)) =
      λ b t d i l ms u v. reads-also (content-lies (block_node bound) n collection c (suc bound) t d i l ms u.tab v)
      (λ p k. part-back b (u.back_to p.end) k) in
      reads-by (is_property (first_text ls))
      (λ e. property-in (block_content (block_node bound) collection (suc bound)) inner back slot depth column low ls e s h)
      (λ _. inner back slot depth column low ls s h)
