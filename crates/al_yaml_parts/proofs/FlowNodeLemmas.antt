-- Keys and nodes of flow collections: brackets, and how a key is read on after its scalar.
use Rattle.std.proofs.Common.{◌≡◌, ◌≤◌, ℕ, arith, List, [], ◌∷◌, length, sym, ap, ◌∙◌, true, false, Option, Some, None, Ok, Err}
use Rattle.std.proofs.lemmas.Grind.{common_steps}
use Rattle.al_scalar.specs.Line.{Cell, Line, start, begins}
use Rattle.al_scalar.specs.Places.{lines_at, text_at}
use Rattle.al_scalar.specs.Scalar.{ScalarRead}
use Rattle.al_yaml_tree.specs.Reading.{Reading, Part, gives, of_result, starting_scalar, ◌>>=◌}
use Rattle.al_yaml_tree.specs.Content.{is_flow_start, is_property, flow_fault, has_no_name, after_name}
use Rattle.al_yaml_tree.specs.Flow.{CollectionReader, FlowSlot, FlowKey, gap, key_colon, flow_content, flow_property, flow_value}
use Rattle.al_yaml_tree.specs.Node.{Node}
use Rattle.al_yaml_tree.specs.View.{view}
use Rattle.al_yaml_parts.specs.Answers.{completing, mark_of, noting}
use Rattle.al_yaml_parts.specs.Reads.{FailsWith, State, part_of, run, state_with_anchor_at}
use Rattle.al_yaml_parts.specs.declared.faults.ReadError.{ReadError}
use Rattle.al_yaml_parts.specs.declared.faults.ReadError.TheVariants as stop
use Rattle.al_scalar.specs.declared.faults.FaultAt.{FaultAt}
use Rattle.al_yaml_parts.specs.declared.part.Part as code
use Rattle.al_yaml_parts.proofs.NoteLemmas.{completing-noted, completing-stops, noted-part}
use Rattle.al_yaml_parts.proofs.ReadLemmas.{stops-same}
use Rattle.al_scalar.proofs.LineCells.{never}
use Rattle.al_scalar.proofs.RestLemmas.{start-at}

-- no bracket, anchor or alias is forbidden

pub right-bracket : (cs : List Cell) → true ≡ is_flow_start cs → None ≡ flow_fault cs
right-bracket [] h = absurd (never (sym h))
right-bracket (c ∷ cs) h = grind (arith, common_steps, h)

pub right-property : (cs : List Cell) → true ≡ is_property cs → None ≡ flow_fault cs
right-property [] h = absurd (never (sym h))
right-property (c ∷ cs) h = grind (arith, common_steps, h)

-- what is read after a key's scalar, and after its colon

abbrev pub with_colon : List ℕ → ℕ → ScalarRead → Option (List Line) → Reading FlowKey
with_colon bytes at r colon = starting_scalar (start (lines_at bytes at)) (gives (record { read = r; after = colon }))

abbrev pub key_with : List ℕ → ℕ → ScalarRead → Reading FlowKey
key_with bytes at r = of_result (key_colon (lines_at bytes at) r) >>= with_colon bytes at r

-- after the name of an anchor its node is read
module _ (collection : CollectionReader) (slot : FlowSlot) (depth : ℕ) (n : State) (bytes : List ℕ) (at next : ℕ) (inside : at ≤ length bytes)
    (named : false ≡ has_no_name (lines_at bytes at)) (other : false ≡ begins 42 (text_at bytes at)) (gapped : gap false (after_name (lines_at bytes at)) ≡ lines_at bytes next) where
  abbrev after_anchor : Reading (Part Node)
  after_anchor = flow_value (flow_content collection) slot depth (lines_at bytes next)

  property-anchor : flow_property collection slot depth (lines_at bytes at) ≡ completing bytes (Some at) after_anchor
  unfolding flow_property
  property-anchor =
      rw (← named, ← other, start-at bytes at inside) (ap (λ ls. completing bytes (Some at) (flow_value (flow_content collection) slot depth ls)) gapped)

  pub anchored-stops : (e : ReadError) → FailsWith after_anchor n e → FailsWith (flow_property collection slot depth (lines_at bytes at)) n e
  anchored-stops e h = stops-same _ _ n e property-anchor (completing-stops bytes (Some at) n after_anchor e h)

  pub anchored-fails : (f : FaultAt) → run n after_anchor ≡ Err f → run n (flow_property collection slot depth (lines_at bytes at)) ≡ Err f
  anchored-fails f = anchored-stops (stop.Fault f)

  pub anchored-runs : run n (flow_property collection slot depth (lines_at bytes at)) ≡ noting (mark_of bytes (Some at)) (run n after_anchor)
  anchored-runs = ap (run n) property-anchor ∙ completing-noted bytes (Some at) n after_anchor

  pub anchored-part : (p q : code.Part) (m t : State) → run n after_anchor ≡ Ok (part_of bytes p, m) → part_of bytes q ≡ part_of bytes p
      → t ≡ state_with_anchor_at bytes (Some at) (view p.node) m → run n (flow_property collection slot depth (lines_at bytes at)) ≡ Ok (part_of bytes q, t)
  anchored-part p q m t h a b = anchored-runs ∙ ap (noting (mark_of bytes (Some at))) h ∙ noted-part bytes (Some at) p q m t a b
