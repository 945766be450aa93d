use Rattle.std.proofs.Common.{◌≡◌, ◌∙◌, ◌+◌, ℕ, List, length, ◌≤◌, ap, sym, slice_index, Bool, true, false, cond, Option, Some, None}
use Rattle.al_base.specs.declared.codes.YamlCode.{YamlCode}
use Rattle.al_base.specs.declared.codes.YamlCode.TheVariants as yaml
use Rattle.al_scalar.specs.Line.{is_empty, is_blank_or_end}
use Rattle.al_scalar.specs.Places.{text_at}
use Rattle.al_scalar.specs.Plain.{begins_flow_indicator}
use Rattle.al_yaml_tree.specs.Content.{flow_fault, start_fault, is_flow_misplaced}
use Rattle.std.specs.Option.{option_or}
use Rattle.al_yaml_parts.proofs.LineLemmas.{first_cell}
use Rattle.al_yaml_parts.proofs.starts.flow_fault.Goals as goal

abbrev or_misplaced : Option YamlCode → Bool → Option YamlCode
or_misplaced o m = option_or o (cond m (Some yaml.UnexpectedCharacter) None)

module _ (bytes : List ℕ) (at : ℕ) (inside : at ≤ length bytes) (some : false ≡ is_empty (text_at bytes at)) (alone closed : Bool)
    (a : alone ≡ is_blank_or_end (text_at bytes (at + 1))) (b : closed ≡ begins_flow_indicator (text_at bytes (at + 1))) where
  flow_fault-at : flow_fault (text_at bytes at) ≡ or_misplaced (start_fault (slice_index bytes at) alone) (is_flow_misplaced (slice_index bytes at) alone closed)
  flow_fault-at =
      ap flow_fault (first_cell bytes at inside some)
      ∙ ap (λ x. or_misplaced (start_fault (slice_index bytes at) x) (is_flow_misplaced (slice_index bytes at) x (begins_flow_indicator (text_at bytes (at + 1))))) (sym a)
      ∙ ap (λ x. or_misplaced (start_fault (slice_index bytes at) alone) (is_flow_misplaced (slice_index bytes at) alone x)) (sym b)

  found : (code : YamlCode) → Some code ≡ start_fault (slice_index bytes at) alone → Some code ≡ flow_fault (text_at bytes at)
  found code h = ap (λ o. or_misplaced o (is_flow_misplaced (slice_index bytes at) alone closed)) h ∙ sym flow_fault-at

  by_misplaced : (m : Bool) → None ≡ start_fault (slice_index bytes at) alone → m ≡ is_flow_misplaced (slice_index bytes at) alone closed
      → cond m (Some yaml.UnexpectedCharacter) None ≡ flow_fault (text_at bytes at)
  by_misplaced m h k = ap (or_misplaced None) k ∙ ap (λ o. or_misplaced o (is_flow_misplaced (slice_index bytes at) alone closed)) h ∙ sym flow_fault-at

pub returns-in-None : goal.returns-in-None
returns-in-None c =
    by_misplaced c.args.bytes.now c.args.at c.requires c.if-is_text_end.ensures.text c.is_blank_or_end-alone.result
    c.begins_flow_indicator-closed.result c.is_blank_or_end-alone.ensures c.begins_flow_indicator-closed.ensures
    true c.in-None.ensures c.if-is_flow_misplaced.ensures

pub returns-in_default : goal.returns-in_default
returns-in_default c =
    c.in-None.is ∙ by_misplaced c.args.bytes.now c.args.at c.requires c.if-is_text_end.ensures.text c.is_blank_or_end-alone.result
    c.begins_flow_indicator-closed.result c.is_blank_or_end-alone.ensures c.begins_flow_indicator-closed.ensures
    false c.in-None.ensures c.if-is_flow_misplaced.ensures

pub returns-in_default-2 : goal.returns-in_default-2
returns-in_default-2 c =
    c.start_fault.ensures ∙ sym c.in_default.ensures ∙ found c.args.bytes.now c.args.at c.requires c.if-is_text_end.ensures.text c.is_blank_or_end-alone.result
    c.begins_flow_indicator-closed.result c.is_blank_or_end-alone.ensures c.begins_flow_indicator-closed.ensures _ c.in_default.ensures
