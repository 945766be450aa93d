use Rattle.std.proofs.Common.{◌≡◌, ◌++◌, drop, map, option_map}
use Rattle.al_base.specs.Ascii.{ascii}
use Rattle.al_rules_formats.specs.Schedules.{collect_all, item_parts}
use Rattle.al_rules_formats.specs.Texts.{pieces}
use Rattle.al_rules_formats.specs.Private.Views.{range_of}
use Rattle.al_rules_formats.proofs.schedules.field.Given as goal

-- the items so far, then those of the parts left, if each is right
abbrev pub invariant-loop-part : goal.invariant-loop-part
invariant-loop-part l =
    option_map (λ ys. l.items.items ++ ys) (collect_all (map (λ item. item_parts (range_of l.range) (pieces (ascii "/") item)) (map (λ p. p.now) (drop l.part-index l.part-items))))
    ≡ collect_all (map (λ item. item_parts (range_of l.range) (pieces (ascii "/") item)) (map (λ p. p.now) l.part-items))
