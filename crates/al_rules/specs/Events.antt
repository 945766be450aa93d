-- Faults of events: their names, activity types, filters, schedules and the types of inputs.
use Rattle.std.specs.Prelude.{ℕ, List, [], ◌∷◌, ◌++◌, codes, Option, Some, None, not, if◌then◌else◌}
use Rattle.std.specs.List.{flat_map}
use Rattle.std.specs.Option.{option_map_or}
use Rattle.std.specs.Str.{bytes_eq}
use Rattle.al_base.specs.declared.codes.RuleCode.TheVariants.{ScheduleTooOften, UnknownActivity}
use Rattle.al_base.specs.declared.codes.RuleCode.TheVariants.{UnknownEvent, UnknownInputType}
use Rattle.al_base.specs.declared.codes.RuleCode.TheVariants.{WrongPattern, WrongSchedule}
use Rattle.al_base.specs.declared.faults.Fault.{Fault}
use Rattle.al_scalar.specs.Scalar.{Scalar}
use Rattle.al_yaml_tree.specs.Node.{Node}
use Rattle.al_tree.specs.Keys.{key_of}
use Rattle.al_tree.specs.Names.{is_event}
use Rattle.al_tree.specs.Values.{text_at_key, texts_in, texts_at, entries_in, entries_at, items_in}
use Rattle.al_rules.specs.Names.{activities_of, call_types, dispatch_types}
use Rattle.al_rules_settings.specs.Words.{Named, about, of_scalar, unless, unless_among}
use Rattle.al_rules_formats.specs.Patterns.{is_pattern}
use Rattle.al_rules_formats.specs.Schedules.{schedule_of, is_too_often}
use Rattle.al_rules_formats.specs.declared.patterns.Filter.{Filter}
use Rattle.al_rules_formats.specs.declared.patterns.Filter.TheVariants.{Names, Paths}
use Rattle.al_rules_formats.specs.declared.schedules.Item.{Item}

-- an activity type that isn't in the event's row
abbrev pub activity_type_faults : List ℕ → Node → List Fault
activity_type_faults name event =
    option_map_or (λ types. flat_map (λ s. unless_among UnknownActivity types (of_scalar s))
    (texts_at (codes "types") event))
    (activities_of name) []

-- a filter that isn't a pattern
abbrev pub filter_faults : Filter → Node → List ℕ → List Fault
filter_faults filter event key =
    flat_map (λ s. unless (is_pattern filter (of_scalar s).text) WrongPattern (of_scalar s))
    (texts_at key event)

abbrev pub filters_faults : Node → List Fault
filters_faults event =
    flat_map (filter_faults Names event) (codes "branches" ∷ codes "branches-ignore" ∷ codes "tags"
    ∷ codes "tags-ignore" ∷ [])
    ++ flat_map (filter_faults Paths event) (codes "paths" ∷ codes "paths-ignore" ∷ [])

-- a schedule outside the grammar, and one that runs too often
abbrev pub schedule_faults : Option (List Item) → Named → List Fault
schedule_faults None n = about WrongSchedule n
schedule_faults (Some items) n = unless (not (is_too_often items)) ScheduleTooOften n

abbrev pub cron_faults : Node → List Fault
cron_faults entry =
    option_map_or (λ s. schedule_faults (schedule_of (of_scalar s).text) (of_scalar s))
    (text_at_key (codes "cron") entry) []

-- an input of an unknown type
abbrev pub input_faults : List (List ℕ) → Scalar × Node → List Fault
input_faults types m =
    option_map_or (λ s. unless_among UnknownInputType types (of_scalar s))
    (text_at_key (codes "type") m.1) []

abbrev pub inputs_faults : List (List ℕ) → Node → List Fault
inputs_faults types event = flat_map (input_faults types) (entries_at (codes "inputs") event)

-- the faults of a known event
abbrev pub event_faults : List ℕ → Node → List Fault
event_faults name event =
    if bytes_eq name (codes "schedule") then flat_map cron_faults (items_in event)
    else if bytes_eq name (codes "workflow_call") then inputs_faults call_types event
    else if bytes_eq name (codes "workflow_dispatch") then inputs_faults dispatch_types event
    else if bytes_eq name (codes "image_version") then []
    else activity_type_faults name event ++ filters_faults event

-- an unknown event, whose value isn't checked
abbrev pub event_name_faults : Named → List Fault
event_name_faults n = unless (is_event n.text) UnknownEvent n

abbrev pub named_faults : Scalar × Node → List Fault
named_faults m = if is_event (key_of m) then event_faults (key_of m) m.1
    else about UnknownEvent (of_scalar m.0)

-- the faults of the value of `on`
abbrev pub on_faults : Node → List Fault
on_faults on = flat_map (λ s. event_name_faults (of_scalar s)) (texts_in on)
    ++ flat_map named_faults (entries_in on)
