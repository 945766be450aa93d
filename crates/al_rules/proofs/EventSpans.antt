-- Each fault of what `on` has is within the file that the tree was read from.
use Rattle.std.specs.Prelude.{ℕ, not, List, [], ◌∷◌, codes, Option, Some, None}
use Rattle.std.specs.List.{flat_map}
use Rattle.std.specs.Option.{option_map_or}
use Rattle.al_base.specs.declared.codes.RuleCode.TheVariants.{ScheduleTooOften, UnknownActivity, UnknownEvent, UnknownInputType, WrongPattern, WrongSchedule}
use Rattle.al_rules_formats.specs.Patterns.{is_pattern}
use Rattle.al_rules_formats.specs.Schedules.{is_too_often, schedule_of}
use Rattle.al_rules_formats.specs.declared.patterns.Filter.{Filter}
use Rattle.al_rules_formats.specs.declared.schedules.Item.{Item}
use Rattle.al_scalar.specs.Scalar.{Scalar, text_of}
use Rattle.al_yaml_tree.specs.Node.{Node}
use Rattle.al_tree.specs.Names.{is_event}
use Rattle.al_base.specs.Names.{among}
use Rattle.al_tree.specs.Values.{entries_at, items_in, text_at_key, texts_at, texts_in}
use Rattle.al_rules.specs.Events.{cron_faults, event_faults, filter_faults, filters_faults, input_faults, inputs_faults}
use Rattle.al_rules.specs.Events.{activity_type_faults, event_name_faults, named_faults, on_faults, schedule_faults}
use Rattle.al_rules.specs.Names.{activities_of}
use Rattle.al_rules_settings.specs.Words.{Named, of_scalar, unless, unless_among}
use Rattle.al_base.proofs.Elements.{each_of, map_or}
use Rattle.al_tree.proofs.Kept.{Pair, entries_in_kept, entries_kept, items_in_kept, text_kept, texts_in_kept, texts_kept}
use Rattle.al_rules_settings.proofs.Inside.{Are, Fine, Lies, NameLies, Text, about_lies, both, laid, or_lies, span_lies, unless_lies}

module _ (size : ℕ) where
  types_of : (o : Option (List (List ℕ))) (event : Node) → Fine size event →
      Are size (option_map_or (λ types. flat_map (λ s. unless_among UnknownActivity types (of_scalar s)) (texts_at (codes "types") event)) o [])
  types_of None event f = tt
  types_of (Some types) event f =
      each_of (Text size) (Lies size) (λ s. unless_among UnknownActivity types (of_scalar s))
      (λ s t. unless_lies size (among types (text_of s)) UnknownActivity (of_scalar s) t.place) (texts_at (codes "types") event)
      (texts_kept (laid size) (codes "types") event f)

  types_lie : (name : List ℕ) (event : Node) → Fine size event → Are size (activity_type_faults name event)
  types_lie name event f = types_of (activities_of name) event f

  filter_lies : (filter : Filter) (event : Node) (key : List ℕ) → Fine size event → Are size (filter_faults filter event key)
  filter_lies filter event key f =
      each_of (Text size) (Lies size) (λ s. unless (is_pattern filter (text_of s)) WrongPattern (of_scalar s))
      (λ s t. unless_lies size (is_pattern filter (text_of s)) WrongPattern (of_scalar s) t.place) (texts_at key event) (texts_kept (laid size) key event f)

  keys_lie : (filter : Filter) (event : Node) → Fine size event → (keys : List (List ℕ)) → Are size (flat_map (filter_faults filter event) keys)
  keys_lie filter event f [] = tt
  keys_lie filter event f (k ∷ ks) = both size (filter_faults filter event k) (flat_map (filter_faults filter event) ks) (filter_lies filter event k f) (keys_lie filter event f ks)

  filters_lie : (event : Node) → Fine size event → Are size (filters_faults event)
  filters_lie event f = search (both size, keys_lie)

  schedule_lies : (o : Option (List Item)) (n : Named) → NameLies size n → Are size (schedule_faults o n)
  schedule_lies None n p = about_lies size WrongSchedule n p
  schedule_lies (Some items) n p = unless_lies size (not (is_too_often items)) ScheduleTooOften n p

  cron_lies : (entry : Node) → Fine size entry → Are size (cron_faults entry)
  cron_lies entry f =
      map_or (Text size) (Lies size) (λ s. schedule_faults (schedule_of (of_scalar s).text) (of_scalar s)) (λ s t. schedule_lies (schedule_of (text_of s)) (of_scalar s) t.place)
      (text_at_key (codes "cron") entry) (text_kept (laid size) (codes "cron") entry f)

  input_lies : (types : List (List ℕ)) (m : Scalar × Node) → Pair (Fine size) m → Are size (input_faults types m)
  input_lies types m p =
      map_or (Text size) (Lies size) (λ s. unless_among UnknownInputType types (of_scalar s)) (λ s t. unless_lies size (among types (text_of s)) UnknownInputType (of_scalar s) t.place)
      (text_at_key (codes "type") m.1) (text_kept (laid size) (codes "type") m.1 p.1)

  inputs_lie : (types : List (List ℕ)) (event : Node) → Fine size event → Are size (inputs_faults types event)
  inputs_lie types event f = each_of (Pair (Fine size)) (Lies size) (input_faults types) (input_lies types) (entries_at (codes "inputs") event) (entries_kept (laid size) (codes "inputs") event f)

  event_lies : (name : List ℕ) (event : Node) → Fine size event → Are size (event_faults name event)
  event_lies name event f =
      let crons = each_of (Fine size) (Lies size) cron_faults cron_lies (items_in event) (items_in_kept (laid size) event f) in
      search (or_lies size, crons, inputs_lie, both size, types_lie, filters_lie) depth 9

  named_lies : (m : Scalar × Node) → Pair (Fine size) m → Are size (named_faults m)
  named_lies m p = search (or_lies size, event_lies, about_lies size, span_lies size)

  pub on_lies : (on : Node) → Fine size on → Are size (on_faults on)
  on_lies on f =
      let names = each_of (Text size) (Lies size) (λ s. event_name_faults (of_scalar s))
      (λ s t. unless_lies size (is_event (text_of s)) UnknownEvent (of_scalar s) t.place) (texts_in on) (texts_in_kept (laid size) on f) in
      search (both size, names, each_of (Pair (Fine size)) (Lies size) named_faults named_lies, entries_in_kept (laid size))
