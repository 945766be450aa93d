-- The faults of `needs`, where jobs have the same label if and only if each leads to the other.
use Rattle.std.specs.Prelude.{ℕ, List, [], ◌∷◌, Bool, Option, Some, None, nat_eq, slice_index_or}
use Rattle.std.specs.Prelude.{if◌then◌else◌}
use Rattle.std.specs.List.{flat_map}
use Rattle.std.specs.Option.{option_eq}
use Rattle.al_base.specs.declared.faults.Fault.{Fault}
use Rattle.al_base.specs.declared.codes.RuleCode.TheVariants.{UndefinedJob}
use Rattle.al_rules.specs.Needs.{NeedEntry, cycle_fault}
use Rattle.al_rules_settings.specs.Words.{Named, about}

-- whether two jobs have the same label
abbrev pub has_label_of : List (Option ℕ) → ℕ → ℕ → Bool
has_label_of labels j k =
    option_eq nat_eq (slice_index_or labels j None) (slice_index_or labels k None)

-- the faults of an entry, given the position of the job that it names, if there is one
abbrev pub labelled_fault : List (Option ℕ) → NeedEntry → Option ℕ → List Fault
labelled_fault labels n None = about UndefinedJob n.text
labelled_fault labels n (Some j) = if has_label_of labels j n.job then cycle_fault n ∷ [] else []

-- the position of the job that a text names
abbrev pub named_by : (List ℕ → Option ℕ) → Named → Option ℕ
named_by position n = position n.text

-- the faults of entries: a job that is needed is on a cycle if it has the label of the job that
-- needs it
abbrev pub labelled_faults : (List ℕ → Option ℕ) → List (Option ℕ) → List NeedEntry → List Fault
labelled_faults position labels = flat_map (λ n. labelled_fault labels n (named_by position n.text))
