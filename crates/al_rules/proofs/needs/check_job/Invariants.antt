use Rattle.std.proofs.Common.{◌≡◌, ◌++◌, drop, map}
use Rattle.al_base.specs.NamePlaces.{name_position}
use Rattle.al_tree.specs.Values.{member_of}
use Rattle.al_rules.specs.Needs.{NeedEntry}
use Rattle.al_rules.specs.Private.Components.{labelled_faults}
use Rattle.al_rules_settings.specs.Words.{Named, of_scalar}
use Rattle.al_rules.proofs.needs.check_job.Given as goal

abbrev pub invariant-loop-need : goal.invariant-loop-need
invariant-loop-need l =
    let entry : Named → NeedEntry = λ n. record { job = l.position; key = of_scalar (member_of l.job).0; text = n } in
    l.faults ++ labelled_faults (name_position l.positions) l.labels (map entry (map of_scalar (map (λ s. s.now) (drop l.need-index l.need-items))))
    ≡ l.initial.faults ++ labelled_faults (name_position l.positions) l.labels (map entry (map of_scalar (map (λ s. s.now) l.need-items)))
