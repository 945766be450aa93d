use Rattle.std.proofs.Common.{ap, sym, ◌∙◌}
use Rattle.std.specs.Option.{option_copied, option_flatten}
use Rattle.std.specs.Prelude.{unwrap_or}
use Rattle.al_check_contexts.specs.Lookups.{list_at, lists_of}
use Rattle.al_check_contexts.proofs.Found.{names_found, or_none}
use Rattle.al_check_contexts.proofs.known.Outputs.position.Goals as goal

pub returns : goal.returns
returns c =
    let outputs = c.args.self.now in
    let found = option_copied c.get.result in
    ap (list_at outputs) (c.unwrap_or.ensures ∙ ap (λ o. unwrap_or o c.unknown_position.result) (c.flatten.ensures ∙ ap option_flatten c.copied-found.ensures))
    ∙ or_none (lists_of outputs) c.unknown_position.result found c.unknown_position.ensures
    ∙ sym (names_found outputs c.args.job c.args.step found c.get.ensures.value)
