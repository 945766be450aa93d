use Rattle.std.proofs.Common.{◌≡◌, ℕ, ◌∙◌, ap, Ok}
use Rattle.std.specs.Str.{chars}
use Rattle.std.proofs.lemmas.Iterator.{items_from_collect, YieldsList-from_chars}
use Rattle.al_rules_formats.specs.Patterns.{is_right}
use Rattle.al_rules_formats.proofs.patterns.is_pattern.Goals as goal

pub returns : goal.returns
returns c =
    let read : c.in_ok-characters.characters.items ≡ chars c.as_str.result.now =
    items_from_collect {E = ℕ} (Ok c.in_ok-characters.characters) c.in_ok-characters.ensures.ran (YieldsList-from_chars c.as_str.result.now c.as_str.utf8 c.chars.ensures.rest) in
    c.is_right_pattern.ensures
    ∙ ap (is_right c.args.filter) (c.as_slice.ensures.value ∙ read ∙ ap chars (c.as_str.ensures.value ∙ c.in_ok-text.ensures.lossy))
