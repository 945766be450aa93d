use Rattle.std.proofs.Common.{◌≡◌, ◌∙◌, ap, sym}
use Rattle.std.proofs.lemmas.Result.{IfOk-weaker}
use Rattle.std.specs.Prelude.{is_some, nat_lt, not}
use Rattle.al_types.specs.TypeParts.{string_unless}
use Rattle.al_types.specs.Types.{fuse_optional}
use Rattle.al_expr_types.specs.Joining.{join_in}
use Rattle.al_expr_types.specs.Types.{rest_in}
use Rattle.al_expr_types.proofs.Gathering.{has_string, one_string, part_of_strings}
use Rattle.al_expr_types.proofs.reading.gather_strings.Goals as goal
use Rattle.al_expr_types.proofs.reading.gather_strings.Goals.{in-Named+in_ok-position-in-Named, in-Rest, in-All}

pub returns-clause-part : goal.returns-clause-part
returns-clause-part c =
    let ns = c.args.names.now in
    let has : c.match-part.has_string ≡ has_string ns c.args.part = elim c.match-part.branch [
      | in-Named+in_ok-position-in-Named w ↦
          w.has_string-is ∙ w.is_some-has_string.ensures ∙ ap is_some w.in_ok-position-in-Named.ensures ∙ ap (has_string ns) (sym w.in-Named.is)
      | in-Rest w ↦ w.has_string-is ∙ ap (has_string ns) (sym w.in-Rest.is)
      | in-All w ↦ w.has_string-is ∙ ap (nat_lt 0) w.len.ensures ∙ ap (has_string ns) (sym w.in-All.is)
    ] in
    IfOk-weaker c.and_one.result _ _
    (λ j is ms. is ms ∙ ap (fuse_optional (join_in ms c.args.so_far))
    (ap (rest_in ms) c.then_some.ensures ∙ one_string ms c.match-part.has_string ∙ ap (λ b. string_unless (not b)) has ∙ sym (part_of_strings ns c.args.part)))
    c.and_one.ensures.part
