use Rattle.std.proofs.Common.{◌≡◌, ◌∙◌, [], ◌∷◌, ap, append-nil, is_some, map, refl, sym, true, false}
use Rattle.std.proofs.lemmas.List.{map-append}
use Rattle.al_base.proofs.Sets.{list_more}
use Rattle.al_base.specs.NamePlaces.{name_place, name_position}
use Rattle.al_tree.specs.Keys.{keys_in}
use Rattle.al_tree.specs.Values.{member_of}
use Rattle.al_check_interfaces.proofs.Positions.{has_place}
use Rattle.al_check_calls.specs.CallFaults.{given_by}
use Rattle.al_check_calls.specs.Private.ComparisonViews.{compared_of}
use Rattle.al_check_calls.specs.Private.Comparing.{fault_unless_given, gives, parameter_if_given}
use Rattle.al_check_calls.proofs.missing.check_parameters.Goals as goal

pub loop-parameter-preserved-then-is_some : goal.loop-parameter-preserved-then-is_some
loop-parameter-preserved-then-is_some c =
    let q = compared_of c.args.call in
    let x = c.parameter-item.result in
    let keys = keys_in (given_by q.kind q.call.site.node) in
    let place = c.in_ok-names.ensures.position ∙ ap (λ ms. name_place (keys_in ms)) (ap (map member_of) c.as_slice.ensures.value ∙ c.in_ok-given.ensures) in
    let is : gives q x.now ≡ true = sym (has_place keys x.now.name) ∙ sym (c.is_some.ensures
    ∙ ap is_some (c.in_ok-get.ensures ∙ ap (name_position c.in_ok-names.names) c.as_bytes-name.ensures ∙ ap (λ f. f x.now.name) place)) ∙ c.if-is_some.true in
    let was = c.loop-parameter.invariant in
    let left = c.loop-parameter.left.items in
    record {
      faults = list_more (fault_unless_given q) (λ p. p.now) c.args.parameters.now c.loop-parameter.parameter-index x c.args.faults.now c.loop-parameter.faults
          c.loop-parameter.faults c.loop-parameter-test.true c.parameter-item.is was.faults (rw (is, append-nil) refl);
      left = list_more (parameter_if_given q) (λ p. p.now) c.args.parameters.now c.loop-parameter.parameter-index x [] (map (λ p. p.now) left)
          (map (λ p. p.now) c.push.new.self.items) c.loop-parameter-test.true c.parameter-item.is was.left
          (rw is (ap (map (λ p. p.now)) c.in_ok-push.ensures.items ∙ map-append (λ p. p.now) left (x ∷ [])));
    }

pub loop-parameter-preserved : goal.loop-parameter-preserved
loop-parameter-preserved c =
    let q = compared_of c.args.call in
    let x = c.parameter-item.result in
    let keys = keys_in (given_by q.kind q.call.site.node) in
    let place = c.in_ok-names.ensures.position ∙ ap (λ ms. name_place (keys_in ms)) (ap (map member_of) c.as_slice.ensures.value ∙ c.in_ok-given.ensures) in
    let is : gives q x.now ≡ false = sym (has_place keys x.now.name) ∙ sym (c.is_some.ensures
    ∙ ap is_some (c.in_ok-get.ensures ∙ ap (name_position c.in_ok-names.names) c.as_bytes-name.ensures ∙ ap (λ f. f x.now.name) place)) ∙ c.if-is_some.false in
    let reported = rw (c.span.ensures, c.code_at-code.ensures, c.missing_code.ensures, c.as_bytes-name.ensures, c.called_name-called.ensures) at c.in_ok-report_two.ensures in
    let was = c.loop-parameter.invariant in
    let left = c.loop-parameter.left.items in
    record {
      faults = list_more (fault_unless_given q) (λ p. p.now) c.args.parameters.now c.loop-parameter.parameter-index x c.args.faults.now c.loop-parameter.faults
          c.report_two.new.self c.loop-parameter-test.true c.parameter-item.is was.faults (rw is reported);
      left = list_more (parameter_if_given q) (λ p. p.now) c.args.parameters.now c.loop-parameter.parameter-index x [] (map (λ p. p.now) left)
          (map (λ p. p.now) left) c.loop-parameter-test.true c.parameter-item.is was.left (rw (is, append-nil) refl);
    }
