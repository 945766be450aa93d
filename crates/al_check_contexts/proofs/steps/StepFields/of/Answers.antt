use Rattle.std.proofs.Common.{◌+◌, ◌∙◌, ap, arith, get_or, length, subst, sym}
use Rattle.std.proofs.lemmas.List.{length-append, length-map}
use Rattle.std.specs.Option.{option_copied}
use Rattle.al_base.proofs.Growing.{begins_trans}
use Rattle.al_yaml_tree.specs.View.{view}
use Rattle.al_check_contexts.specs.Contexts.{step_field}
use Rattle.al_expr_types.specs.Prefixes.{HasPrefix, map_in}
use Rattle.al_expr_types.specs.Tables.{objects_of}
use Rattle.al_check_contexts.specs.Made.{known_from}
use Rattle.al_check_objects.specs.Numbers.{Lists}
use Rattle.al_expr_types.specs.FieldMaps.{fields_in, is_map_below}
use Rattle.al_check_contexts.specs.Private.Owners.{owner_view}
use Rattle.al_check_contexts.specs.Steps.{IsCount, first_fields}
use Rattle.al_check_objects.proofs.Numbers.{list_long}
use Rattle.al_check_contexts.proofs.StepLemmas.{counts_more, fields_next}
use Rattle.al_check_contexts.proofs.steps.StepFields.of.Goals as goal

pub loop-i-preserved : goal.loop-i-preserved
loop-i-preserved c =
    let known = known_from c.args.basis.now in
    let job = option_copied c.in-Some.owner.job in
    let at = first_fields known (owner_view c.in-Some.owner) in
    let steps = c.in-Some.owner.steps.now in
    let i = c.loop-i.i in
    let x = c.index-steps-i.result in
    let now = c.and_step.new.types in
    let cs = c.loop-i.counts.items in
    let next = fields_next view known job steps i x c.loop-i-test.true c.index-steps-i.is in
    let fields : Lists now c.in_ok-more.more (at (i + 1)) = subst (Lists now c.in_ok-more.more) (sym next) (c.in_ok-more.ensures.fields (at i) c.loop-i.invariant.fields) in
    let all = c.loop-i.invariant.all in
    record {
      fields = fields;
      all = ap length c.in_ok-push-2.ensures.items ∙ length-append cs _ ∙ omega (arith, all);
      counts = counts_more at cs c.push-in-loop-i.new.self.items c.len.result i (step_field known job (i, view x)) all c.in_ok-push-2.ensures.items next
          (c.len.ensures ∙ list_long now c.in_ok-more.more (at (i + 1)) fields) c.loop-i.invariant.counts;
      keeps = c.in_ok-more.ensures.keeps;
      kept = begins_trans (objects_of c.args.types.now) (objects_of c.loop-i.types) (objects_of now) c.loop-i.invariant.kept c.in_ok-more.ensures.kept;
    }

pub returns-clause-steps : goal.returns-clause-steps
returns-clause-steps c =
    let at = first_fields (known_from c.args.basis.now) (owner_view c.in-Some.owner) in
    let ms = objects_of c.loop-i.types in
    let steps = c.in-Some.owner.steps.now in
    let same = c.in_ok-prefixes-2.ensures.map ∙ c.into_map.ensures in
    let all = c.loop-i.invariant.all in
    let len = length-map steps view in
    rw c.in-Some.is (record {
      all = all ∙ omega (arith, len, c.loop-i-test.false, c.loop-i.auto.i-end);
      counts = λ k lt. subst (λ ts. IsCount ts (get_or c.loop-i.counts.items k 0) (at k)) (sym c.loop-i.invariant.fields.are ∙ ap (fields_in ms) (sym same))
          (c.loop-i.invariant.counts k lt);
    })

pub returns-clause-prefixes : goal.returns-clause-prefixes
returns-clause-prefixes c =
    let types = c.loop-i.types in
    let fields = c.loop-i.fields in
    let same = c.in_ok-prefixes-2.ensures.map ∙ c.into_map.ensures in
    let long = list_long types fields _ c.loop-i.invariant.fields in
    let as_many = ap (λ m. length m.types.items) same in
    record {
      below = ap (is_map_below (length types.objects.items)) same ∙ c.loop-i.invariant.fields.known;
      base = subst (HasPrefix types (map_in c.in_ok-prefixes-2.prefixes)) (sym c.in_ok-prefixes-2.ensures.base) tt;
      inside = λ k lt. let few = (c.loop-i.invariant.counts k lt).0 in omega (arith, few, long, as_many);
    }
