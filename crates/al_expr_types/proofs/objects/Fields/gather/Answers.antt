use Rattle.std.proofs.Common.{◌≤◌, ◌∙◌, ap, arith, length, map, sym, take}
use Rattle.std.proofs.lemmas.Bool.{and_parts}
use Rattle.std.proofs.lemmas.List.{length-take}
use Rattle.std.proofs.lemmas.Result.{IfOk-weaker}
use Rattle.std.specs.List.{list_all}
use Rattle.al_types.specs.Types.{fuse_optional}
use Rattle.al_expr_types.specs.Joining.{join_in}
use Rattle.al_expr_types.specs.Parts.{part_in}
use Rattle.al_expr_types.specs.Names.{names_in}
use Rattle.al_expr_types.specs.Types.{common_of, fields_parts, is_below, is_rest_below, rest_in, type_in}
use Rattle.al_expr_types.proofs.Below.{all_taken}
use Rattle.al_expr_types.proofs.Gathering.{common_zipped, fields_then_rest}
use Rattle.al_expr_types.proofs.objects.Fields.gather.Goals as goal

pub returns-in_ok-all-in-All-clause-part : goal.returns-in_ok-all-in-All-clause-part
returns-in_ok-all-in-All-clause-part c =
    let f = c.args.self.now in
    let ts = f.map.value.types.items in
    let ns = names_in f.map.value.names in
    let taken = c.as_slice.ensures.value ∙ ap (λ m. m.types.items) c.deref-in-All.ensures in
    let few : length (take f.count ts) ≤ length ns = omega (arith, length-take f.count ts, f.map.value.even) in
    IfOk-weaker c.and_one-in-All.result _ _
    (λ j is ms.
    let start = join_in ms c.args.so_far in
    let all = c.in_ok-all-in-All.ensures.part ms ∙ ap (λ xs. fuse_optional start (common_of (map (type_in ms) (take f.count xs)))) taken
    ∙ ap (fuse_optional start) (sym (common_zipped (type_in ms) ns (take f.count ts) few)) in
    fields_then_rest start (join_in ms c.in_ok-all-in-All.all) (join_in ms j) _ (rest_in ms f.rest) all (is ms)
    ∙ ap (λ p. fuse_optional start (part_in p (fields_parts ms f))) (sym c.in-All.is))
    c.and_one-in-All.ensures.part

pub returns-in_ok-all-in-All-clause-below : goal.returns-in_ok-all-in-All-clause-below
returns-in_ok-all-in-All-clause-below c =
    let f = c.args.self.now in
    let ts = f.map.value.types.items in
    let taken = c.as_slice.ensures.value ∙ ap (λ m. m.types.items) c.deref-in-All.ensures in
    IfOk-weaker c.and_one-in-All.result _ _
    (λ j below n h k.
    let both = and_parts (list_all (is_below n) ts) (is_rest_below n f.rest) h in
    let types = ap (λ xs. list_all (is_below n) (take f.count xs)) taken ∙ all_taken (is_below n) f.count ts both.0 in
    below n both.1 (c.in_ok-all-in-All.ensures.below n types k))
    c.and_one-in-All.ensures.below
