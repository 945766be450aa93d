use Rattle.std.proofs.Common.{◌∙◌, ap, arith, length, refl, sym}
use Rattle.std.proofs.lemmas.List.{length-map}
use Rattle.std.specs.Prelude.{zip}
use Rattle.al_base.proofs.Growing.{begins_trans}
use Rattle.al_types.specs.Types.{Present, field_at, fuse_optional, optional}
use Rattle.al_expr_types.specs.Joining.{join_in}
use Rattle.al_expr_types.specs.Names.{names_in}
use Rattle.al_expr_types.specs.Types.{named_types, object_in, parts_of_all, type_in}
use Rattle.al_expr_types.proofs.Below.{types_same}
use Rattle.al_expr_types.proofs.Gathering.{rest_is}
use Rattle.al_expr_types.proofs.Indexes.{index_named}
use Rattle.al_expr_types.proofs.Returned.{both_ok}
use Rattle.al_expr_types.proofs.Keeping.{has_old, joined_longer, joined_wider, longer, same_there}
use Rattle.al_expr_types.proofs.types.Types.index.Goals as goal

pub types_of-requires : goal.types_of-requires
types_of-requires c = c.in_ok-merging.ensures.below (c.new.ensures.below (length c.args.self.now.objects.items))

pub join_type-requires : goal.join_type-requires
join_type-requires c =
    let entry = c.args.self.now.objects.items in
    let one = c.types_of.new.self.objects.items in
    joined_wider (length entry) (length one) (longer one entry c.in_ok-types.ensures.kept) c.in_ok-others.others (c.in_ok-others.ensures.below refl)

pub invariant_of-of : goal.invariant_of-of
invariant_of-of c =
    let merging = c.in_ok-merging.merging in
    let entry = c.args.self.now.objects.items in
    let one = c.types_of.new.self.objects.items in
    let ts = c.in_ok-types.types.items in
    let made = length-map ts (λ t. Present (type_in (parts_of_all one) t)) in
    let were = length-map merging.joins.items (join_in (parts_of_all entry)) in
    omega (arith, ap length c.into_names-names.ensures, merging.even, ap length c.in_ok-types.ensures.types, made, were)

pub returns-clause-index : goal.returns-clause-index
returns-clause-index c =
    let entry = c.args.self.now.objects.items in
    let one = c.types_of.new.self.objects.items in
    let two = c.join_type.new.self.objects.items in
    let merging = c.in_ok-merging.merging in
    let ns = names_in merging.names in
    let ts = c.in_ok-types.types.items in
    let types = c.in_ok-types.ensures in
    let rest = c.in_ok-rest.ensures in
    let others = c.in_ok-others.others in
    let below = c.in_ok-others.ensures.below refl in
    let both = begins_trans (parts_of_all entry) (parts_of_all one) (parts_of_all two) types.kept rest.kept in
    let le = longer two entry both in
    let there = sym (same_there two entry c.args.n both c.requires) in
    let later = types_same _ _ (length one) (length two) (has_old two one rest.kept) ts types.known in
    both_ok c.of.result c.of.ensures.parts c.of.ensures.below
    (λ f parts fits. (
      (omega (arith, c.requires, le), fits (length two) later.0 rest.known),
      (
        ap (λ p. p.0) (parts (parts_of_all two))
            ∙ (λ d n.
            (ap (λ l. optional (field_at n (named_types (parts_of_all two) l ts))) c.into_names-names.ensures
            ∙ ap (λ us. optional (field_at n (zip ns us))) later.1
            ∙ index_named (parts_of_all entry) (parts_of_all one) ns merging.joins.items ts types.types n
            ∙ ap (λ f. f n) c.in_ok-merging.ensures.found
            ∙ ap (λ f. fuse_optional (f n) ((object_in (parts_of_all entry) c.args.n).0 n)) (c.new.ensures.found (parts_of_all entry))
            ∙ ap (λ p. p.0 n) there) d),
        ap (λ p. p.1) (parts (parts_of_all two)) ∙ rest_is (parts_of_all two) c.in_ok-rest.rest ∙ rest.ty
            ∙ joined_longer one entry others types.kept below ∙ c.in_ok-others.ensures.part ∙ ap (λ p. p.1) there,
      ),
    ))
