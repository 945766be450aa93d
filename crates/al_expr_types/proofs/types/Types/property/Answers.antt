use Rattle.std.proofs.Common.{arith}
use Rattle.al_expr_types.proofs.Keeping.{longer, same_there}
use Rattle.al_expr_types.proofs.types.Types.property.Goals as goal

pub find-requires : goal.find-requires
find-requires c =
    let le = longer c.prepare.new.self.objects.items c.args.self.now.objects.items c.prepare.ensures.kept in
    omega (arith, c.requires, le)

pub returns-clause-ty : goal.returns-clause-ty
returns-clause-ty c =
    rw (same_there c.prepare.new.self.objects.items c.args.self.now.objects.items c.args.n c.prepare.ensures.kept c.requires) at c.find.ensures.ty
