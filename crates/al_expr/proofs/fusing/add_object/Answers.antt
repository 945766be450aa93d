use Rattle.std.proofs.Common.{map}
use Rattle.std.proofs.lemmas.Result.{IfOk-weaker}
use Rattle.al_expr.specs.Listings.{parts_in}
use Rattle.al_expr.specs.Trees.{field_of, rest_of}
use Rattle.al_expr.proofs.Added.{whole}
use Rattle.al_expr.proofs.fusing.add_object.Goals as goal

pub returns : goal.returns
returns c =
    IfOk-weaker c.add_rest.result _ _
    (λ l is. whole (parts_in c.args.so_far) (parts_in c.in_ok-both.both) (parts_in l) (map field_of c.args.fields.now) (rest_of c.args.rest.now) c.in_ok-both.ensures is)
    c.add_rest.ensures
