-- Names as their bytes.
use Rattle.std.specs.Prelude.{ℕ, List, map}
use Rattle.al_expr_types.specs.declared.names.Names.{Names}

abbrev pub names_in : Names → List (List ℕ)
names_in ns = map (λ n. n.now) ns.names.items
