-- What contracts see of collected fields.
use Rattle.std.specs.Prelude.{map}
use Rattle.al_types.specs.Types.{Parts, parts_with}
use Rattle.al_expr.specs.Trees.{field_of, rest_of}
use Rattle.al_expr.specs.declared.listings.Listing.{Listing}

abbrev pub parts_in : Listing → Parts
parts_in l = parts_with (map field_of l.fields.items) (rest_of l.rest)
