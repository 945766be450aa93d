-- The parameters of a file: which of them have a name, ignoring ASCII case, and which are
-- mandatory.
use Rattle.std.specs.Prelude.{ℕ, List, Bool, ◌&&◌, not, map}
use Rattle.std.specs.List.{filter}
use Rattle.al_base.specs.Names.{same_name}
use Rattle.al_tree.specs.Declarations.{named_among}
use Rattle.al_check_interfaces.specs.declared.interfaces.Parameter.{Parameter}

abbrev pub is_parameter : List ℕ → Parameter → Bool
is_parameter name p = same_name p.name name

-- one of these has the name
abbrev pub has_parameter : List Parameter → List ℕ → Bool
has_parameter ps = named_among (map (λ p. p.name) ps)

-- a parameter is mandatory: each call has to pass it
abbrev pub is_mandatory : Parameter → Bool
is_mandatory p = p.required && not p.has_default

abbrev pub mandatory_of : List Parameter → List Parameter
mandatory_of = filter is_mandatory
