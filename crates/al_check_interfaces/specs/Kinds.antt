-- The parameters of a kind in a signature.
use Rattle.std.specs.Prelude.{List}
use Rattle.al_check_interfaces.specs.declared.interfaces.Parameter.{Parameter}
use Rattle.al_check_interfaces.specs.declared.interfaces.ParameterKind.{ParameterKind}
use Rattle.al_check_interfaces.specs.declared.interfaces.ParameterKind.TheVariants as kind
use Rattle.al_check_interfaces.specs.declared.interfaces.Signature.{Signature}

abbrev pub parameters_of : ParameterKind → Signature → List Parameter
parameters_of kind.Input s = s.inputs
parameters_of kind.Secret s = s.secrets
