-- What functions take and return.
use Rattle.std.specs.Prelude.{ℕ, Bool, true, ◌||◌, not, nat_eq, if◌then◌else◌}
use Rattle.al_expr_names.specs.declared.names.Function.{Function}
use Rattle.al_expr_names.specs.declared.names.Function.TheVariants as function
use Rattle.al_expr_names.specs.declared.signatures.Wanted.{Wanted}
use Rattle.al_expr_names.specs.declared.signatures.Wanted.TheVariants as wants
use Rattle.al_expr_names.specs.declared.signatures.Parameters.{Parameters}
use Rattle.al_expr_names.specs.declared.signatures.Parameters.TheVariants.{Zero, One, Two, OneOrTwo}
use Rattle.al_expr_names.specs.declared.signatures.Parameters.TheVariants.{OneOrMore}
use Rattle.al_expr_names.specs.declared.signatures.Returned.{Returned}
use Rattle.al_expr_names.specs.declared.signatures.Returned.TheVariants as returns
use Rattle.al_expr_names.specs.declared.signatures.Signature.{Signature}
use Rattle.al_types.specs.Types.{Type', Any, Bool', String, assignable_type, is_array, is_object}
use Rattle.al_types.specs.Types.{is_collection}

abbrev pub giving : Parameters → Returned → Signature
giving ps r = record { parameters = ps; returned = r }

abbrev pub signature : Function → Signature
signature function.Contains = giving (Two wants.NotObject wants.NotCollection) returns.Bool
signature function.StartsWith = giving (Two wants.String wants.String) returns.Bool
signature function.EndsWith = giving (Two wants.String wants.String) returns.Bool
signature function.Format = giving (OneOrMore wants.String wants.Any) returns.String
signature function.Join = giving (OneOrTwo wants.ArrayOrString wants.String) returns.String
signature function.ToJson = giving (One wants.Any) returns.String
signature function.FromJson = giving (One wants.String) returns.Any
signature function.HashFiles = giving (OneOrMore wants.String wants.String) returns.String
signature function.Success = giving Zero returns.Bool
signature function.Always = giving Zero returns.Bool
signature function.Cancelled = giving Zero returns.Bool
signature function.Failure = giving Zero returns.Bool

-- whether a call can have this many arguments
abbrev pub takes_count : Parameters → ℕ → Bool
takes_count Zero n = nat_eq n 0
takes_count (One a) n = nat_eq n 1
takes_count (Two a b) n = nat_eq n 2
takes_count (OneOrTwo a b) n = nat_eq n 1 || nat_eq n 2
takes_count (OneOrMore a b) n = not (nat_eq n 0)

-- which types the argument at an index, from 0, can have
abbrev pub parameter_at : Parameters → ℕ → Wanted
parameter_at Zero n = wants.Any
parameter_at (One a) n = a
parameter_at (Two a b) n = if nat_eq n 0 then a else b
parameter_at (OneOrTwo a b) n = if nat_eq n 0 then a else b
parameter_at (OneOrMore a b) n = if nat_eq n 0 then a else b

abbrev pub accepts : Wanted → Type' → Bool
accepts wants.Any t = true
accepts wants.NotObject t = not (is_object t)
accepts wants.NotCollection t = not (is_collection t)
accepts wants.String t = assignable_type t String
accepts wants.ArrayOrString t = is_array t || assignable_type t String

abbrev pub returned_type : Returned → Type'
returned_type returns.Any = Any
returned_type returns.Bool = Bool'
returned_type returns.String = String
