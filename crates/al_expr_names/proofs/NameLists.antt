-- The first context or function with a name is that of the table.
use Rattle.std.proofs.Common.{◌≡◌, ℕ, List, find, map, Option}
use Rattle.al_base.specs.Names.{same_name}
use Rattle.al_expr_names.specs.Names.{context_name, context_of, contexts, function_name, function_of, functions}
use Rattle.al_expr_names.specs.declared.names.Context.{Context}
use Rattle.al_expr_names.specs.declared.names.Function.{Function}

pub context_found : {found : Option Context} (n : List ℕ) → found ≡ find (λ c. same_name (context_name c) n) (map (λ row. row.1) contexts) → found ≡ context_of n
context_found n is = is

pub function_found : {found : Option Function} (n : List ℕ) → found ≡ find (λ f. same_name (function_name f) n) (map (λ row. row.1) functions) → found ≡ function_of n
function_found n is = is
