-- The names of jobs, steps and environment variables (GitHub, "Workflow syntax", `jobs.<job_id>`,
-- `env`).
use Rattle.std.specs.Prelude.{ℕ, List, [], ◌∷◌, length, Bool, false, ◌==◌, ◌||◌, ◌&&◌, nat_lt, not}
use Rattle.std.specs.List.{list_all}
use Rattle.al_base.specs.Ascii.{ascii}
use Rattle.al_expr_grammar.specs.Tokens.{begins_name, goes_on_name}

-- an id, which expressions name: a letter or `_`, then letters, digits, `_` and `-`
abbrev pub is_id : List ℕ → Bool
is_id [] = false
is_id (b ∷ bs) = begins_name b && list_all goes_on_name bs

-- the name of an environment variable: not empty, and without a space, `=` and `&`
abbrev pub is_variable_byte : ℕ → Bool
is_variable_byte c = not (c == ascii " " || c == ascii "=" || c == ascii "&")

abbrev pub is_variable : List ℕ → Bool
is_variable bs = nat_lt 0 (length bs) && list_all is_variable_byte bs
