use Rattle.std.proofs.Common.{◌≡◌, ◌≢◌, ◌<◌, ◌+◌, ◌∙◌, ℕ, List, Option, None, Some, All, MatchOption, drop, get_or, length, rules, subst, sym, take}
use Rattle.std.proofs.lemmas.Grind.{common_steps}
use Rattle.std.specs.Borrow.{Bor}
use Rattle.std.specs.Option.{option_zip}
use Rattle.al_cli_scripts.specs.Private.Next.{IsLengthOf, IsPutOf}
use Rattle.al_cli_scripts.specs.Script.{IsPathText}
use Rattle.al_cli_scripts.proofs.Prefixes.{cut_at, no_space, put_parts}
use Rattle.al_cli_scripts.proofs.Answering.{rest_is}
use Rattle.al_cli_scripts.proofs.commands.read_put.Goals as goal

-- the last space is at an offset
abbrev Separates : List ℕ → ℕ → Type 0
Separates rest at = (at < length rest) × (get_or rest at 0 ≡ 32) × All (λ b. b ≢ 32) (drop (at + 1) rest)

pub returns-in-None : goal.returns-in-None
returns-in-None c =
    let found : MatchOption c.rposition.result (All (λ b. b ≢ 32) c.args.rest.now) (Separates c.args.rest.now) = search (rules, common_steps) in
    no_space c.args.rest.now (rw c.in-None.is at found)

-- a path and a length, if both are there
both : (rest tail : List ℕ) (at : ℕ) (p : Option (Bor (List ℕ))) (n : Option ℕ)
    → Separates rest at → tail ≡ drop (at + 1) rest
    → MatchOption p (IsPathText (take at rest) → ⊥) (λ path. (path.now ≡ take at rest) × IsPathText (take at rest)) → IsLengthOf tail n
    → IsPutOf rest (option_zip p n)
both rest tail at None n s same path length = λ p len ok small e. path (subst IsPathText (sym (put_parts rest at s.0 s.1 s.2 p len small e).0) ok)
both rest tail at (Some p) None s same path length = λ q len ok small e. length len small (same ∙ (put_parts rest at s.0 s.1 s.2 q len small e).1)
both rest tail at (Some p) (Some n) s same path length =
    (rw path.0 path.1, length.0, rw (path.0, ← length.1, same) (cut_at rest at 32 s.0 s.1))

pub returns-in-Some : goal.returns-in-Some
returns-in-Some c =
    let found : MatchOption c.rposition.result (All (λ b. b ≢ 32) c.args.rest.now) (Separates c.args.rest.now) = search (rules, common_steps) in
    rw c.zip.ensures (both c.args.rest.now _ c.in-Some.space c.read_path.result c.read_length.result (rw c.in-Some.is at found)
    (rest_is c.args.rest.now (c.in-Some.space + 1)) c.read_path.ensures c.read_length.ensures)
