-- Chains from `github` whose text is untrusted, such as the title of an issue or the name of a
-- branch.
use Rattle.std.specs.Prelude.{codes, ℕ, List, [], ◌∷◌, ◌==◌, Option, find}
use Rattle.std.specs.List.{slice_split}
use Rattle.std.specs.Option.{option_map_or}
use Rattle.std.specs.Cmp.Lexicographic.{pointwise}
use Rattle.al_base.specs.Ascii.{ascii}
use Rattle.al_expr_grammar.specs.Tree.{StepTree, Property, All, Index}
use Rattle.al_base.specs.Names.{same_name}
use Rattle.al_expr_typing.specs.Literals.{literal_text}

abbrev pub untrusted_chains : List (List ℕ)
untrusted_chains =
    codes "github.head_ref" ∷ codes "github.event.issue.title" ∷ codes "github.event.issue.body" ∷
    codes "github.event.pull_request.title" ∷ codes "github.event.pull_request.body" ∷
    codes "github.event.pull_request.head.ref" ∷ codes "github.event.pull_request.head.label" ∷
    codes "github.event.comment.body" ∷ codes "github.event.review.body" ∷
    codes "github.event.discussion.title" ∷ codes "github.event.discussion.body" ∷
    codes "github.event.pages.*.page_name" ∷ codes "github.event.commits.*.message" ∷
    codes "github.event.commits.*.author.name" ∷ codes "github.event.commits.*.author.email" ∷
    codes "github.event.head_commit.message" ∷ codes "github.event.head_commit.author.name" ∷
    codes "github.event.head_commit.author.email" ∷ []

-- a step as a part of a chain: `['x']` as `x`, every other index as `*`
abbrev pub chain_part : StepTree → List ℕ
chain_part (Property d b s) = b
chain_part (All a b) = codes "*"
chain_part (Index a t b) = option_map_or (λ text. text.0) (literal_text t) (codes "*")

-- the untrusted chain with these parts, if there is one
abbrev pub untrusted_chain : List (List ℕ) → Option (List ℕ)
untrusted_chain ps =
    find (λ c. pointwise same_name (slice_split (λ b. b == ascii ".") c) ps) untrusted_chains
