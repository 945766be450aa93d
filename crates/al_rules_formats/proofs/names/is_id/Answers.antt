use Rattle.std.proofs.Common.{◌≡◌, ◌≤◌, ◌-◌, ℕ, List, [], ◌∷◌, true, length, take, drop, get_or, refl, sym, ◌∙◌, arith, rules, tests}
use Rattle.std.specs.List.{list_all}
use Rattle.std.proofs.lemmas.List.{take_all}
use Rattle.std.proofs.lemmas.Iterator.{YieldsList-from_slice}
use Rattle.std.proofs.lemmas.Iterator.Search.{all_from_yields_List}
use Rattle.al_expr_grammar.specs.Tokens.{begins_name, goes_on_name}
use Rattle.al_rules_formats.specs.Names.{is_id}
use Rattle.al_rules_formats.proofs.names.is_id.Goals as goal

by_rest : (bs : List ℕ) → 1 ≤ length bs → begins_name (get_or bs 0 0) ≡ true → list_all goes_on_name (take (length bs - 1) (drop 1 bs)) ≡ is_id bs
by_rest [] h first = absurd (omega (arith, h))
by_rest (b ∷ bs) h first = rw (first, take_all (length (b ∷ bs) - 1) bs (omega arith)) refl

pub returns-in-len1-up : goal.returns-in-len1-up
returns-in-len1-up c =
    let told : c.all.result ≡ true = search rules in
    sym told
    ∙ all_from_yields_List goes_on_name _ _ c.all.result c.all.ensures.ran (YieldsList-from_slice _ c.iter.ensures.rest) (λ x b q k. search (rules, tests))
    ∙ by_rest c.args.text.now c.in-len1-up.len_at_least (search rules)
