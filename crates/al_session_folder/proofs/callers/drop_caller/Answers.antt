use Rattle.std.proofs.Common.{rules, ◌≡◌, sym, ap, ◌∙◌, Some, None, false, is_some, List, ℕ}
use Rattle.std.specs.Prelude.{bytes_eq}
use Rattle.indexmap.specs.IndexSet.{contains_text}
use Rattle.al_session_folder.specs.Kept.{is_caller}
use Rattle.al_session_folder.proofs.Indexing.{callers_set, dropped_from, gone_twice, known_at, name_dropped, none_at, not_there}
use Rattle.al_session_folder.proofs.callers.drop_caller.Goals as goal

pub returns-else-is_empty : goal.returns-else-is_empty
returns-else-is_empty c =
    let w = c.swap_remove.new.self in
    let p = c.args.candidate.now in
    let old = c.args.callers.now in
    let here = sym c.in-Some.ensures.value in
    let set = callers_set old (c.get_mut.follows.lender w) p (Some w) ((c.get_mut.follows.holds w).3 (ap is_some here)) in
    dropped_from (is_caller old) _ p (contains_text w) (contains_text c.in-Some.known.now) set (known_at old p c.in-Some.known.now here) c.args.path.now
    (name_dropped c.in-Some.known.now w c.args.path.now c.swap_remove.ensures.updates)

pub returns-then-is_empty : goal.returns-then-is_empty
returns-then-is_empty c =
    let w = c.swap_remove.new.self in
    let p = c.args.candidate.now in
    let old = c.args.callers.now in
    let here = sym c.in-Some.ensures.value in
    let mid = c.get_mut.follows.lender w in
    let set = callers_set old mid p (Some w) ((c.get_mut.follows.holds w).3 (ap is_some here)) in
    let gone = callers_set mid c.swap_remove-then-is_empty.new.self p None c.swap_remove-then-is_empty.ensures.updates in
    let empty : (q : List ℕ) → contains_text w q ≡ false = λ q. search rules in
    dropped_from (is_caller old) _ p (contains_text w) (contains_text c.in-Some.known.now)
    (λ c' q. gone_twice (bytes_eq c' p) _ (is_caller mid c' q) (contains_text w q) (is_caller old c' q) (gone c' q) (set c' q) (empty q))
    (known_at old p c.in-Some.known.now here) c.args.path.now (name_dropped c.in-Some.known.now w c.args.path.now c.swap_remove.ensures.updates)

pub returns-in_default : goal.returns-in_default
returns-in_default c = λ c' q. ap (λ m. is_caller m c' q) c.get_mut.follows.holds-at-none
    ∙ not_there c' c.args.candidate.now q c.args.path.now (is_caller c.args.callers.now c' q)
    (none_at c.args.callers.now c.args.candidate.now (sym c.in_default.ensures.value) c' q)
