-- Laws of reading from one state to the next, for every type of what is read.
use Rattle.std.proofs.Common.{◌≡◌, ℕ, ◌+◌, List, [], ◌∷◌, ◌++◌, refl, ap, ◌∙◌, arith, Bool, true, false, ◌||◌, cond, Option, Some, None, Result, Ok, Err}
use Rattle.std.specs.Prelude.{nat_lt}
use Rattle.al_base.specs.declared.codes.YamlCode.{YamlCode}
use Rattle.al_scalar.specs.declared.faults.FaultAt.{FaultAt}
use Rattle.al_yaml_tree.specs.Reading.{Start, start_of, Anchor, gives_with_anchor, no_anchors, with_start}
use Rattle.al_yaml_tree.specs.Reading.{KnownAnchors, Outcome, Reading, gives, fails, of_result, after, next, ◌>>=◌}
use Rattle.al_yaml_tree.specs.Limits.{broken_limit, unless_fault, within_limits, nodes_listed, text_listed}
use Rattle.al_base.specs.Limits.{deepest_collection, most_alias_text, most_nodes}
use Rattle.al_yaml_parts.specs.Reads.{State, with_state, state_after, run_outcome, run, with_nodes, state_with_anchor, at_start}

limit-none : (a d : Bool) (e f : FaultAt) (below below' rest : Option FaultAt) → cond a (Some e) (cond d (Some f) below) ≡ None
    → (below ≡ None → below' ≡ rest) → cond a (Some e) (cond d (Some f) below') ≡ rest
limit-none true d e f below below' rest h k = cc
limit-none false true e f below below' rest h k = cc
limit-none false false e f below below' rest h k = k h

limit-some : (a d : Bool) (e f x : FaultAt) (below below' : Option FaultAt) → cond a (Some e) (cond d (Some f) below) ≡ Some x
    → (below ≡ Some x → below' ≡ Some x) → cond a (Some e) (cond d (Some f) below') ≡ Some x
limit-some true d e f x below below' h k = h
limit-some false true e f x below below' h k = h
limit-some false false e f x below below' h k = k h

-- starts that break no limit, before others
broken_limit-append : (n t : ℕ) (xs ys : List Start) → broken_limit n t xs ≡ None → broken_limit n t (xs ++ ys) ≡ broken_limit (n + nodes_listed xs) (t + text_listed xs) ys
broken_limit-append n t [] ys h =
    let e : n + 0 ≡ n = omega arith in
    let d : t + 0 ≡ t = omega arith in
    rw (e, d) refl
broken_limit-append n t (s ∷ ss) ys h =
    let e : n + (s.nodes + nodes_listed ss) ≡ (n + s.nodes) + nodes_listed ss = omega arith in
    let d : t + (s.text + text_listed ss) ≡ (t + s.text) + text_listed ss = omega arith in
    rw (e, d) (limit-none (nat_lt most_nodes (n + s.nodes) || nat_lt most_alias_text (t + s.text)) (nat_lt deepest_collection s.depth) _ _
    (broken_limit (n + s.nodes) (t + s.text) ss) (broken_limit (n + s.nodes) (t + s.text) (ss ++ ys)) _ h (λ k. broken_limit-append (n + s.nodes) (t + s.text) ss ys k))

-- a limit that is broken stays so
broken_limit-stays : (n t : ℕ) (xs ys : List Start) (x : FaultAt) → broken_limit n t xs ≡ Some x → broken_limit n t (xs ++ ys) ≡ Some x
broken_limit-stays n t [] ys x h = cc
broken_limit-stays n t (s ∷ ss) ys x h =
    limit-some (nat_lt most_nodes (n + s.nodes) || nat_lt most_alias_text (t + s.text)) (nat_lt deepest_collection s.depth) _ _ x
    (broken_limit (n + s.nodes) (t + s.text) ss) (broken_limit (n + s.nodes) (t + s.text) (ss ++ ys)) h (λ k. broken_limit-stays (n + s.nodes) (t + s.text) ss ys x k)

nodes_listed-append : (xs ys : List Start) → nodes_listed (xs ++ ys) ≡ nodes_listed xs + nodes_listed ys
nodes_listed-append [] ys = omega arith
nodes_listed-append (s ∷ ss) ys = omega (arith, nodes_listed-append ss ys)

text_listed-append : (xs ys : List Start) → text_listed (xs ++ ys) ≡ text_listed xs + text_listed ys
text_listed-append [] ys = omega arith
text_listed-append (s ∷ ss) ys = omega (arith, text_listed-append ss ys)

-- ---- what is read next

-- reading that ended with an answer, and what is read after it
goes-after : {B : Type 0} (n t : ℕ) (xs : List Start) (o : Outcome B) → broken_limit n t xs ≡ None
    → run_outcome (record { nodes = n; text = t; known = o.known }) (after xs o) ≡ run_outcome (record { nodes = n + nodes_listed xs; text = t + text_listed xs; known = o.known }) o
goes-after n t xs o h =
    let nodes : n + nodes_listed (xs ++ o.starts) ≡ (n + nodes_listed xs) + nodes_listed o.starts = omega (arith, nodes_listed-append xs o.starts) in
    let text : t + text_listed (xs ++ o.starts) ≡ (t + text_listed xs) + text_listed o.starts = omega (arith, text_listed-append xs o.starts) in
    rw (nodes, text, broken_limit-append n t xs o.starts h) refl

bind-cases : {A B : Type 0} (n t : ℕ) (ss : List Start) (r : Result A FaultAt) (k : KnownAnchors) (f : A → Reading B) (x : A) (u : State) (broken : Option FaultAt) → broken_limit n t ss ≡ broken
    → with_state (record { nodes = n + nodes_listed ss; text = t + text_listed ss; known = k }) (unless_fault broken r) ≡ Ok (x, u)
    → run_outcome (record { nodes = n; text = t; known = k }) (next (record { starts = ss; answer = r; known = k }) f) ≡ run_outcome u (f x u.known)
bind-cases {A = A} n t ss (Err d) k f x u None is h = cc
bind-cases {A = A} n t ss (Err d) k f x u (Some b) is h = cc
bind-cases {A = A} n t ss (Ok y) k f x u (Some b) is h = cc
bind-cases {A = A} n t ss (Ok y) k f x u None is h =
    let s : State = record { nodes = n + nodes_listed ss; text = t + text_listed ss; known = k } in
    let same : ◌≡◌ {A = A × State} (y, s) (x, u) = cc in
    goes-after n t ss (f y k) is ∙ ap (λ p. run_outcome p.1 (f p.0 p.1.known)) same

pub run-bind : {A B : Type 0} (s : State) (r : Reading A) (f : A → Reading B) (x : A) (t : State) → run s r ≡ Ok (x, t) → run s (r >>= f) ≡ run t (f x)
unfolding run
run-bind s r f x t h = bind-cases s.nodes s.text (r s.known).starts (r s.known).answer (r s.known).known f x t (broken_limit s.nodes s.text (r s.known).starts) refl h

stays-cases : {A B : Type 0} (n t : ℕ) (ss : List Start) (r : Result A FaultAt) (k : KnownAnchors) (f : A → Reading B) (e : FaultAt) (broken : Option FaultAt) → broken_limit n t ss ≡ broken
    → with_state (record { nodes = n + nodes_listed ss; text = t + text_listed ss; known = k }) (unless_fault broken r) ≡ Err e
    → run_outcome (record { nodes = n; text = t; known = k }) (next (record { starts = ss; answer = r; known = k }) f) ≡ Err e
stays-cases n t ss (Err d) k f e None is h = ap (λ b. with_state (record { nodes = n + nodes_listed ss; text = t + text_listed ss; known = k }) (unless_fault b (Err d))) is ∙ cc
stays-cases n t ss (Ok x) k f e None is h = cc
stays-cases n t ss (Err d) k f e (Some b) is h = ap (λ b. with_state (record { nodes = n + nodes_listed ss; text = t + text_listed ss; known = k }) (unless_fault b (Err d))) is ∙ cc
stays-cases n t ss (Ok x) k f e (Some b) is h =
    let o = after ss (f x k) in
    ap (λ b. with_state (state_after (record { nodes = n; text = t; known = k }) o) (unless_fault b (f x k).answer)) (broken_limit-stays n t ss (f x k).starts b is) ∙ cc

pub run-stop : {A B : Type 0} (s : State) (r : Reading A) (f : A → Reading B) (e : FaultAt) → run s r ≡ Err e → run s (r >>= f) ≡ Err e
unfolding run
run-stop s r f e h = stays-cases s.nodes s.text (r s.known).starts (r s.known).answer (r s.known).known f e (broken_limit s.nodes s.text (r s.known).starts) refl h

-- ---- answers and faults

pub run-gives : {A : Type 0} (s : State) (x : A) → run s (gives x) ≡ Ok (x, s)
unfolding run
run-gives s x =
    let e : s.nodes + 0 ≡ s.nodes = omega arith in
    let d : s.text + 0 ≡ s.text = omega arith in
    rw (e, d) refl

pub run-anchored : {A : Type 0} (s : State) (a : Anchor) (x : A) → run s (gives_with_anchor a x) ≡ Ok (x, state_with_anchor a s)
unfolding run
run-anchored s a x =
    let e : s.nodes + 0 ≡ s.nodes = omega arith in
    let d : s.text + 0 ≡ s.text = omega arith in
    rw (e, d) refl

pub run-fails : {A : Type 0} (s : State) (code : YamlCode) (at : ℕ) → run s (fails {A = A} code at) ≡ Err (record { code = code; at = at })
unfolding run
run-fails s code at = refl

pub run-given : {A : Type 0} (s : State) (r : Result A FaultAt) (x : A) → r ≡ Ok x → run s (of_result r) ≡ Ok (x, s)
run-given s r x h = ap (λ q. run s (of_result q)) h ∙ run-gives s x

refused : {A : Type 0} (s : State) (e : FaultAt) → run s (of_result {A = A} (Err e)) ≡ Err e
unfolding run
refused s e = refl

pub run-refused : {A : Type 0} (s : State) (r : Result A FaultAt) (e : FaultAt) → r ≡ Err e → run s (of_result r) ≡ Err e
run-refused s r e h = ap (λ q. run s (of_result q)) h ∙ refused s e

-- ---- starts

start-cases : {A : Type 0} (s : State) (start : Start) (o : Outcome A) → broken_limit s.nodes s.text (start ∷ []) ≡ None
    → run_outcome (record { nodes = s.nodes; text = s.text; known = o.known }) (after (start ∷ []) o)
    ≡ run_outcome (record { nodes = s.nodes + start.nodes; text = s.text + start.text; known = o.known }) o
start-cases s start o h =
    let e : s.nodes + (start.nodes + 0) ≡ s.nodes + start.nodes = omega arith in
    let d : s.text + (start.text + 0) ≡ s.text + start.text = omega arith in
    goes-after s.nodes s.text (start ∷ []) o h ∙ rw (e, d) refl

pub run-any_start : {A : Type 0} (s : State) (start : Start) (r : Reading A) → broken_limit s.nodes s.text (start ∷ []) ≡ None
    → run s (with_start start r) ≡ run (record { nodes = s.nodes + start.nodes; text = s.text + start.text; known = s.known }) r
unfolding run
run-any_start s start r h = start-cases s start (r s.known) h

pub run-start : {A : Type 0} (s : State) (more at depth : ℕ) (r : Reading A) → broken_limit s.nodes s.text (start_of at more depth ∷ []) ≡ None
    → run s (with_start (start_of at more depth) r) ≡ run (with_nodes more s) r
run-start s more at depth r h =
    let d : s.text + 0 ≡ s.text = omega arith in
    run-any_start s (start_of at more depth) r h ∙ ap (λ m. run (record { nodes = s.nodes + more; text = m; known = s.known }) r) d

broken-cases : {A : Type 0} (s : State) (start : Start) (o : Outcome A) (e : FaultAt) → broken_limit s.nodes s.text (start ∷ []) ≡ Some e
    → run_outcome s (after (start ∷ []) o) ≡ Err e
broken-cases s start o e h =
    ap (λ b. with_state (state_after s (after (start ∷ []) o)) (unless_fault b o.answer)) (broken_limit-stays s.nodes s.text (start ∷ []) o.starts e h)

pub run-broken_start : {A : Type 0} (s : State) (start : Start) (r : Reading A) (e : FaultAt) → broken_limit s.nodes s.text (start ∷ []) ≡ Some e
    → run s (with_start start r) ≡ Err e
unfolding run
run-broken_start s start r e h = broken-cases s start (r s.known) e h

pub run-broken : {A : Type 0} (s : State) (more at depth : ℕ) (r : Reading A) (e : FaultAt) → broken_limit s.nodes s.text (start_of at more depth ∷ []) ≡ Some e
    → run s (with_start (start_of at more depth) r) ≡ Err e
run-broken s more at depth r e h = run-broken_start s (start_of at more depth) r e h

-- ---- the whole

limited-ok : {A : Type 0} (s t : State) (r : Result A FaultAt) (x : A) → with_state s r ≡ Ok (x, t) → r ≡ Ok x
limited-ok {A = A} s t (Err e) x h = cc
limited-ok {A = A} s t (Ok y) x h = let same : ◌≡◌ {A = A × State} (y, s) (x, t) = cc in ap (λ p. Ok p.0) same

limited-err : {A : Type 0} (s : State) (r : Result A FaultAt) (e : FaultAt) → with_state s r ≡ Err e → r ≡ Err e
limited-err s (Err d) e h = cc
limited-err s (Ok y) e h = cc

pub run-limited : {A : Type 0} (r : Reading A) (x : A) (t : State) → run at_start r ≡ Ok (x, t) → within_limits 0 0 (r no_anchors) ≡ Ok x
unfolding run
run-limited r x t h = limited-ok (state_after at_start (r no_anchors)) t (within_limits 0 0 (r no_anchors)) x h

pub run-limited_fault : {A : Type 0} (r : Reading A) (e : FaultAt) → run at_start r ≡ Err e → within_limits 0 0 (r no_anchors) ≡ Err e
unfolding run
run-limited_fault r e h = limited-err (state_after at_start (r no_anchors)) (within_limits 0 0 (r no_anchors)) e h
