-- Answers: what is read after one, and a node that is complete with its anchor.
use Rattle.std.proofs.Common.{◌≡◌, ℕ, List, refl, sym, ap, ◌∙◌, Option, Some, None, Ok, Err}
use Rattle.al_yaml_tree.specs.Node as tree
use Rattle.al_yaml_tree.specs.Node.{Node}
use Rattle.al_yaml_tree.specs.Reading.{Reading, Part, part, gives_with_anchor, gives, fails, with_span, ◌>>=◌}
use Rattle.al_yaml_parts.specs.Answers.{Answer, Mark, then_read, noting, completing, mark_of}
use Rattle.al_scalar.specs.declared.faults.FaultAt.{FaultAt}
use Rattle.al_yaml_parts.specs.Reads.{State, run, FailsWith, anchor_at, state_with_anchor_at, part_of}
use Rattle.al_yaml_tree.specs.View.{view}
use Rattle.al_yaml_parts.specs.declared.faults.ReadError.{ReadError}
use Rattle.al_yaml_parts.specs.declared.part.Part as code
use Rattle.al_yaml_parts.proofs.RunLemmas.{run-anchored, run-bind, run-stop}
use Rattle.al_yaml_parts.proofs.ReadLemmas.{stops-bind}
use Rattle.al_base.specs.declared.codes.YamlCode.{YamlCode}
use Rattle.al_base.specs.declared.faults.Span.{Span}
use Rattle.al_base.specs.Spans.{span}

-- ---- what is read after an answer

bind-cases : {A B : Type 0} (s : State) (r : Reading A) (f : A → Reading B) (o : Answer A) → run s r ≡ o → run s (r >>= f) ≡ then_read o f
bind-cases s r f (Err e) h = run-stop s r f e h
bind-cases s r f (Ok p) h = run-bind s r f p.0 p.1 h

pub bind-answer : {A B : Type 0} (s : State) (r : Reading A) (f : A → Reading B) → run s (r >>= f) ≡ then_read (run s r) f
bind-answer s r f = bind-cases s r f (run s r) refl

pub answered-bind : {A B C : Type 0} (o : Answer A) (g : A → Reading B) (h : B → Reading C) → then_read (then_read o g) h ≡ then_read o (λ x. g x >>= h)
answered-bind (Err e) g h = refl
answered-bind (Ok p) g h = sym (bind-answer p.1 (g p.0) h)

abbrev span_part : {B : Type 0} → (B → Span → Node) → ℕ → Part B → Reading (Part Node)
span_part f at p = gives (part (f p.value (span at p.end)) p.end p.left)

-- what is read of a collection after a part of it
pub spanned-answer : {A B : Type 0} (f : B → Span → Node) (at : ℕ) (s : State) (r : Reading A) (g : A → Reading (Part B))
    → run s (with_span f at (r >>= g)) ≡ then_read (run s r) (λ x. with_span f at (g x))
spanned-answer f at s r g =
    bind-answer s (r >>= g) (span_part f at) ∙ ap (λ o. then_read o (span_part f at)) (bind-answer s r g) ∙ answered-bind (run s r) g (span_part f at)

-- a fault after an answer
pub answered-fails : {A B C : Type 0} (o : Answer A) (code : YamlCode) (at : ℕ) (f : B → Reading C) → then_read (then_read o (λ _. fails code at)) f ≡ then_read o (λ _. fails code at)
unfolding run
answered-fails (Err e) code at f = refl
answered-fails (Ok p) code at f = refl

-- ---- with its anchor

pub noting-err : (o : Option Mark) (e : FaultAt) → noting o (Err e) ≡ Err e
noting-err None e = refl
noting-err (Some m) e = refl

noting-answer : (bytes : List ℕ) (at : ℕ) (o : Answer (Part tree.Node))
    → then_read o (λ x. gives_with_anchor (anchor_at bytes at x.value) x) ≡ noting (mark_of bytes (Some at)) o
noting-answer bytes at (Err e) = refl
noting-answer bytes at (Ok p) = run-anchored p.1 (anchor_at bytes at p.0.value) p.0

pub completing-noted : (bytes : List ℕ) (anchor : Option ℕ) (s : State) (r : Reading (Part tree.Node)) → run s (completing bytes anchor r) ≡ noting (mark_of bytes anchor) (run s r)
completing-noted bytes None s r = refl
completing-noted bytes (Some at) s r = bind-answer s r (λ x. gives_with_anchor (anchor_at bytes at x.value) x) ∙ noting-answer bytes at (run s r)

-- what completing a part makes of it
pub noted-part : (bytes : List ℕ) (anchor : Option ℕ) (p q : code.Part) (s t : State) → part_of bytes q ≡ part_of bytes p → t ≡ state_with_anchor_at bytes anchor (view p.node) s
    → noting (mark_of bytes anchor) (Ok (part_of bytes p, s)) ≡ Ok (part_of bytes q, t)
noted-part bytes None p q s t a b = ap (λ x. Ok (x, s)) (sym a) ∙ ap (λ u. Ok (part_of bytes q, u)) (sym b)
noted-part bytes (Some at) p q s t a b = ap (λ x. Ok (x, state_with_anchor_at bytes (Some at) (view p.node) s)) (sym a) ∙ ap (λ u. Ok (part_of bytes q, u)) (sym b)

-- what a fault, and what is read from a state on, make of an answer with its anchor
pub completing-err : (bytes : List ℕ) (anchor : Option ℕ) (s : State) (r : Reading (Part tree.Node)) (f : FaultAt) → run s r ≡ Err f → run s (completing bytes anchor r) ≡ Err f
completing-err bytes None s r f h = h
completing-err bytes (Some at) s r f h = run-stop s r (λ x. gives_with_anchor (anchor_at bytes at x.value) x) f h

pub completing-stops : (bytes : List ℕ) (anchor : Option ℕ) (s : State) (r : Reading (Part tree.Node)) (e : ReadError) → FailsWith r s e → FailsWith (completing bytes anchor r) s e
completing-stops bytes None s r e h = h
completing-stops bytes (Some at) s r e h = stops-bind r (λ x. gives_with_anchor (anchor_at bytes at x.value) x) s e h

pub completing-runs : (bytes : List ℕ) (anchor : Option ℕ) (s t : State) (r q : Reading (Part tree.Node)) → run s r ≡ run t q
    → run s (completing bytes anchor r) ≡ noting (mark_of bytes anchor) (run t q)
completing-runs bytes anchor s t r q h = completing-noted bytes anchor s r ∙ ap (noting (mark_of bytes anchor)) h

-- a part that was read, and then completed
pub completing-part : (bytes : List ℕ) (anchor : Option ℕ) (p q : code.Part) (n s t : State) (r : Reading (Part tree.Node)) → run n r ≡ Ok (part_of bytes p, s)
    → part_of bytes q ≡ part_of bytes p → t ≡ state_with_anchor_at bytes anchor (view p.node) s → run n (completing bytes anchor r) ≡ Ok (part_of bytes q, t)
completing-part bytes anchor p q n s t r h a b = completing-noted bytes anchor n r ∙ ap (noting (mark_of bytes anchor)) h ∙ noted-part bytes anchor p q s t a b

pub completing-same : (bytes : List ℕ) (anchor : Option ℕ) (s : State) (r q : Reading (Part tree.Node)) → run s r ≡ run s q → run s (completing bytes anchor r) ≡ run s (completing bytes anchor q)
completing-same bytes anchor s r q h = completing-runs bytes anchor s s r q h ∙ sym (completing-noted bytes anchor s q)
