-- How readings end: with a fault, or with an answer after which more is read.
use Rattle.std.proofs.Common.{◌≡◌, ℕ, ◌≤◌, List, [], ◌∷◌, ◌++◌, map, length, refl, sym, ap, ◌∙◌, Result, Ok, Err, Some, None}
use Rattle.al_base.specs.declared.faults.Span.{Span}
use Rattle.al_scalar.specs.Line.{Line}
use Rattle.al_scalar.specs.Scalar as value
use Rattle.al_base.specs.Spans.{span}
use Rattle.al_scalar.specs.Places.{lines_at}
use Rattle.al_scalar.specs.ReadScalar.{read_of}
use Rattle.al_scalar.specs.declared.scalars.ScalarRead.{ScalarRead}
use Rattle.al_yaml_tree.specs.Flow.{empty_node}
use Rattle.al_yaml_parts.specs.declared.part.Part as code
use Rattle.al_scalar.proofs.RestLemmas.{start-at}
use Rattle.al_scalar.specs.declared.faults.FaultAt.{FaultAt}
use Rattle.al_yaml_tree.specs.Node as tree
use Rattle.al_yaml_tree.specs.Reading.{Reading, Part, part, of_result, gives, with_start, start_of, with_span, ◌>>=◌}
use Rattle.al_yaml_tree.specs.Limits.{broken_limit}
use Rattle.al_yaml_parts.specs.Reads.{State, run, with_nodes, FailsWith, Refuses, IsRead, part_of}
use Rattle.al_yaml_tree.specs.View.{view, entry_view, nodes_of, entries_of}
use Rattle.al_yaml_parts.specs.declared.faults.ReadError.{ReadError}
use Rattle.al_yaml_parts.specs.declared.faults.ReadError.TheVariants as stop
use Rattle.al_yaml_tree.specs.declared.node.Node.{Node}
use Rattle.al_yaml_tree.specs.declared.node.Entry.{Entry}
use Rattle.al_yaml_parts.proofs.RunLemmas.{run-bind, run-stop, run-gives, run-refused, run-given, run-start, run-broken}

-- ---- faults stay

pub stops-bind : {A B : Type 0} (r : Reading A) (f : A → Reading B) (n : State) (e : ReadError) → FailsWith r n e → FailsWith (r >>= f) n e
stops-bind r f n (stop.Fault x) h = run-stop n r f x h
stops-bind r f n stop.Memory h = tt

pub stops-from : {A : Type 0} (r q : Reading A) (n m : State) (e : ReadError) → run n r ≡ run m q → FailsWith q m e → FailsWith r n e
stops-from r q n m (stop.Fault x) g h = g ∙ h
stops-from r q n m stop.Memory g h = tt

pub stops-same : {A : Type 0} (r q : Reading A) (n : State) (e : ReadError) → r ≡ q → FailsWith q n e → FailsWith r n e
stops-same r q n e g h = stops-from r q n n e (ap (run n) g) h

pub stops-given : {A B : Type 0} (asked : Result A FaultAt) (f : A → Reading B) (n : State) (e : ReadError) → Refuses asked e → FailsWith (of_result asked >>= f) n e
stops-given asked f n (stop.Fault x) h = run-stop n (of_result asked) f x (run-refused n asked x h)
stops-given asked f n stop.Memory h = tt

-- ---- what is read next

pub bind-ok : {A B : Type 0} (r : Reading A) (f : A → Reading B) (n m : State) (x : A) → run n r ≡ Ok (x, m) → run n (r >>= f) ≡ run m (f x)
bind-ok r f n m x h = run-bind n r f x m h

pub given-ok : {A B : Type 0} (asked : Result A FaultAt) (f : A → Reading B) (n : State) (x : A) → asked ≡ Ok x → run n (of_result asked >>= f) ≡ run n (f x)
given-ok asked f n x h = bind-ok (of_result asked) f n n x (run-given n asked x h)

pub spanned-ok : {A : Type 0} (f : A → Span → tree.Node) (at : ℕ) (r : Reading (Part A)) (n m : State) (x : A) (end : ℕ) (left : List Line) → run n r ≡ Ok (part x end left, m)
    → run n (with_span f at r) ≡ Ok (part (f x (span at end)) end left, m)
spanned-ok f at r n m x end left h =
    bind-ok r (λ p. gives (part (f p.value (span at p.end)) p.end p.left)) n m (part x end left) h ∙ run-gives m (part (f x (span at end)) end left)

pub spanned-stops : {A : Type 0} (f : A → Span → tree.Node) (at : ℕ) (r : Reading (Part A)) (n : State) (e : ReadError) → FailsWith r n e → FailsWith (with_span f at r) n e
spanned-stops f at r n e h = stops-bind r (λ p. gives (part (f p.value (span at p.end)) p.end p.left)) n e h

-- ---- what was read so far

pub nodes_of-more : (xs : List Node) (x : Node) → nodes_of (map view (xs ++ x ∷ [])) ≡ tree.with_item (nodes_of (map view xs)) (view x)
nodes_of-more [] x = refl
nodes_of-more (y ∷ ys) x = ap (tree.item (view y)) (nodes_of-more ys x)

pub entries_of-more : (xs : List Entry) (x : Entry) (key : value.Scalar) (v : tree.Node) → ◌≡◌ {A = value.Scalar × tree.Node} (entry_view x) (key, v)
    → entries_of (map entry_view (xs ++ x ∷ [])) ≡ tree.with_entry (entries_of (map entry_view xs)) key v
entries_of-more [] x key v h = ap (λ e. tree.entry e.0 e.1 tree.no_entries) h
entries_of-more (y ∷ ys) x key v h = ap (tree.entry (entry_view y).0 (entry_view y).1) (entries_of-more ys x key v h)

-- ---- results

pub read-from : {A B : Type 0} (seen : A → B) (r q : Reading B) (n m k : State) (result : Result A ReadError) → run n r ≡ run m q → IsRead seen q m result k → IsRead seen r n result k
read-from seen r q n m k (Ok x) g h = g ∙ h
read-from seen r q n m k (Err e) g h = stops-from r q n m e g h

pub same_part : {A : Type 0} (v w : A) (end end' : ℕ) (left left' : List Line) (m m' : State) → v ≡ w → end ≡ end' → left ≡ left' → m ≡ m'
    → ◌≡◌ {A = Result (Part A × State) FaultAt} (Ok (part v end left, m)) (Ok (part w end' left', m'))
same_part v w end end' left left' m m' a b c d = rw (a, b, c, d) refl

-- ---- scalars

abbrev pub scalar_reading : Result value.ScalarRead FaultAt → Reading (Part tree.Node)
scalar_reading asked = of_result asked >>= (λ r. gives (part (tree.scalar_node r) r.scalar.span.end r.left))

module _ (asked : Result value.ScalarRead FaultAt) (n m : State) (at : ℕ) (fits : broken_limit n.nodes n.text (start_of at 1 0 ∷ []) ≡ None) (more : m ≡ with_nodes 1 n) where
  scalar-starts : run n (with_start (start_of at 1 0) (scalar_reading asked)) ≡ run m (scalar_reading asked)
  scalar-starts = run-start n 1 at 0 (scalar_reading asked) fits ∙ ap (λ i. run i (scalar_reading asked)) (sym more)

  pub scalar-stops : (e : ReadError) → Refuses asked e → FailsWith (with_start (start_of at 1 0) (scalar_reading asked)) n e
  scalar-stops e h = stops-from (with_start (start_of at 1 0) (scalar_reading asked)) (scalar_reading asked) n m e scalar-starts
      (stops-given asked (λ r. gives (part (tree.scalar_node r) r.scalar.span.end r.left)) m e h)

  pub scalar-ok : (bytes : List ℕ) (r : ScalarRead) (p : code.Part) → asked ≡ Ok (read_of bytes r) → view p.node ≡ tree.scalar r.scalar → p.end ≡ r.scalar.span.end → p.next ≡ r.next
      → run n (with_start (start_of at 1 0) (scalar_reading asked)) ≡ Ok (part_of bytes p, m)
  scalar-ok bytes r p h a b c =
      scalar-starts ∙ given-ok asked (λ r. gives (part (tree.scalar_node r) r.scalar.span.end r.left)) m (read_of bytes r) h
      ∙ run-gives m (part (tree.scalar r.scalar) r.scalar.span.end (lines_at bytes r.next))
      ∙ same_part (tree.scalar r.scalar) (view p.node) r.scalar.span.end p.end (lines_at bytes r.next) (lines_at bytes p.next) m m (sym a) (sym b) (ap (lines_at bytes) (sym c)) refl

abbrev pub empty_tree : ℕ → tree.Node
empty_tree at = tree.scalar (value.empty_scalar at)

pub empty-broken : (n : State) (at : ℕ) (left : List Line) (f : FaultAt) → broken_limit n.nodes n.text (start_of at 1 0 ∷ []) ≡ Some f → run n (empty_node at left) ≡ Err f
empty-broken n at left f h = run-broken n 1 at 0 (gives (part (empty_tree at) at left)) f h

pub empty-stops : (n : State) (at : ℕ) (left : List Line) (x : value.ScalarRead) (e : ReadError) → Refuses (Ok x) e → FailsWith (empty_node at left) n e
empty-stops n at left x (stop.Fault f) h = cc
empty-stops n at left x stop.Memory h = tt

pub empty-ok : (bytes : List ℕ) (n m : State) (at next : ℕ) (r : ScalarRead) (p : code.Part) → broken_limit n.nodes n.text (start_of at 1 0 ∷ []) ≡ None → m ≡ with_nodes 1 n → at ≤ length bytes
    → ◌≡◌ {A = Result value.ScalarRead FaultAt} (Ok (value.empty_at (lines_at bytes at))) (Ok (read_of bytes r)) → view p.node ≡ tree.scalar r.scalar
    → p.end ≡ r.scalar.span.end → p.next ≡ next
    → run n (empty_node at (lines_at bytes next)) ≡ Ok (part_of bytes p, m)
empty-ok bytes n m at next r p fits more inside h a b c =
    let same : value.empty_at (lines_at bytes at) ≡ read_of bytes r = cc in
    let s : value.empty_scalar at ≡ r.scalar = ap value.empty_scalar (sym (start-at bytes at inside)) ∙ ap (λ x. x.scalar) same in
    let end : at ≡ r.scalar.span.end = ap (λ x. x.span.end) s in
    run-start n 1 at 0 (gives (part (empty_tree at) at (lines_at bytes next))) fits ∙ run-gives (with_nodes 1 n) (part (empty_tree at) at (lines_at bytes next))
    ∙ same_part (empty_tree at) (view p.node) at p.end (lines_at bytes next) (lines_at bytes p.next) (with_nodes 1 n) m
    (ap (λ x. tree.scalar x) s ∙ sym a) (end ∙ sym b) (ap (lines_at bytes) (sym c)) (sym more)
