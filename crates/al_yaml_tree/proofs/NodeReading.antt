-- The invariants of reading nodes. Nodes are within the file and in order if no alias is read, and their texts are UTF-8 if the file is.
-- So are the nodes of anchors, except for the order. Faults and starts are within the file.
use Rattle.std.proofs.Common.{◌≡◌, ℕ, ◌≤◌, List, [], ◌∷◌, ◌++◌, refl, arith, Bool, true, false, nat_lt, if◌then◌else◌}
use Rattle.std.proofs.Common.{Option, Some, None, Result, Ok, Err, IsUtf8}
use Rattle.std.specs.Str.{bytes_eq}
use Rattle.std.proofs.lemmas.Str.{IsUtf8-nil}
use Rattle.al_base.specs.declared.codes.YamlCode.{YamlCode}
use Rattle.al_base.specs.declared.faults.Span.{Span}
use Rattle.al_scalar.specs.Line.{Line}
use Rattle.al_scalar.specs.Offsets.{IsPlaced}
use Rattle.al_scalar.specs.Scalar.{Scalar, ScalarRead, empty_scalar, text_of}
use Rattle.al_base.specs.Spans.{span}
use Rattle.al_scalar.specs.declared.faults.FaultAt.{FaultAt}
use Rattle.al_scalar.proofs.OffsetLemmas.{choose}
use Rattle.al_yaml_tree.specs.Content.{unless_code}
use Rattle.al_yaml_tree.specs.Flow.{empty_node}
use Rattle.al_yaml_tree.specs.Node.{Node, Nodes, Entries, scalar, sequence, mapping, no_nodes, no_entries}
use Rattle.al_yaml_tree.specs.Node.{with_item, with_entry, scalar_node, EachItem, EachEntry}
use Rattle.al_yaml_tree.specs.Reading.{Start, HaveNoAlias, Anchor, KnownAnchors, Outcome, Reading, gives, fails, of_result, next, later_of, alias_of, alias}
use Rattle.al_yaml_tree.specs.Reading.{◌>>=◌, with_start, start_of, gives_with_anchor, Part, part, with_span}
use Rattle.al_yaml_tree.specs.Spans.{IsPlacedIn, ArePlacedIn, EntriesPlacedIn, IsLaidIn, LiesAround}
use Rattle.al_yaml_tree.specs.Texts.{HasTexts}
use Rattle.al_yaml_tree.proofs.LaidLemmas.{Laid, each-item, each-entry}
use Rattle.al_yaml_tree.proofs.LeftLines.{File, AreLeft, IsRead, left-lower, is-inside}
use Rattle.al_yaml_tree.proofs.ScalarSpans.{Answers, answers-also}
use Rattle.al_yaml_tree.proofs.SpanLemmas.{wider_in, items-wider, entries-wider, past-item, past-entry}

-- ---- nodes

-- a scalar's text is UTF-8; a collection only passes this on to its parts

abbrev pub Text : Scalar → Type 0
Text s = IsUtf8 (text_of s)

abbrev pub Inner : Span → Type 0 → Type 0
Inner at inner = inner

-- a node that was read from offset `low` to `end`
pub record Lies (f : File) (low end : ℕ) (n : Node) : Type 0 where
  pub laid : IsLaidIn f.size f.size n
  pub texts : f.is_utf8 → HasTexts n
  pub placed : f.is_plain → IsPlacedIn f.size low end n

-- the part of a collection that was read from offset `from` to `end`
pub record IsDone (f : File) {A : Type 0} (g : A → Span → Node) (from end : ℕ) (x : A) : Type 0 where
  pub ordered : from ≤ end
  pub lies : Lies f from end (g x (span from end))

-- the end may be moved to a later offset
abbrev pub Grows : {A : Type 0} → File → (A → Span → Node) → Type 0
Grows {A} f g = (from low end : ℕ) (x : A) → low ≤ end → end ≤ f.size → IsDone f g from low x → IsDone f g from end x

module _ {f : File} where
  lies-lower : {low low' end : ℕ} {n : Node} → low' ≤ low → Lies f low end n → Lies f low' end n
  lies-lower {low} {low'} {end} {n} a h = record {
    laid = h.laid;
    texts = h.texts;
    placed = λ p. wider_in f.size low end low' end n a (omega arith) (h.placed p);
  }

  pub scalar-lies : {low : ℕ} {r : ScalarRead} → IsRead f low r → Lies f low r.scalar.span.end (scalar_node r)
  scalar-lies h = record {
    laid = (record { ordered = h.placed.0.ordered; inside = is-inside h.left }, h.placed.1);
    texts = h.text;
    placed = λ p. h.placed;
  }

  -- A scalar ends at `low` or later.
  pub read-ends : {low : ℕ} {r : ScalarRead} → IsRead f low r → low ≤ r.scalar.span.end
  read-ends h = let a = h.placed.0.from in let b = h.placed.0.ordered in omega (arith, a, b)

  empty-lies : (at : ℕ) → at ≤ f.size → Lies f at at (scalar (empty_scalar at))
  empty-lies at a =
      let placed : IsPlaced f.size (empty_scalar at) = record { rising = omega arith; before = tt; small = omega arith } in
      record {
        laid = (record { ordered = omega arith; inside = a }, placed);
        texts = λ u. IsUtf8-nil;
        placed = λ p. (record { from = omega arith; ordered = omega arith; to = omega arith }, placed);
      }

  -- ---- collections

  items-done : (from end : ℕ) (ns : Nodes) → from ≤ end → end ≤ f.size → EachItem (Laid f.size f.size) (LiesAround f.size) ns
      → (f.is_utf8 → EachItem Text Inner ns) → (f.is_plain → ArePlacedIn f.size from end ns) → IsDone f sequence from end ns
  items-done from end ns a b laid texts placed = record {
    ordered = a;
    lies = record {
      laid = (record { ordered = a; inside = b }, laid);
      texts = texts;
      placed = λ p. (record { from = omega arith; ordered = a; to = omega arith }, placed p);
    };
  }

  entries-done : (from end : ℕ) (es : Entries) → from ≤ end → end ≤ f.size → EachEntry (Laid f.size f.size) (LiesAround f.size) es
      → (f.is_utf8 → EachEntry Text Inner es) → (f.is_plain → EntriesPlacedIn f.size from end es) → IsDone f mapping from end es
  entries-done from end es a b laid texts placed = record {
    ordered = a;
    lies = record {
      laid = (record { ordered = a; inside = b }, laid);
      texts = texts;
      placed = λ p. (record { from = omega arith; ordered = a; to = omega arith }, placed p);
    };
  }

  pub no-items : (at : ℕ) → at ≤ f.size → IsDone f sequence at at no_nodes
  no-items at a = items-done at at no_nodes (omega arith) a tt (λ u. tt) (λ p. tt)

  pub no-entries : (at : ℕ) → at ≤ f.size → IsDone f mapping at at no_entries
  no-entries at a = entries-done at at no_entries (omega arith) a tt (λ u. tt) (λ p. tt)

  pub items-grow : Grows f sequence
  items-grow from low end ns a b h = items-done from end ns (omega (arith, a, h.ordered)) b h.lies.laid.1 h.lies.texts
      (λ p. items-wider f.size f.size (omega arith) from low end ns a (h.lies.placed p).1)

  pub entries-grow : Grows f mapping
  entries-grow from low end es a b h = entries-done from end es (omega (arith, a, h.ordered)) b h.lies.laid.1 h.lies.texts
      (λ p. entries-wider f.size f.size (omega arith) from low end es a (h.lies.placed p).1)

-- ---- a value, and the remaining lines

-- A value from `low` to its end, with the remaining lines at `back` of this end or later.
pub record IsPart (f : File) {A : Type 0} (g : A → Span → Node) (back : ℕ → ℕ) (low : ℕ) (p : Part A) : Type 0 where
  pub done : IsDone f g low p.end p.value
  pub inside : p.end ≤ f.size
  pub left : AreLeft f (back p.end) p.left

abbrev pub same : ℕ → ℕ
same end = end

abbrev pub itself : Node → Span → Node
itself n at = n

abbrev pub IsNode : File → ℕ → Part Node → Type 0
IsNode f low p = IsPart f itself same low p

abbrev pub AreItems : File → ℕ → Part Nodes → Type 0
AreItems f low p = IsPart f sequence same low p

abbrev pub AreEntries : File → ℕ → Part Entries → Type 0
AreEntries f low p = IsPart f mapping same low p

module _ {f : File} where
  pub whole-part : {A : Type 0} {g : A → Span → Node} {from end : ℕ} {x : A} {ls : List Line} → IsDone f g from end x → AreLeft f end ls
      → IsPart f g same from (part x end ls)
  whole-part d h = record { done = d; inside = is-inside h; left = h }

  pub read-part : {low : ℕ} {r : ScalarRead} {ls : List Line} → IsRead f low r → AreLeft f r.scalar.span.end ls
      → IsNode f low (part (scalar_node r) r.scalar.span.end ls)
  read-part k h = whole-part (record { ordered = read-ends k; lies = scalar-lies k }) h

  pub part-lower : {low low' : ℕ} {p : Part Node} → low' ≤ low → IsNode f low p → IsNode f low' p
  part-lower a h = record {
    done = record { ordered = omega (arith, a, h.done.ordered); lies = lies-lower a h.done.lies };
    inside = h.inside;
    left = h.left;
  }

  pub part-back : (back : ℕ → ℕ) {low : ℕ} {p : Part Node} → back p.end ≤ p.end → IsNode f low p → IsPart f itself back low p
  part-back back a h = record { done = h.done; inside = h.inside; left = left-lower a h.left }

  -- ---- appending an item or an entry

  pub item-done : {from low : ℕ} {ns : Nodes} {p : Part Node} → IsDone f sequence from low ns → IsNode f low p
      → IsDone f sequence from p.end (with_item ns p.value)
  item-done {from} {low} {ns} {p} d h =
      let a = h.done.ordered in
      let n = h.done.lies in
      items-done from p.end (with_item ns p.value) (omega (arith, a, d.ordered)) h.inside
      (each-item (Laid f.size f.size) (LiesAround f.size) ns p.value d.lies.laid.1 n.laid)
      (λ u. each-item Text Inner ns p.value (d.lies.texts u) (n.texts u))
      (λ u. past-item f.size from low p.end ns p.value d.ordered a (d.lies.placed u).1 (n.placed u))

  pub entry-done : {from low : ℕ} {es : Entries} {r : ScalarRead} {p : Part Node} → IsDone f mapping from low es → IsRead f low r
      → IsNode f r.scalar.span.end p → IsDone f mapping from p.end (with_entry es r.scalar p.value)
  entry-done {from} {low} {es} {r} {p} d k h =
      let a = h.done.ordered in
      let b : low ≤ p.end = omega (arith, a, read-ends k) in
      let key = scalar-lies k in
      let v = h.done.lies in
      entries-done from p.end (with_entry es r.scalar p.value) (omega (arith, b, d.ordered)) h.inside
      (each-entry (Laid f.size f.size) (LiesAround f.size) es r.scalar p.value d.lies.laid.1 key.laid v.laid)
      (λ u. each-entry Text Inner es r.scalar p.value (d.lies.texts u) (key.texts u) (v.texts u))
      (λ u. past-entry f.size from low p.end es r.scalar p.value d.ordered b (d.lies.placed u).1
      (wider_in f.size low r.scalar.span.end low p.end (scalar_node r) (omega arith) a k.placed) (v.placed u))

-- ---- outcomes

abbrev pub StartsIn : ℕ → List Start → Type 0
StartsIn size [] = Unit {0}
StartsIn size (s ∷ ss) = (s.at ≤ size) × StartsIn size ss

starts-join : (size : ℕ) (xs ys : List Start) → StartsIn size xs → StartsIn size ys → StartsIn size (xs ++ ys)
starts-join size [] ys h k = k
starts-join size (x ∷ xs) ys h k = (h.0, starts-join size xs ys h.1 k)

none-left : (xs ys : List Start) → HaveNoAlias (xs ++ ys) → HaveNoAlias xs
none-left [] ys h = tt
none-left (x ∷ xs) ys h = (h.0, none-left xs ys h.1)

none-right : (xs ys : List Start) → HaveNoAlias (xs ++ ys) → HaveNoAlias ys
none-right [] ys h = h
none-right (x ∷ xs) ys h = none-right xs ys h.1

clash : true ≡ false → ⊥
clash e = absurd cc

abbrev FoundIn : File → Option Anchor → Type 0
FoundIn f None = Unit {0}
FoundIn f (Some a) = IsLaidIn f.size f.size a.node × (f.is_utf8 → HasTexts a.node)

-- the node of each known anchor has the properties, in any order
abbrev AreKnown : File → KnownAnchors → Type 0
AreKnown f known = (name : List ℕ) → FoundIn f (known name)

pub record Keeps (f : File) {A : Type 0} (P : A → Type 0) (o : Outcome A) : Type 0 where
  pub answers : Answers f.size P o.answer
  pub starts : StartsIn f.size o.starts
  pub knows : AreKnown f o.known

-- The reading keeps the invariants, and P holds for its value. If no alias may be read, this says nothing about readings of one.
pub record Reads (f : File) {A : Type 0} (P : A → Type 0) (r : Reading A) : Type 0 where
  pub run : (known : KnownAnchors) → AreKnown f known → (f.is_plain → HaveNoAlias (r known).starts) → Keeps f P (r known)

abbrev answering : {A : Type 0} → Outcome A → Result A FaultAt → Outcome A
answering o a = record { starts = o.starts; answer = a; known = o.known }

later-in : (f : File) (a : Anchor) (o : Option Anchor) → FoundIn f (Some a) → FoundIn f o → FoundIn f (later_of a o)
later-in f a None h k = h
later-in f a (Some b) h k = choose (FoundIn f) (nat_lt a.at b.at) (λ _. k) (λ _. h)

-- the node of an alias, which may be at any offset
abbrev pub LiesAnywhere : File → Node → Type 0
LiesAnywhere f n = (low end : ℕ) → Lies f low end n

module _ {f : File} where
  pub reads-value : {A : Type 0} {P : A → Type 0} {x : A} → P x → Reads f P (gives x)
  reads-value h = record { run = λ known k u. record { answers = h; starts = tt; knows = k } }

  pub reads-fault : {A : Type 0} {P : A → Type 0} {code : YamlCode} {at : ℕ} → at ≤ f.size → Reads f P (fails code at)
  reads-fault a = record { run = λ known k u. record { answers = a; starts = tt; knows = k } }

  pub reads-given : {A : Type 0} (P : A → Type 0) (r : Result A FaultAt) → Answers f.size P r → Reads f P (of_result r)
  reads-given P r h = record { run = λ known k u. record { answers = h; starts = tt; knows = k } }

  next-keeps : {A B : Type 0} (P : A → Type 0) (Q : B → Type 0) (o : Outcome A) (g : A → Reading B)
      → ((f.is_plain → HaveNoAlias o.starts) → Keeps f P o) → ((x : A) → P x → Reads f Q (g x))
      → (f.is_plain → HaveNoAlias (next o g).starts) → Keeps f Q (next o g)
  next-keeps {A} {B} P Q o g h k = by-answer o.answer h
    where
      by-answer : (a : Result A FaultAt) → ((f.is_plain → HaveNoAlias o.starts) → Keeps f P (answering o a))
          → (f.is_plain → HaveNoAlias (next (answering o a) g).starts) → Keeps f Q (next (answering o a) g)
      by-answer (Err e) h u = let m = h u in record { answers = m.answers; starts = m.starts; knows = m.knows }
      by-answer (Ok x) h u =
          let more = (g x o.known).starts in
          let m = h (λ p. none-left o.starts more (u p)) in
          let n = (k x m.answers).run o.known m.knows (λ p. none-right o.starts more (u p)) in
          record { answers = n.answers; starts = starts-join f.size o.starts more m.starts n.starts; knows = n.knows }

  pub reads-then : {A B : Type 0} {P : A → Type 0} {Q : B → Type 0} {r : Reading A} {g : A → Reading B} → Reads f P r
      → ((x : A) → P x → Reads f Q (g x)) → Reads f Q (r >>= g)
  reads-then {P = P} {Q = Q} {r = r} {g = g} h k = record { run = λ known u v. next-keeps P Q (r known) g (λ w. h.run known u w) k v }

  pub reads-start : {A : Type 0} {P : A → Type 0} {at nodes depth : ℕ} {r : Reading A} → at ≤ f.size → Reads f P r
      → Reads f P (with_start (start_of at nodes depth) r)
  reads-start a h = record {
    run = λ known u v. let m = h.run known u (λ p. (v p).1) in record { answers = m.answers; starts = (a, m.starts); knows = m.knows };
  }

  pub reads-one : {A : Type 0} {P : A → Type 0} {at nodes depth : ℕ} {x : A} → at ≤ f.size → P x
      → Reads f P (with_start (start_of at nodes depth) (gives x))
  reads-one a h = record { run = λ known u v. record { answers = h; starts = (a, tt); knows = u } }

  pub reads-unless : {A : Type 0} {P : A → Type 0} (o : Option YamlCode) (at : ℕ) {r : Reading A} → at ≤ f.size → Reads f P r
      → Reads f P (unless_code o at r)
  reads-unless None at a h = h
  reads-unless (Some code) at a h = reads-fault a

  pub reads-by : {A : Type 0} {P : A → Type 0} (b : Bool) {r s : Reading A} → (b ≡ true → Reads f P r) → (b ≡ false → Reads f P s)
      → Reads f P (if b then r else s)
  reads-by true h k = h refl
  reads-by false h k = k refl

  pub reads-also : {A : Type 0} {P Q : A → Type 0} {r : Reading A} → Reads f P r → ((x : A) → P x → Q x) → Reads f Q r
  reads-also {P = P} {Q = Q} {r = r} h g = record {
    run = λ known u v. let m = h.run known u v in
        record { answers = answers-also f.size P Q (r known).answer g m.answers; starts = m.starts; knows = m.knows };
  }

  -- ---- the empty node, and collections from their start to their end

  pub empty-reads : {back : ℕ → ℕ} {low at : ℕ} {ls : List Line} → low ≤ at → at ≤ f.size → AreLeft f (back at) ls
      → Reads f (IsPart f itself back low) (empty_node at ls)
  empty-reads {back} {low} {at} a b h = reads-one b (record {
    done = record { ordered = a; lies = lies-lower a (empty-lies at b) };
    inside = b;
    left = h;
  })

  pub collected : {A : Type 0} {g : A → Span → Node} {low at : ℕ} {r : Reading (Part A)} → low ≤ at → Reads f (IsPart f g same at) r
      → Reads f (IsNode f low) (with_span g at r)
  collected {A} {g} {low} {at} a h = reads-then {g = λ (p : Part A). gives (part (g p.value (span at p.end)) p.end p.left)} h (λ p k. reads-value (record {
    done = record { ordered = omega (arith, a, k.done.ordered); lies = lies-lower a k.done.lies };
    inside = k.inside;
    left = k.left;
  }))

  -- ---- anchors and aliases

  found-in : (at depth : ℕ) (known : KnownAnchors) → at ≤ f.size → AreKnown f known → (o : Option Anchor) → FoundIn f o
      → (f.is_plain → HaveNoAlias (alias_of o at depth known).starts) → Keeps f (LiesAnywhere f) (alias_of o at depth known)
  found-in at depth known a u None h v = record { answers = a; starts = tt; knows = u }
  found-in at depth known a u (Some b) h v = record {
    answers = λ low end. record { laid = h.0; texts = h.1; placed = λ p. absurd (clash (v p).0) };
    starts = (a, tt);
    knows = u;
  }

  pub alias-reads : (name : List ℕ) (at depth : ℕ) → at ≤ f.size → Reads f (LiesAnywhere f) (alias name at depth)
  alias-reads name at depth a = record { run = λ known u v. found-in at depth known a u (known name) (u name) v }

  pub anchored-reads : {A : Type 0} {P : A → Type 0} (a : Anchor) {x : A} {low end : ℕ} → Lies f low end a.node → P x
      → Reads f P (gives_with_anchor a x)
  anchored-reads a n h = record {
    run = λ known u v. record {
      answers = h;
      starts = tt;
      knows = λ name. choose (FoundIn f) (bytes_eq a.name name) (λ _. later-in f a (known name) (n.laid, n.texts) (u name)) (λ _. u name);
    };
  }
