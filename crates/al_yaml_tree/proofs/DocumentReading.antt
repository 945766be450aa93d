-- Reading a document keeps the invariants of `NodeReading`.
use Rattle.std.proofs.Common.{◌≡◌, ℕ, suc, ◌+◌, ◌≤◌, List, [], ◌∷◌, ◌++◌, length, drop, arith, true, ◌||◌, nat_lt}
use Rattle.std.proofs.Common.{Option, Some, None, Result}
use Rattle.std.proofs.Math.Utf8.{encode}
use Rattle.std.proofs.lemmas.Bool.Decides.{nat_tests}
use Rattle.std.proofs.lemmas.Str.{IsUtf8-past_char}
use Rattle.std.specs.Prelude.{IsUtf8}
use Rattle.al_base.specs.Limits.{deepest_collection, most_alias_text, most_nodes}
use Rattle.al_scalar.specs.Line.{Line, lines}
use Rattle.al_scalar.specs.declared.faults.FaultAt.{FaultAt}
use Rattle.al_scalar.proofs.OffsetLemmas.{choose, lines-climb}
use Rattle.al_scalar.proofs.Utf8Lemmas.{AreUtf8, lines-utf8}
use Rattle.al_yaml_tree.specs.Blocks.{block_node}
use Rattle.al_yaml_tree.specs.Bytes.{has_mark, file_lines}
use Rattle.al_yaml_tree.specs.Content.{content}
use Rattle.al_yaml_tree.specs.Document.{document_start, document_end, root_slot, root, document, document_of, HasNoAlias}
use Rattle.al_yaml_tree.specs.Limits.{broken_limit, unless_fault}
use Rattle.al_yaml_tree.specs.Node.{Node}
use Rattle.al_yaml_tree.specs.Reading.{Start, no_anchors, gives, Part}
use Rattle.al_yaml_tree.proofs.BlockReading.{found-in, block_node-in}
use Rattle.al_yaml_tree.proofs.LeftLines.{File, AreLeft, NextLeft, Anything, content-in, document_start-in, document_end-in}
use Rattle.al_yaml_tree.proofs.NodeReading.{Lies, IsPart, itself, StartsIn, Reads, reads-value, reads-given, reads-then}
use Rattle.al_yaml_tree.proofs.ScalarSpans.{Answers}
use Rattle.al_yaml_tree.proofs.SpanLemmas.{wider_in}
use Rattle.al_scalar.proofs.Standing.{Stand, stand-lower, lines-end}

-- ---- the lines of a file

climb-from : (low at : ℕ) (bs : List ℕ) (size : ℕ) → low ≤ at → at + length bs ≤ size → Stand size low (lines at bs)
climb-from low at bs size a b = stand-lower size at low (lines at bs) a (lines-climb at bs, lines-end size at bs b)

-- A byte order mark has three bytes.
mark-long : (bs : List ℕ) → has_mark bs ≡ true → 3 + length (drop 3 bs) ≤ length bs
mark-long [] e = absurd cc
mark-long (a ∷ []) e = grind (arith, nat_tests, e)
mark-long (a ∷ b ∷ []) e = grind (arith, nat_tests, e)
mark-long (a ∷ b ∷ c ∷ bs) e = omega arith

file-stands : (bs : List ℕ) → Stand (length bs) 0 (file_lines bs)
file-stands bs =
    choose (Stand (length bs) 0) (has_mark bs) (λ e. climb-from 0 3 (drop 3 bs) (length bs) (omega arith) (mark-long bs e))
    (λ _. climb-from 0 0 bs (length bs) (omega arith) (omega arith))

-- They are the encoding of a character.
mark-front : (bs : List ℕ) → has_mark bs ≡ true → bs ≡ encode 65279 ++ drop 3 bs
unfolding encode
mark-front [] e = absurd cc
mark-front (a ∷ []) e = grind (arith, nat_tests, e)
mark-front (a ∷ b ∷ []) e = grind (arith, nat_tests, e)
mark-front (a ∷ b ∷ c ∷ bs) e = grind (arith, nat_tests, e)

mark-text : (bs : List ℕ) → has_mark bs ≡ true → IsUtf8 bs → IsUtf8 (drop 3 bs)
mark-text bs e u = IsUtf8-past_char bs (drop 3 bs) 65279 u (mark-front bs e)

file-utf8 : (bs : List ℕ) → IsUtf8 bs → AreUtf8 (file_lines bs)
file-utf8 bs u = choose AreUtf8 (has_mark bs) (λ e. lines-utf8 3 (drop 3 bs) (mark-text bs e u)) (λ _. lines-utf8 0 bs u)

-- ---- the document

-- the lines after a root are within the file
abbrev to_start : ℕ → ℕ
to_start end = 0

module _ {f : File} where
  root-lies : {p : Part Node} → IsPart f itself to_start 0 p → Lies f 0 f.size p.value
  root-lies {p} k = record {
    laid = k.done.lies.laid;
    texts = k.done.lies.texts;
    placed = λ u. wider_in f.size 0 p.end 0 f.size p.value (omega arith) k.inside (k.done.lies.placed u);
  }

  root-in : (ls : List Line) → AreLeft f 0 ls → Reads f (IsPart f itself to_start 0) (root f.size ls)
  root-in ls h =
      reads-then (reads-given (NextLeft f 0) (content ls) (content-in 0 ls h))
      (λ found k. found-in (block_node (suc f.size)) (block_node-in (suc f.size)) to_start (root_slot f.size) 1 0 ls (record {
        tab = tt;
        after = omega arith;
        inside = omega arith;
        reach = omega arith;
        back_to = λ end. omega arith;
      }) h found k)

  document-in : (ls : List Line) → AreLeft f 0 ls → Reads f (Lies f 0 f.size) (document f.size ls)
  document-in ls h =
      reads-then (reads-given (AreLeft f 0) (document_start ls) (document_start-in 0 ls h))
      (λ left v. reads-then (root-in left v)
      (λ x k. reads-then {g = λ (rest : Unit {0}). gives x.value}
      (reads-given Anything (document_end x.left) (document_end-in 0 x.left k.left)) (λ rest i. reads-value (root-lies k))))

-- ---- limits

abbrev FaultIn : ℕ → Option FaultAt → Type 0
FaultIn size None = Unit {0}
FaultIn size (Some f) = f.at ≤ size

limit-in : (size nodes text : ℕ) (ss : List Start) → StartsIn size ss → FaultIn size (broken_limit nodes text ss)
limit-in size nodes text [] h = tt
limit-in size nodes text (s ∷ ss) h =
    choose (FaultIn size) (nat_lt most_nodes (nodes + s.nodes) || nat_lt most_alias_text (text + s.text)) (λ _. h.0)
    (λ _. choose (FaultIn size) (nat_lt deepest_collection s.depth) (λ _. h.0)
    (λ _. limit-in size (nodes + s.nodes) (text + s.text) ss h.1))

limited-in : (size : ℕ) (P : Node → Type 0) (o : Option FaultAt) (r : Result Node FaultAt) → FaultIn size o → Answers size P r
    → Answers size P (unless_fault o r)
limited-in size P None r a h = h
limited-in size P (Some e) r a h = a

-- ---- the file

abbrev pub file_of : List ℕ → Type 0 → File
file_of bytes plain = record { size = length bytes; is_utf8 = IsUtf8 bytes; is_plain = plain }

-- The tree's nodes are within the file, and in order if no alias is read; so is its fault.
pub document-lies : (bytes : List ℕ) (plain : Type 0) → (plain → HasNoAlias bytes)
    → Answers (length bytes) (Lies (file_of bytes plain) 0 (length bytes)) (document_of bytes)
document-lies bytes plain none =
    let f : File = file_of bytes plain in
    let left : AreLeft f 0 (file_lines bytes) = record { stand = file-stands bytes; utf8 = λ u. file-utf8 bytes u } in
    let o = document (length bytes) (file_lines bytes) no_anchors in
    let k = (document-in (file_lines bytes) left).run no_anchors (λ name. tt) none in
    limited-in (length bytes) (Lies f 0 (length bytes)) (broken_limit 0 0 o.starts) o.answer
    (limit-in (length bytes) 0 0 o.starts k.starts) k.answers
