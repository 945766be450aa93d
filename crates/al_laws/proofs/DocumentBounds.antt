-- Documents that are read with two bounds that suffice agree.
use Rattle.std.proofs.Common.{◌≡◌, ℕ, suc, ◌+◌, ◌<◌, ◌≤◌, List, [], ◌∷◌, length, drop, ap, arith, true}
use Rattle.std.proofs.lemmas.Bool.Decides.{nat_tests}
use Rattle.al_scalar.specs.Line.{Line, lines}
use Rattle.al_scalar.proofs.OffsetLemmas.{choose, lines-climb}
use Rattle.al_scalar.proofs.Standing.{Stand, stand-lower, lines-end}
use Rattle.al_yaml_tree.specs.Blocks.{block_node}
use Rattle.al_yaml_tree.specs.Bytes.{byte_fault, has_mark, file_lines}
use Rattle.al_yaml_tree.specs.Document.{document_start, document_end, root_slot, document, tree_of}
use Rattle.al_yaml_tree.specs.Limits.{unless_fault, within_limits}
use Rattle.al_yaml_tree.specs.Reading.{gives, no_anchors}
use Rattle.al_yaml_tree.proofs.LeftLines.{document_start-in}
use Rattle.al_laws.specs.Documents.{document_within, tree_within}
use Rattle.al_laws.proofs.Agreeing.{Agree, Anything, any-given, agree-value, agree-given, agree-then}
use Rattle.al_laws.proofs.BlockBounds.{below-agree, block_node-agree}
use Rattle.al_laws.proofs.Left.{Left, given}

-- ---- the lines of a file

climb-from : (at : ℕ) (bs : List ℕ) (size : ℕ) → at + length bs ≤ size → Stand size 0 (lines at bs)
climb-from at bs size b = stand-lower size at 0 (lines at bs) (omega arith) (lines-climb at bs, lines-end size at bs b)

-- A byte order mark has three bytes.
mark-long : (bs : List ℕ) → has_mark bs ≡ true → 3 + length (drop 3 bs) ≤ length bs
mark-long [] e = absurd cc
mark-long (a ∷ []) e = grind (arith, nat_tests, e)
mark-long (a ∷ b ∷ []) e = grind (arith, nat_tests, e)
mark-long (a ∷ b ∷ c ∷ bs) e = omega arith

file-left : (bs : List ℕ) → Left (length bs) 0 (file_lines bs)
file-left bs = record {
  stand = choose (Stand (length bs) 0) (has_mark bs) (λ e. climb-from 3 (drop 3 bs) (length bs) (mark-long bs e))
      (λ _. climb-from 0 bs (length bs) (omega arith));
  utf8 = λ u. absurd u;
}

-- ---- the document

module _ (size bound bound' : ℕ) (a : size < bound) (a' : size < bound') where
  document-agree : (ls : List Line) → Left size 0 ls → Agree Anything (document_within bound size ls) (document_within bound' size ls)
  document-agree ls h =
      agree-then (agree-given (Left size 0) (document_start ls) (given size (Left size 0) (document_start ls) (document_start-in 0 ls h)))
      (λ left v. agree-then
      (below-agree 0 (block_node bound) (block_node bound') (block_node-agree bound bound' 0 (omega (arith, a)) (omega (arith, a')))
      (root_slot size) 1 0 left (omega arith) v)
      (λ x k. agree-then {g = λ (rest : Unit {0}). gives x.value} {h = λ (rest : Unit {0}). gives x.value}
      (agree-given Anything (document_end x.left) (any-given (document_end x.left))) (λ rest i. agree-value tt)))

pub reads-all : (bound : ℕ) (bs : List ℕ) → length bs < bound
    → document_within bound (length bs) (file_lines bs) no_anchors ≡ document (length bs) (file_lines bs) no_anchors
reads-all bound bs a = (document-agree (length bs) bound (suc (length bs)) a (omega arith) (file_lines bs) (file-left bs)).same no_anchors

pub gives-tree : (bound : ℕ) (bs : List ℕ) → length bs < bound → tree_within bound bs ≡ tree_of bs
gives-tree bound bs a = ap (λ o. unless_fault (byte_fault bs) (within_limits 0 0 o)) (reads-all bound bs a)
