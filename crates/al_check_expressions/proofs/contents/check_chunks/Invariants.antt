use Rattle.std.proofs.Common.{◌≡◌, ◌++◌, drop, map}
use Rattle.std.specs.List.{flat_map}
use Rattle.al_base.specs.Growth.{BeginsWith}
use Rattle.al_expr_grammar.specs.Chunks.{chunks_of, span_of_chunk}
use Rattle.al_expr_types.specs.Tables.{objects_of}
use Rattle.al_expr_typing.specs.Scopes.{IsShown, scope_view}
use Rattle.al_scalar.specs.Scalar.{text_of}
use Rattle.al_check_expressions.specs.Contents.{chunk_faults}
use Rattle.al_check_expressions.proofs.contents.check_chunks.Given as goal

abbrev pub invariant-loop-chunk : goal.invariant-loop-chunk
invariant-loop-chunk l =
    let found = chunk_faults (scope_view l.fn.types l.scope) l.place.is_scalar_only l.place.scalar.now in
    record {
      shown : IsShown l.types l.scope;
      kept : BeginsWith (objects_of l.types) (objects_of l.fn.types);
      all : l.faults ++ flat_map found (map span_of_chunk (drop l.chunk-index l.chunk-items)) ≡ l.fn.faults ++ flat_map found (map span_of_chunk l.chunk-items);
      fault : l.unclosed ≡ (chunks_of (text_of l.place.scalar.now)).fault;
    }
