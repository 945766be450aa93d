use Rattle.std.proofs.Common.{◌≡◌, ◌++◌, drop, map}
use Rattle.al_expr_types.proofs.fields.FieldMap.of.Given as goal

abbrev pub invariant-loop-field : goal.invariant-loop-field
invariant-loop-field l = record {
  names : map (λ n. n.now) l.names.items ++ map (λ f. f.0.now) (drop l.field-index l.fields) ≡ map (λ f. f.0.now) l.fields;
  types : l.types.items ++ map (λ f. f.1) (drop l.field-index l.fields) ≡ map (λ f. f.1) l.fields;
}
