-- What several objects have in common.
use Rattle.std.specs.Prelude.{List, [], ◌∷◌}
use Rattle.al_types.specs.Types.{Absent, Parts, fuse_optional, parts_with}

-- the parts of what two objects have in common
abbrev pub fuse_parts : Parts → Parts → Parts
fuse_parts p q = (λ n. fuse_optional (p.0 n) (q.0 n), fuse_optional p.1 q.1, fuse_optional p.2 q.2)

abbrev pub fused_with : Parts → List Parts → Parts
fused_with p [] = p
fused_with p (q ∷ qs) = fused_with (fuse_parts p q) qs

-- all objects fused; an object without fields, if there are none
abbrev pub fuse_all : List Parts → Parts
fuse_all qs = fused_with (parts_with [] Absent) qs
