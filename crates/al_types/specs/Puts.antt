-- Adding fields to others, as lists of names with types.
use Rattle.std.specs.Prelude.{ℕ, List, [], ◌∷◌, if◌then◌else◌}
use Rattle.al_base.specs.Names.{same_name}
use Rattle.al_types.specs.Types.{Type', fuse_type}

abbrev pub TypedName : Type 0
TypedName = List ℕ × Type'

-- adds a name with a type, unless the name is there
abbrev pub put_new : List TypedName → TypedName → List TypedName
put_new [] p = p ∷ []
put_new (q ∷ qs) p = if same_name q.0 p.0 then q ∷ qs else q ∷ put_new qs p

-- adds a name with a type: fused with that of an equal name, otherwise at the end
abbrev pub put_or_fuse : List TypedName → TypedName → List TypedName
put_or_fuse [] p = p ∷ []
put_or_fuse (q ∷ qs) p = if same_name q.0 p.0 then (q.0, fuse_type q.1 p.1) ∷ qs
    else q ∷ put_or_fuse qs p

abbrev pub put_all : (List TypedName → TypedName → List TypedName) → List TypedName → List TypedName
    → List TypedName
put_all put_one ts [] = ts
put_all put_one ts (p ∷ ps) = put_all put_one (put_one ts p) ps

-- only the first of equal names
abbrev pub firsts : List TypedName → List TypedName
firsts ts = put_all put_new [] ts
