-- When two calls name the same.
use Rattle.std.specs.Prelude.{◌&&◌, Bool, false, bytes_eq}
use Rattle.al_lint.specs.declared.lint.Target.{Target}
use Rattle.al_lint.specs.declared.lint.Target.TheVariants.{FirstOf, Only}

-- whether two calls have the same candidates, in the same order
abbrev pub is_same_target : Target → Target → Bool
is_same_target (Only p) (Only q) = bytes_eq p q
is_same_target (Only p) (FirstOf q r) = false
is_same_target (FirstOf p q) (Only r) = false
is_same_target (FirstOf p q) (FirstOf r s) = bytes_eq p r && bytes_eq q s
