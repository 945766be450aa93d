use Rattle.std.proofs.Common.{[], map, take}
use Rattle.al_expr_types.specs.declared.types.Types.{Types}
use Rattle.al_tree.specs.Keys.{key_of}
use Rattle.al_tree.specs.Values.{member_of}
use Rattle.al_types.specs.Puts.{put_all, put_new}
use Rattle.al_types.specs.Strings.{strings}
use Rattle.al_check_objects.specs.Numbers.{Lists}
use Rattle.al_check_objects.proofs.objects.declared_strings.Given as goal

abbrev pub invariant-loop-entry : goal.invariant-loop-entry
invariant-loop-entry l =
    (types : Types) → Lists types l.fields (put_all put_new [] (strings (map (λ m. key_of (member_of m)) (take l.entry-index l.entries))))
