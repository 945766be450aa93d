use Rattle.std.proofs.Common.{◌≡◌, ◌++◌, length, drop, false, string_bytes}
use Rattle.std.specs.List.{flat_map}
use Rattle.std.specs.Str.{chars}
use Rattle.std.specs.Char.{encode_utf8}
use Rattle.al_expr_typing.proofs.LiteralLemmas.{unquoted}
use Rattle.al_expr_typing.proofs.literals.text_value.Given as goal

abbrev pub invariant-loop-ch : goal.invariant-loop-ch
invariant-loop-ch l = string_bytes l.value ++ flat_map encode_utf8 (unquoted l.after_quote (drop (length l.yielded) (drop 1 (chars l.literal))))
    ≡ flat_map encode_utf8 (unquoted false (drop 1 (chars l.literal)))
