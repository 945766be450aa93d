-- Where the line of the next offset begins, after a line break and elsewhere.
use Rattle.std.proofs.Common.{◌≡◌, ℕ, ◌+◌, true, false, List, refl, sym, ◌∙◌, arith}
use Rattle.al_base.specs.Positions.{ends_break, BeginsLine}
use Rattle.al_base.proofs.Counting.{line_at-break, line_at-same}
use Rattle.al_base.proofs.LineStarts.{line_at-le}

pub begins_after : (bytes : List ℕ) (k : ℕ) → ends_break bytes k ≡ true → BeginsLine bytes (k + 1) (k + 1)
begins_after bytes k e = record {
  order = omega arith;
  same = refl;
  first = λ j h. let low = line_at-le bytes j k (omega arith) in let up = line_at-break bytes k e in omega (arith, low, up);
}

pub begins_still : (bytes : List ℕ) (k s : ℕ) → ends_break bytes k ≡ false → BeginsLine bytes k s → BeginsLine bytes (k + 1) s
begins_still bytes k s e b =
    let up = line_at-same bytes k e in
    record {
      order = let o = b.order in omega (arith, o);
      same = b.same ∙ sym up;
      first = λ j h. let low = b.first j h in omega (arith, low, up);
    }
