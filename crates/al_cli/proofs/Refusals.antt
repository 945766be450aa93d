-- Reads and writes after earlier ones that were refused.
use Rattle.std.proofs.Common.{ℕ, List, ◌++◌, take, ap, sym, ◌∙◌, Option, None, Some, Result, Ok, Err}
use Rattle.std.specs.Io.KnownBytes.{Appends, Consumes, Keeps, ReadConsumes, WriteAppends}
use Rattle.std.proofs.KnownBytes.{Keeps-trans}

pub appended_after : (a b c : Option (List ℕ)) (bs : List ℕ) → Keeps a b → Appends b c bs → Appends a c bs
appended_after None b c bs p q = tt
appended_after (Some x) None c bs p q = absurd p
appended_after (Some x) (Some y) None bs p q = absurd q
appended_after (Some x) (Some y) (Some z) bs p q = q ∙ ap (λ l. l ++ bs) p

-- after refused writes, a write appends what its result says
pub written_after : {E : Type 0} (a b c : Option (List ℕ)) (r : Result ℕ E) (bs : List ℕ) → Keeps a b → WriteAppends b c r bs → WriteAppends a c r bs
written_after a b c (Ok n) bs p q = appended_after a b c (take n bs) p q
written_after a b c (Err e) bs p q = Keeps-trans a b c p q

pub consumed_after : (a b c : Option (List ℕ)) (bs : List ℕ) → Keeps a b → Consumes b c bs → Consumes a c bs
consumed_after None b c bs p q = tt
consumed_after (Some x) None c bs p q = absurd p
consumed_after (Some x) (Some y) None bs p q = absurd q
consumed_after (Some x) (Some y) (Some z) bs p q = sym p ∙ q

-- after refused reads, a read consumes what its result says
pub read_after : {E : Type 0} (a b c : Option (List ℕ)) (r : Result ℕ E) (bs : List ℕ) → Keeps a b → ReadConsumes b c r bs → ReadConsumes a c r bs
read_after a b c (Ok n) bs p q = (consumed_after a b c (take n bs) p q.0, q.1)
read_after a b c (Err e) bs p q = Keeps-trans a b c p q
