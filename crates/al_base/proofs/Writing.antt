-- Calls that write bytes or fail, one after another and in loops.
use Rattle.std.proofs.Common.{◌≡◌, ◌<◌, ◌∙◌, ◌++◌, ℕ, List, Option, Result, Ok, Err, length, take, get_or, subst}
use Rattle.std.specs.Prelude.{IsErrAnd}
use Rattle.std.specs.List.{flat_map}
use Rattle.std.proofs.KnownBytes.{Appends-trans}
use Rattle.al_base.specs.Counted.{HasRisen}
use Rattle.al_base.specs.Streams.{WritesOrFails, Writes, write_failures}
use Rattle.al_base.specs.declared.stops.Stop.{Stop}
use Rattle.al_base.specs.declared.streams.Output.{Output}
use Rattle.al_base.proofs.Bytes.{AppendsPrefix-after, AppendsPrefix-part, AppendsPrefix-wider}

-- A call that succeeds after all of xs.
pub succeeds : {W T : Type 0} (contents : W → Option (List ℕ)) (old new : Output W) (x : T) (xs : List ℕ)
    → Writes contents old new xs → write_failures new ≡ write_failures old → WritesOrFails contents old new (Ok x) xs
succeeds contents old new x xs all unfailed = record { all = all; prefix = tt; failures = unfailed; failed = tt; err = tt }

-- A failure before all of xs ++ ys, returned by the caller.
pub fails_early : {W T U : Type 0} (contents : W → Option (List ℕ)) (old new : Output W) (r : Result U Stop) (e : Stop) (xs ys : List ℕ) → IsErrAnd r (λ y. y ≡ e)
    → WritesOrFails {T = T} contents old new (Err e) xs → WritesOrFails contents old new r (xs ++ ys)
fails_early contents old new (Ok x) e xs ys is w = absurd is
fails_early contents old new (Err y) e xs ys is w =
    record { all = tt; prefix = AppendsPrefix-wider _ _ xs ys w.prefix; failures = tt; failed = w.failed; err = is ∙ w.err }

module _ {W : Type 0} (contents : W → Option (List ℕ)) (old mid new : Output W) where
  -- all of xs, and then ys or a failure
  pub after : {T : Type 0} (r : Result T Stop) (xs ys : List ℕ) → Writes contents old mid xs → write_failures mid ≡ write_failures old
      → WritesOrFails contents mid new r ys → WritesOrFails contents old new r (xs ++ ys)
  after (Ok x) xs ys so_far unfailed w =
      record { all = Appends-trans _ _ _ xs ys so_far w.all; prefix = tt; failures = w.failures ∙ unfailed; failed = tt; err = tt }
  after (Err e) xs ys so_far unfailed w =
      record { all = tt; prefix = AppendsPrefix-after _ _ _ xs ys so_far w.prefix; failures = tt; failed = subst (λ n. HasRisen n (write_failures new)) unfailed w.failed; err = w.err }

  -- A failure in part i of some parts, after all parts before it.
  pub fails_in_part : {X T U : Type 0} (f : X → List ℕ) (parts : List X) (i : ℕ) (d : X) → i < length parts
      → Writes contents old mid (flat_map f (take i parts)) → write_failures mid ≡ write_failures old → (r : Result U Stop) (e : Stop)
      → IsErrAnd r (λ y. y ≡ e) → WritesOrFails {T = T} contents mid new (Err e) (f (get_or parts i d)) → WritesOrFails contents old new r (flat_map f parts)
  fails_in_part f parts i d within so_far unfailed (Ok u) e is w = absurd is
  fails_in_part f parts i d within so_far unfailed (Err y) e is w = record {
    all = tt;
    prefix = AppendsPrefix-part f parts i d _ _ _ within so_far w.prefix;
    failures = tt;
    failed = subst (λ n. HasRisen n (write_failures new)) unfailed w.failed;
    err = is ∙ w.err;
  }

  -- The same where x is the element at i.
  pub fails_in_element : {X T U : Type 0} (f : X → List ℕ) (parts : List X) (i : ℕ) (x : X) → i < length parts → x ≡ get_or parts i x
      → Writes contents old mid (flat_map f (take i parts)) → write_failures mid ≡ write_failures old → (r : Result U Stop) (e : Stop)
      → IsErrAnd r (λ y. y ≡ e) → WritesOrFails {T = T} contents mid new (Err e) (f x) → WritesOrFails contents old new r (flat_map f parts)
  fails_in_element {T = T} f parts i x within read so_far unfailed r e is w =
      fails_in_part f parts i x within so_far unfailed r e is (subst (λ y. WritesOrFails {T = T} contents mid new (Err e) (f y)) read w)
