-- What contracts see of an input and an output: the inner reader or writer, and the counts.
use Rattle.std.specs.Prelude.{◌≡◌, ℕ, List, Option, Result, OnOk, OnErr, IsOkUnless}
use Rattle.std.specs.Io.KnownBytes.{Appends}
use Rattle.al_base.specs.Counted.{AppendsPrefix, HasRisen}
use Rattle.al_base.specs.declared.stops.Stop.{Stop}
use Rattle.al_base.specs.declared.stops.Stop.TheVariants.{WriteFault}
use Rattle.al_base.specs.declared.streams.Input.{Input}
use Rattle.al_base.specs.declared.streams.Output.{Output}

-- the bytes that are still to be read, if the reader knows them
abbrev pub bytes_left : {R : Type 0} → (R → Option (List ℕ)) → Input R → Option (List ℕ)
bytes_left remaining input = remaining input.inner

-- the reads so far
abbrev pub turns_of : {R : Type 0} → Input R → ℕ
turns_of input = input.turns

-- the reads that failed so far
abbrev pub read_failures : {R : Type 0} → Input R → ℕ
read_failures input = input.failures

-- the length of the largest buffer that was passed to a read so far
abbrev pub largest_ask : {R : Type 0} → Input R → ℕ
largest_ask input = input.largest_ask

-- the bytes written so far, if the writer knows them
abbrev pub bytes_written : {W : Type 0} → (W → Option (List ℕ)) → Output W → Option (List ℕ)
bytes_written contents output = contents output.inner

-- the writes that failed so far
abbrev pub write_failures : {W : Type 0} → Output W → ℕ
write_failures output = output.failures

-- a call that changed an output wrote these bytes
abbrev pub Writes : {W : Type 0} → (W → Option (List ℕ)) → Output W → Output W → List ℕ → Type 0
Writes contents old new bytes =
    Appends (bytes_written contents old) (bytes_written contents new) bytes

-- it wrote a prefix of them
abbrev pub WritesPrefix : {W : Type 0} → (W → Option (List ℕ)) → Output W → Output W
    → List ℕ → Type 0
WritesPrefix contents old new bytes =
    AppendsPrefix (bytes_written contents old) (bytes_written contents new) bytes

-- A call that returns this result writes all of these bytes, or fails after a prefix of them. It
-- fails exactly if the writer does.
pub record WritesOrFails {W T : Type 0} (contents : W → Option (List ℕ)) (old new : Output W)
    (result : Result T Stop) (bytes : List ℕ)
    : Type 0 where
  pub all : OnOk result (Writes contents old new bytes)
  pub prefix : OnErr result (WritesPrefix contents old new bytes)
  pub failures : OnOk result (write_failures new ≡ write_failures old)
  pub failed : OnErr result (HasRisen (write_failures old) (write_failures new))
  pub err : IsOkUnless result WriteFault
