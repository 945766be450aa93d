-- The output of a script, for any session that answers one command at a time, and what a run that
-- stops early leaves.
use Rattle.std.specs.Prelude.{◌≡◌, ◌≢◌, ℕ, ◌+◌, ◌<◌, ◌≤◌, max, ◌⊎◌, List, [], ◌∷◌, ◌++◌, length}
use Rattle.std.specs.Prelude.{All, codes}
use Rattle.std.specs.Prelude.{Option, None, Some, IfSome, Result, Ok, Err, IfOk, OnOk, IfErr}
use Rattle.std.specs.Prelude.{IsErrOf}
use Rattle.std.specs.List.{flat_map, fold}
use Rattle.std.specs.Io.KnownBytes.{Appends, Consumes, Keeps}
use Rattle.al_base.specs.declared.streams.Input.{Input}
use Rattle.al_base.specs.declared.streams.Output.{Output}
use Rattle.al_base.specs.declared.stops.Stop.{Stop}
use Rattle.al_base.specs.declared.stops.Stop.TheVariants.{ReadFault, WriteFault, Memory}
use Rattle.al_base.specs.declared.stops.Stop.TheVariants.{TooManyTurns}
use Rattle.al_base.specs.Counted.{count_after, AppendsPrefix, HasRisen}
use Rattle.al_base.specs.Limits.{largest_read, most_reads}
use Rattle.al_cli_scripts.specs.Script.{Command, command_bytes, IsCommand, BeginsWithCommand}
use Rattle.al_cli_scripts.specs.Script.{IsPending, IsWrong}

-- what a session does at a command, over its folders
pub record Steps (F : Type 0) : Type 0 where
  pub reply : F → Command → List ℕ
  pub after : F → Command → F
  pub status : F → ℕ

abbrev pub replies_to : {F : Type 0} → Steps F → F → List Command → List ℕ
replies_to steps folder [] = []
replies_to steps folder (c ∷ cs) =
    steps.reply folder c ++ replies_to steps (steps.after folder c) cs

-- these bytes are whole commands and then rest, with the replies to the commands, and the folder
-- after them
pub record Served {F : Type 0} (steps : Steps F) (start : F) (bytes : List ℕ) (folder : F)
    (replies rest : List ℕ) : Type 0 where
  pub commands : List Command
  pub each : All IsCommand commands
  pub whole : bytes ≡ flat_map command_bytes commands ++ rest
  pub leaves : folder ≡ fold steps.after start commands
  pub answered : replies ≡ replies_to steps start commands

-- the end of a script, where no command begins: nothing is left, or the rest is a bad command
abbrev pub Ends : {F : Type 0} → Steps F → F → List ℕ → List ℕ → ℕ → Type 0
Ends steps folder rest out answer = ((rest ≡ []) × (out ≡ []) × (answer ≡ steps.status folder))
    ⊎ ((rest ≢ []) × (BeginsWithCommand rest → ⊥) × (out ≡ codes "bad command\n") × (answer ≡ 2))

-- the output and the result of a script over a folder
pub record Puts {F : Type 0} (steps : Steps F) (start : F) (script out : List ℕ) (answer : ℕ) :
    Type 0 where
  pub folder : F
  pub replies : List ℕ
  pub rest : List ℕ
  pub last : List ℕ
  pub served : Served steps start script folder replies rest
  pub ends : Ends steps folder rest last answer
  pub whole : out ≡ replies ++ last

-- a prefix of that output was written
abbrev pub PutsPrefix : {F : Type 0} → Steps F → F → List ℕ → Option (List ℕ)
    → Option (List ℕ) → Type 0
PutsPrefix steps start script wrote now =
    (out : List ℕ) (answer : ℕ) → Puts steps start script out answer → AppendsPrefix wrote now out

-- ---- the result of a run; left and then are the reader's remaining bytes before and after, wrote
-- and now the writer's bytes

-- the run wrote the whole output for the waiting bytes and the reader's remaining bytes
abbrev pub RunsToEnd : {F : Type 0} → Steps F → F → List ℕ → Option (List ℕ) → Option (List ℕ)
    → Option (List ℕ) → ℕ → Type 0
RunsToEnd steps start waiting left wrote now answer =
    IfSome left (λ script. (out : List ℕ) × Puts steps start (waiting ++ script) out answer
    × Appends wrote now out)

-- the run left this folder, which is the one after the whole commands of that script
abbrev pub LeavesFolder : {F : Type 0} → Steps F → F → List ℕ → Option (List ℕ) → F → Type 0
LeavesFolder steps start waiting left folder =
    IfSome left (λ script. (replies : List ℕ) × (rest : List ℕ)
    × Served steps start (waiting ++ script) folder replies rest × (BeginsWithCommand rest → ⊥))

-- the run wrote a prefix of that output
abbrev pub IsCutShort : {F : Type 0} → Steps F → F → List ℕ → Option (List ℕ) → Option (List ℕ)
    → Option (List ℕ) → Type 0
IsCutShort steps start waiting left wrote now =
    IfSome left (λ script. PutsPrefix steps start (waiting ++ script) wrote now)

-- the run read these bytes, and answered each whole command in them; the rest isn't wrong
pub record PausesAfter {F : Type 0} (steps : Steps F) (start folder : F) (waiting : List ℕ)
    (left then wrote now : Option (List ℕ))
    (read : List ℕ) : Type 0 where
  pub replies : List ℕ
  pub consumed : Consumes left then read
  pub served : Served steps start read folder replies waiting
  pub pending : IsPending waiting
  pub written : Appends wrote now replies

-- such a run over at least this many bytes
abbrev pub Pauses : {F : Type 0} → Steps F → F → Option (List ℕ) → Option (List ℕ) → Option (List ℕ)
    → Option (List ℕ) → ℕ → Type 0
Pauses {F} steps start left
    then wrote now least = (folder : F) × (waiting : List ℕ) × (read : List ℕ)
    × (least ≤ length read) × PausesAfter steps start folder waiting left then wrote now read

-- what a run that stopped early leaves
abbrev pub Stops : {F : Type 0} → Steps F → F → Option (List ℕ) → Option (List ℕ) → Option (List ℕ)
    → Option (List ℕ) → Stop → Type 0
Stops steps start left then wrote now ReadFault = Pauses steps start left then wrote now 0
Stops steps start left then wrote now TooManyTurns = Pauses steps start left
    then wrote now most_reads
Stops steps start left then wrote now WriteFault = IsCutShort steps start [] left wrote now
Stops steps start left then wrote now Memory = IsCutShort steps start [] left wrote now

-- a read after which the run ends: it returned nothing, or made the waiting bytes wrong
abbrev pub IsDecisive : {F : Type 0} → Steps F → F → List ℕ → List ℕ → Type 0
IsDecisive {F} steps folder waiting last =
    (last ≡ []) ⊎ ((after : F) × (replies : List ℕ) × (rest : List ℕ)
    × Served steps folder (waiting ++ last) after replies rest × IsWrong rest)

-- one read, of at most 65,536 bytes, after which the run ends
abbrev pub ReadsLast : {F : Type 0} → Steps F → F → List ℕ → Option (List ℕ)
    → Option (List ℕ) → Type 0
ReadsLast steps folder waiting left then =
    (last : List ℕ) × (length last ≤ largest_read) × Consumes left
    then last × IsDecisive steps folder waiting last

-- all reads but the last returned whole commands and the beginning of one, and the run ended after
-- the last: it read nothing else
pub record ReadsNoFurther {F : Type 0} (steps : Steps F) (start : F) (left then : Option (List ℕ)) :
    Type 0 where
  pub folder : F
  pub replies : List ℕ
  pub waiting : List ℕ
  pub before : List ℕ
  pub last : List ℕ
  pub served : Served steps start before folder replies waiting
  pub pending : IsPending waiting
  pub short : length last ≤ largest_read
  pub consumed : Consumes left then (before ++ last)
  pub decisive : IsDecisive steps folder waiting last

-- a count of failures: unchanged if a run returned or continues, one more if it stopped at such a
-- failure
pub record CountsFailures {T : Type 0} (result : Result T Stop) (stop : Stop) (before now : ℕ) :
    Type 0 where
  pub answered : OnOk result (now ≡ before)
  pub stopped : IsErrOf result stop → HasRisen before now

-- What a run of a script over a folder leaves, with its result: the reader and the writer, before
-- and after.
pub record Runs {F R W : Type 0} (steps : Steps F) (start : F)
    (remaining : R → Option (List ℕ)) (contents : W → Option (List ℕ))
    (unread left : Input R) (wrote now : Output W) (result : Result ℕ Stop) : Type 0 where
  pub end : IfOk result (RunsToEnd steps start [] (remaining unread.inner) (contents wrote.inner)
      (contents now.inner))
  pub stop : IfErr result (Stops steps start (remaining unread.inner) (remaining left.inner)
      (contents wrote.inner) (contents now.inner))
  pub last_read : OnOk result (ReadsNoFurther steps start (remaining unread.inner)
      (remaining left.inner))
  pub read_failures : CountsFailures result ReadFault unread.failures left.failures
  pub write_failures : CountsFailures result WriteFault wrote.failures now.failures
  pub reads : left.turns ≤ unread.turns + most_reads
  pub all_turns : IsErrOf result TooManyTurns → left.turns ≡ count_after unread.turns most_reads
  pub asked : left.largest_ask ≤ max unread.largest_ask largest_read
  pub asks : result ≢ Err Memory → left.largest_ask ≡ max unread.largest_ask largest_read

-- ---- one turn

-- The state of a run between two reads: the folder, the waiting bytes, the reader's remaining bytes
-- and the writer's bytes.
pub record RunState (F : Type 0) : Type 0 where
  pub folder : F
  pub waiting : List ℕ
  pub left : Option (List ℕ)
  pub wrote : Option (List ℕ)

abbrev pub run_state : {F : Type 0} → F → List ℕ → Option (List ℕ) → Option (List ℕ) → RunState F
run_state folder waiting left wrote =
    record { folder = folder; waiting = waiting; left = left; wrote = wrote }

-- the turn read these bytes, and answered each whole command
pub record GoesOn {F : Type 0} (steps : Steps F) (old new : RunState F) : Type 0 where
  pub read : List ℕ
  pub some : 0 < length read
  pub replies : List ℕ
  pub consumed : Consumes old.left new.left read
  pub served : Served steps old.folder (old.waiting ++ read) new.folder replies new.waiting
  pub pending : IsPending new.waiting
  pub written : Appends old.wrote new.wrote replies

abbrev pub TurnStops : {F : Type 0} → Steps F → RunState F → RunState F → Stop → Type 0
TurnStops steps old new ReadFault =
    (new.folder ≡ old.folder) × (new.waiting ≡ old.waiting) × Keeps old.left new.left
    × Keeps old.wrote new.wrote
TurnStops steps old new WriteFault =
    IsCutShort steps old.folder old.waiting old.left old.wrote new.wrote
TurnStops steps old new Memory =
    IsCutShort steps old.folder old.waiting old.left old.wrote new.wrote
TurnStops steps old new TooManyTurns = ⊥

-- a turn from one state to another continues, ends the run after its last read, or stops it
abbrev pub Turns : {F : Type 0} → Steps F → RunState F → RunState F
    → Result (Option ℕ) Stop → Type 0
Turns steps old new (Ok None) = GoesOn steps old new
Turns steps old new (Ok (Some answer)) =
    RunsToEnd steps old.folder old.waiting old.left old.wrote new.wrote answer
    × ReadsLast steps old.folder old.waiting old.left new.left
    × LeavesFolder steps old.folder old.waiting old.left new.folder
Turns steps old new (Err stop) = TurnStops steps old new stop
