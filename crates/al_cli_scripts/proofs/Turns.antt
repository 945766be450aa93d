-- The contract of a turn from those of its parts, and that of a run from its turns.
use Rattle.std.proofs.Common.{◌≡◌, ◌≢◌, ℕ, max, List, [], ◌++◌, sym, subst, ap, ◌∙◌, arith, Option, None, Some, inl, inr, refl}
use Rattle.std.proofs.Common.{Result, Err, OnOk, append_assoc, append-nil, codes, ◌⊎◌}
use Rattle.std.specs.Prelude.{IfSome}
use Rattle.std.proofs.Math.Nat.{le-max_right, max-eq_left}
use Rattle.std.specs.Io.KnownBytes.{Appends, Consumes, Keeps, IsAtEnd}
use Rattle.std.proofs.KnownBytes.{Appends-trans, Consumes-trans, Consumes-kept, Consumes-whole, Appends-kept, Consumes-nil, Appends-nil}
use Rattle.al_base.specs.Counted.{AppendsPrefix, HasRisen}
use Rattle.al_base.proofs.Bytes.{AppendsPrefix-all, AppendsPrefix-none}
use Rattle.al_cli_scripts.specs.Script.{IsWrong, IsPending, BeginsWithCommand}
use Rattle.al_cli_scripts.specs.Runs.{CountsFailures, Steps, Served, Puts, PutsPrefix, Ends}
use Rattle.al_cli_scripts.specs.Runs.{RunsToEnd, LeavesFolder, IsCutShort, PausesAfter, RunState, GoesOn, TurnStops, Stops, ReadsLast, ReadsNoFurther}
use Rattle.al_base.specs.declared.stops.Stop.{Stop}
use Rattle.al_base.specs.declared.stops.Stop.TheVariants.{ReadFault, WriteFault, Memory, TooManyTurns}
use Rattle.al_cli_scripts.specs.Private.Answered.{IsStuck}
use Rattle.al_cli_scripts.proofs.Serving.{Served-none, Served-more, Served-then}
use Rattle.al_cli_scripts.proofs.Outputs.{unbegun_empty, Puts-after, Puts-bad, Puts-end, Prefix-after, Prefix-all, Prefix-replies}
use Rattle.al_cli_scripts.proofs.Laws.{wrong_never, wrong_nonempty}

-- the count of failures, if a run stops with the stop of its last turn
pub counted_stop : {S T : Type 0} (q : Result S Stop) (r : Result T Stop) (e stop : Stop) (a b c : ℕ) → q ≡ Err e → r ≡ Err e → b ≡ a → CountsFailures q stop b c → CountsFailures r stop a c
counted_stop {S} {T} q r e stop a b c was is same counts =
    let P : Result T Stop → Type 0 = λ x. OnOk x (c ≡ a) in
    record { answered = subst P (sym is) tt; stopped = λ h. subst (λ k. HasRisen k c) same (counts.stopped cc) }

-- the largest read asked for so far, after one more read of 65,536 bytes
pub asked_again : (a b n : ℕ) → max b 65536 ≡ max a 65536 → n ≡ max b 65536 → max n 65536 ≡ max a 65536
asked_again a b n same asked = ap (λ k. max k 65536) (asked ∙ same) ∙ max-eq_left {n = max a 65536} {m = 65536} (le-max_right a 65536)

pub pending_none : IsPending []
pending_none = record { unfinished = unbegun_empty; hopeful = λ w. wrong_nonempty [] [] w refl }

-- what a reader had left is what was read, then what is left now
by_read : (P : List ℕ → Type 0) (left then : Option (List ℕ)) (read : List ℕ) → Consumes left then read → ((rest : List ℕ) → then ≡ Some rest → P (read ++ rest)) → IfSome left P
by_read P None then read k h = tt
by_read P (Some x) None read k h = absurd k
by_read P (Some x) (Some y) read k h = subst P (sym k) (h y refl)

module _ {F : Type 0} (steps : Steps F) where
  -- ---- one turn

  -- nothing more is read
  pub turn_end : (f : F) (waiting last : List ℕ) (a : ℕ) (left then wrote now : Option (List ℕ)) → Consumes left then [] → IsAtEnd then
      → Ends steps f waiting last a → Appends wrote now last → RunsToEnd steps f waiting left wrote now a
  turn_end f waiting last a left then wrote now k e ends w = Consumes-whole left then [] _ k e (last, rw (append-nil waiting) (Puts-end f waiting last a ends), w)

  pub turn_end_cut : (f : F) (waiting : List ℕ) (left then wrote now : Option (List ℕ)) → Consumes left then [] → IsAtEnd then
      → (BeginsWithCommand waiting → ⊥) → waiting ≢ [] → AppendsPrefix wrote now (codes "bad command\n") → IsCutShort steps f waiting left wrote now
  turn_end_cut f waiting left then wrote now k e none some w =
      Consumes-whole left then [] (λ s. PutsPrefix steps f (waiting ++ s) wrote now) k e (rw (append-nil waiting) (Prefix-all wrote now (Puts-bad f waiting some none) w))

  pub end_leaves : (f g : F) (waiting : List ℕ) (left then : Option (List ℕ)) → g ≡ f → Consumes left then [] → IsAtEnd then
      → (BeginsWithCommand waiting → ⊥) → LeavesFolder steps f waiting left g
  end_leaves f g waiting left then same k e none = Consumes-whole left then [] _ k e ([], waiting, rw (append-nil waiting, same) (Served-none f waiting), none)

  pub turn_unwritten : (f : F) (waiting : List ℕ) (left wrote now : Option (List ℕ)) → Keeps wrote now → IsCutShort steps f waiting left wrote now
  turn_unwritten f waiting None wrote now w = tt
  turn_unwritten f waiting (Some s) wrote now w = λ out a p. AppendsPrefix-none wrote now out w

  -- these bytes are read
  module _ (f : F) (waiting read : List ℕ) (left then : Option (List ℕ)) (k : Consumes left then read) where
    -- a predicate on the rest of the script, by the waiting bytes, those that are read, and those that are left
    by_all : (P : List ℕ → Type 0) → ((rest : List ℕ) → P ((waiting ++ read) ++ rest)) → IfSome left (λ s. P (waiting ++ s))
    by_all P h = by_read (λ s. P (waiting ++ s)) left then read k (λ rest e. subst P (append_assoc waiting read rest) (h rest))

    pub turn_stuck : (wrote now : Option (List ℕ)) → IsStuck steps f (waiting ++ read) wrote now → IsCutShort steps f waiting left wrote now
    turn_stuck wrote now s = by_all (λ l. PutsPrefix steps f l wrote now) s

    module _ {g : F} {replies rest : List ℕ} (s : Served steps f (waiting ++ read) g replies rest) where
      pub turn_answered : (wrote now : Option (List ℕ)) → Appends wrote now replies → IsCutShort steps f waiting left wrote now
      turn_answered wrote now w = turn_stuck wrote now (λ more. Prefix-replies wrote now (Served-more more s) (AppendsPrefix-all wrote now replies w))

      pub turn_bad : (wrote now : Option (List ℕ)) → IsWrong rest → Appends wrote now (replies ++ codes "bad command\n") → RunsToEnd steps f waiting left wrote now 2
      turn_bad wrote now wrong w = by_all (λ l. (out : List ℕ) × Puts steps f l out 2 × Appends wrote now out)
          (λ more. (replies ++ codes "bad command\n", Puts-after (Served-more more s) (Puts-bad g (rest ++ more) (wrong_nonempty rest more wrong) (wrong_never rest more wrong)), w))

      pub bad_leaves : IsWrong rest → LeavesFolder steps f waiting left g
      bad_leaves wrong = by_all (λ l. (r : List ℕ) × (last : List ℕ) × Served steps f l g r last × (BeginsWithCommand last → ⊥))
          (λ more. (replies, rest ++ more, Served-more more s, wrong_never rest more wrong))

  pub TurnStops-cut : (old new : RunState F) (e : Stop) → (e ≡ WriteFault) ⊎ (e ≡ Memory)
      → IsCutShort steps old.folder old.waiting old.left old.wrote new.wrote → TurnStops steps old new e
  TurnStops-cut old new e which cut = elim which [
    | inl w ↦ subst (TurnStops steps old new) (sym w) cut
    | inr m ↦ subst (TurnStops steps old new) (sym m) cut
  ]

  -- a turn never stops because of too many turns
  pub not_too_many : {T : Type 0} (r : Result T Stop) (old new : RunState F) (e : Stop) → r ≡ Err e → r ≡ Err TooManyTurns → TurnStops steps old new e → ⊥
  not_too_many r old new e is many turn = let same : e ≡ TooManyTurns = cc in subst (TurnStops steps old new) same turn

  -- ---- the turns of a run

  -- before the first turn
  pub Paused-none : (f : F) (left wrote : Option (List ℕ)) → PausesAfter steps f f [] left left wrote wrote []
  Paused-none f left wrote = record { replies = []; consumed = Consumes-nil left; served = Served-none f []; pending = pending_none; written = Appends-nil wrote }

  module _ {f g : F} {waited read : List ℕ} {left mid wrote now : Option (List ℕ)} (p : PausesAfter steps f g waited left mid wrote now read) where
    -- a turn ends the run
    pub Runs-after : (a : ℕ) (final : Option (List ℕ)) → RunsToEnd steps g waited mid now final a → RunsToEnd steps f [] left wrote final a
    Runs-after a final r = by_read _ left mid read p.consumed (λ rest e. let o = rw e at r in
        (p.replies ++ o.0, Puts-after (Served-more rest p.served) o.1, Appends-trans wrote now final p.replies o.0 p.written o.2))

    -- the folder after the run
    pub Leaves-after : (h : F) → LeavesFolder steps g waited mid h → LeavesFolder steps f [] left h
    Leaves-after h r = by_read _ left mid read p.consumed (λ rest e. let o = rw e at r in
        (p.replies ++ o.0, o.1, Served-then (Served-more rest p.served) o.2, o.3))

    -- the last read of the run
    pub Last-after : (then : Option (List ℕ)) → ReadsLast steps g waited mid then → ReadsNoFurther steps f left then
    Last-after then t = record {
      folder = g;
      replies = p.replies;
      waiting = waited;
      before = read;
      last = t.0;
      served = p.served;
      pending = p.pending;
      short = t.1;
      consumed = Consumes-trans left mid then read t.0 p.consumed t.2;
      decisive = t.3;
    }

    -- a turn stops the run
    Cut-after : (final : Option (List ℕ)) → IsCutShort steps g waited mid now final → IsCutShort steps f [] left wrote final
    Cut-after final r = by_read (λ s. PutsPrefix steps f s wrote final) left mid read p.consumed (λ rest e.
        Prefix-after wrote now final (Served-more rest p.served) p.written (rw e at r))

  module _ {f : F} {read : List ℕ} {left wrote : Option (List ℕ)} (old new : RunState F) (p : PausesAfter steps f old.folder old.waiting left old.left wrote old.wrote read) where
    -- the run continues after a turn
    pub Paused-more : (t : GoesOn steps old new) → PausesAfter steps f new.folder new.waiting left new.left wrote new.wrote (read ++ t.read)
    Paused-more t = record {
      replies = p.replies ++ t.replies;
      consumed = Consumes-trans left old.left new.left read t.read p.consumed t.consumed;
      served = Served-then (Served-more t.read p.served) t.served;
      pending = t.pending;
      written = Appends-trans wrote old.wrote new.wrote p.replies t.replies p.written t.written;
    }

    pub Stops-after : (e : Stop) → TurnStops steps old new e → Stops steps f left new.left wrote new.wrote e
    Stops-after ReadFault t = (
      old.folder,
      old.waiting,
      read,
      omega arith,
      record {
        replies = p.replies;
        consumed = Consumes-kept left old.left new.left read p.consumed t.2;
        served = p.served;
        pending = p.pending;
        written = Appends-kept wrote old.wrote new.wrote p.replies p.written t.3;
      },
    )
    Stops-after WriteFault t = Cut-after p new.wrote t
    Stops-after Memory t = Cut-after p new.wrote t
    Stops-after TooManyTurns t = absurd t
