-- If a run stops at the reply to an edit because memory ran out, the edit is refused for no other reason.
use Rattle.std.proofs.Common.{◌≡◌, inl, inr, List, ℕ, Option, None, Result, Err, sym, arith}
use Rattle.std.proofs.lemmas.Bool.Decides.{nat_tests}
use Rattle.std.proofs.lemmas.Grind.{common_steps}
use Rattle.std.specs.Prelude.{IfErr}
use Rattle.al_base.specs.declared.stops.Stop.{Stop}
use Rattle.al_base.specs.declared.stops.Stop.TheVariants as stops
use Rattle.al_session.specs.Meaning.{Meaning}
use Rattle.al_session.specs.Folder.{Folder, put_refusal, delete_refusal, refusal_or_memory}
use Rattle.al_session.specs.declared.lint.Refused.{Refused}
use Rattle.al_session.specs.declared.lint.Refused.TheVariants.{Memory}
use Rattle.al_session.specs.declared.session.Edit.{Edit}
use Rattle.al_cli_scripts.specs.Replies.{ReplyStops}

-- the session ran out of memory
wanted_memory : {T : Type 0} (r : Result T Stop) (reply : Result Edit Refused) (refusal : Option Refused) (old new : Option (List ℕ))
    → IfErr r (ReplyStops reply old new) → IfErr reply (λ x. x ≡ refusal_or_memory refusal) → r ≡ Err stops.Memory → refusal_or_memory refusal ≡ Memory
wanted_memory r reply refusal old new s q e =
    let stopped : ReplyStops reply old new stops.Memory = rw e at s in
    elim stopped [
      | inl x ↦ sym (rw x.1 at q)
      | inr x ↦ let w : stops.Memory ≡ stops.WriteFault = x.0 in absurd cc
    ]

-- the edit isn't refused for any other reason
module _ {I T : Type 0} (m : Meaning I) (folder : Folder) (path : List ℕ) (r : Result T Stop) (reply : Result Edit Refused) (old new : Option (List ℕ))
    (stopped : IfErr r (ReplyStops reply old new)) (memory : r ≡ Err stops.Memory) where
  pub put_allowed : (bytes : List ℕ) → IfErr reply (λ x. x ≡ refusal_or_memory (put_refusal m folder path bytes)) → put_refusal m folder path bytes ≡ None
  unfolding put_refusal
  put_allowed bytes q = let wanted = wanted_memory r reply (put_refusal m folder path bytes) old new stopped q memory in grind (arith, nat_tests, common_steps)

  pub delete_allowed : IfErr reply (λ x. x ≡ refusal_or_memory (delete_refusal m folder path)) → delete_refusal m folder path ≡ None
  unfolding delete_refusal
  delete_allowed q = let wanted = wanted_memory r reply (delete_refusal m folder path) old new stopped q memory in grind (arith, nat_tests, common_steps)
