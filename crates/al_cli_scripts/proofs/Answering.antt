-- Answering the commands among the waiting bytes, one after another.
use Rattle.std.proofs.Common.{◌≡◌, ℕ, ◌+◌, ◌-◌, List, ◌++◌, length, take, drop, subst, ap, ◌∙◌, Option, rules, codes}
use Rattle.std.proofs.lemmas.Grind.{common_steps}
use Rattle.std.proofs.Math.Seq.{drop-drop}
use Rattle.std.specs.Io.KnownBytes.{Appends}
use Rattle.std.proofs.KnownBytes.{Appends-trans}
use Rattle.al_base.specs.Counted.{AppendsPrefix}
use Rattle.al_base.proofs.Bytes.{AppendsPrefix-after}
use Rattle.al_cli_scripts.specs.Script.{Command, command_bytes, IsWrong}
use Rattle.al_cli_scripts.specs.Runs.{Steps, Served}
use Rattle.al_cli_scripts.specs.Private.Next.{IsFirst}
use Rattle.al_cli_scripts.specs.Private.Answered.{IsStuck}
use Rattle.al_cli_scripts.proofs.Serving.{Served-one, Served-more, Served-then}
use Rattle.al_cli_scripts.proofs.Outputs.{Prefix-after, Prefix-bad, Prefix-replies}

-- the first `done` of the waiting bytes are commands, and the replies to them were written
pub record Answering {F : Type 0} (steps : Steps F) (start folder : F) (waiting : List ℕ) (done : ℕ) (wrote now : Option (List ℕ)) : Type 0 where
  pub replies : List ℕ
  pub served : Served steps start waiting folder replies (drop done waiting)
  pub written : Appends wrote now replies

pub rest_is : (xs : List ℕ) (k : ℕ) → take (length xs - k) (drop k xs) ≡ drop k xs
rest_is xs k = search (rules, common_steps)

module _ {F : Type 0} {steps : Steps F} {start folder : F} {waiting : List ℕ} {done : ℕ} {wrote now : Option (List ℕ)} (then : Option (List ℕ))
    (s : Answering steps start folder waiting done wrote now) where
  -- the next command is answered
  served_next : (c : Command) (n : ℕ) → IsFirst (take (length waiting - done) (drop done waiting)) c n
      → Served steps start waiting (steps.after folder c) (s.replies ++ steps.reply folder c) (drop (done + n) waiting)
  served_next c n first =
      let begins : drop done waiting ≡ command_bytes c ++ drop (done + n) waiting =
      subst (λ l. l ≡ command_bytes c ++ drop n l) (rest_is waiting done) first.whole ∙ ap (λ l. command_bytes c ++ l) (drop-drop n done waiting) in
      Served-then s.served (rw begins (Served-one folder c (drop (done + n) waiting) first.command_ok))

  pub Answering-next : (c : Command) (n : ℕ) → IsFirst (take (length waiting - done) (drop done waiting)) c n → Appends now then (steps.reply folder c)
      → Answering steps start (steps.after folder c) waiting (done + n) wrote then
  Answering-next c n first w = record {
    replies = s.replies ++ steps.reply folder c;
    served = served_next c n first;
    written = Appends-trans wrote now then s.replies (steps.reply folder c) s.written w;
  }

  -- the run stops while writing a reply
  pub IsStuck-in_reply : (c : Command) (n : ℕ) → IsFirst (take (length waiting - done) (drop done waiting)) c n → AppendsPrefix now then (steps.reply folder c)
      → IsStuck steps start waiting wrote then
  IsStuck-in_reply c n first w = λ more.
      Prefix-replies wrote then (Served-more more (served_next c n first)) (AppendsPrefix-after wrote now then s.replies (steps.reply folder c) s.written w)

  pub IsStuck-in_bad : IsWrong (take (length waiting - done) (drop done waiting)) → AppendsPrefix now then (codes "bad command\n") → IsStuck steps start waiting wrote then
  IsStuck-in_bad wrong w = λ more.
      Prefix-after wrote now then (Served-more more s.served) s.written (Prefix-bad steps folder (drop done waiting) more now then (subst IsWrong (rest_is waiting done) wrong) w)
