-- Serving the commands of a script: one command, more bytes appended, and one part after another.
use Rattle.std.proofs.Common.{◌≡◌, ℕ, List, [], ◌∷◌, ◌++◌, sym, ap, ◌∙◌, refl, append_assoc, append-nil}
use Rattle.std.proofs.lemmas.Grind.{flat_map-append}
use Rattle.std.proofs.lemmas.List.Elements.{All-append, All-cons, All-nil}
use Rattle.std.proofs.lemmas.List.Sums.{fold-append}
use Rattle.std.specs.List.{fold, flat_map}
use Rattle.al_cli_scripts.specs.Script.{Command, command_bytes, IsCommand}
use Rattle.al_cli_scripts.specs.Runs.{Steps, Served, replies_to}

replies_to-append : {F : Type 0} (steps : Steps F) (f : F) (cs ds : List Command) → replies_to steps f (cs ++ ds) ≡ replies_to steps f cs ++ replies_to steps (fold steps.after f cs) ds
replies_to-append steps f [] ds = refl
replies_to-append steps f (c ∷ cs) ds = ap (λ l. steps.reply f c ++ l) (replies_to-append steps (steps.after f c) cs ds) ∙ sym (append_assoc (steps.reply f c) _ _)

module _ {F : Type 0} {steps : Steps F} where
  -- no command yet
  pub Served-none : (f : F) (bytes : List ℕ) → Served steps f bytes f [] bytes
  Served-none f bytes = record { commands = []; each = All-nil IsCommand; whole = refl; leaves = refl; answered = refl }

  pub Served-one : (f : F) (c : Command) (more : List ℕ) → IsCommand c → Served steps f (command_bytes c ++ more) (steps.after f c) (steps.reply f c) more
  Served-one f c more ok = record {
    commands = c ∷ [];
    each = All-cons IsCommand c [] ok (All-nil IsCommand);
    whole = ap (λ l. l ++ more) (sym (append-nil (command_bytes c)));
    leaves = refl;
    answered = sym (append-nil (steps.reply f c));
  }

  -- more bytes are appended
  pub Served-more : {f g : F} {bytes replies rest : List ℕ} (more : List ℕ) → Served steps f bytes g replies rest → Served steps f (bytes ++ more) g replies (rest ++ more)
  Served-more {rest = rest} more s = record {
    commands = s.commands;
    each = s.each;
    whole = ap (λ l. l ++ more) s.whole ∙ append_assoc (flat_map command_bytes s.commands) rest more;
    leaves = s.leaves;
    answered = s.answered;
  }

  -- then the commands of the rest
  pub Served-then : {f g h : F} {bytes rest last replies more : List ℕ} → Served steps f bytes g replies rest → Served steps g rest h more last
      → Served steps f bytes h (replies ++ more) last
  Served-then {f} {last = last} {more = more} s t = record {
    commands = s.commands ++ t.commands;
    each = All-append IsCommand s.commands t.commands s.each t.each;
    whole = s.whole ∙ ap (λ l. flat_map command_bytes s.commands ++ l) t.whole ∙ sym (append_assoc (flat_map command_bytes s.commands) (flat_map command_bytes t.commands) last)
        ∙ ap (λ l. l ++ last) (sym (flat_map-append command_bytes s.commands t.commands));
    leaves = t.leaves ∙ ap (λ x. fold steps.after x t.commands) s.leaves ∙ sym (fold-append steps.after f s.commands t.commands);
    answered = ap (λ l. l ++ more) s.answered ∙ ap (λ l. replies_to steps f s.commands ++ l) (t.answered ∙ ap (λ x. replies_to steps x t.commands) s.leaves)
        ∙ sym (replies_to-append steps f s.commands t.commands);
  }
