use Rattle.std.proofs.Common.{◌≡◌, ◌++◌, ◌∷◌, [], map, ap, ◌∙◌, arith, sym, append_assoc, rules}
use Rattle.std.proofs.lemmas.Bool.Decides.{nat_tests}
use Rattle.std.proofs.lemmas.List.Elements.{All-same, All-tail}
use Rattle.memchr.specs.Find.{OccursAt, matches}
use Rattle.al_scalar.specs.Scalar.{text_of}
use Rattle.al_rules_settings.specs.Commands.{command_fault, place_after}
use Rattle.al_rules_settings.proofs.Places.{places_occur}
use Rattle.al_rules_settings.proofs.commands.check_command.Goals as goal

pub loop-at-init : goal.loop-at-init
loop-at-init c =
    let text = text_of c.args.script.now in
    let start = c.args.start.now in
    let all : c.into_iter-at-iterator.result ≡ matches text start 0 =
    cc (c.find_iter-at-items.ensures.value, c.into_iter-at-iterator.ensures.into_iter_gives, c.as_bytes.ensures.value, c.text.ensures) in
    record {
      all = ap (λ xs. c.args.faults.now ++ map (command_fault c.args.script.now start c.args.name.now) xs) all;
      occur = All-same (OccursAt text start) _ _ all (places_occur text start);
    }

pub loop-at-preserved : goal.loop-at-preserved
loop-at-preserved c =
    let split : c.loop-at.at-iterator ≡ c.in-Some.at ∷ c.next.new.self = search rules in
    let f = command_fault c.args.script.now c.args.start.now c.args.name.now in
    let Occurs = OccursAt (text_of c.args.script.now) c.args.start.now in
    let end : c.saturating_add.result ≡ place_after c.locate-in-loop-at.result = grind (arith, nat_tests, c.saturating_add.ensures) in
    let added : c.report_text.new.self ≡ c.loop-at.faults ++ f c.in-Some.at ∷ [] = search rules in
    record {
      all = ap (λ xs. xs ++ map f c.next.new.self) added
          ∙ append_assoc c.loop-at.faults (f c.in-Some.at ∷ []) (map f c.next.new.self)
          ∙ sym (ap (λ xs. c.loop-at.faults ++ map f xs) split) ∙ c.loop-at.invariant.all;
      occur = All-tail Occurs c.in-Some.at c.next.new.self (All-same Occurs _ _ (sym split) c.loop-at.invariant.occur);
    }
