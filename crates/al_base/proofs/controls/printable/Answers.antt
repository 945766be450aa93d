use Rattle.std.proofs.Common.{◌≡◌, map, subst, IfOk, string_bytes, rules, tests}
use Rattle.std.specs.Prelude.{chars, encode_utf8_all}
use Rattle.std.proofs.lemmas.Iterator.{text_from_collect, YieldsList-from_chars, YieldsList-from_map}
use Rattle.al_base.specs.Printable.{printable_byte}
use Rattle.al_base.proofs.PrintableTexts.{printable_characters}
use Rattle.al_base.proofs.controls.printable.Goals as goal

pub returns : goal.returns
returns c =
    let text = c.args.text.now in
    let characters : IfOk c.collect.result (λ it. string_bytes it ≡ encode_utf8_all (map printable_byte (chars text))) =
    text_from_collect _ c.collect.ensures.ran (YieldsList-from_map _ printable_byte (YieldsList-from_chars text c.utf8.text cc) c.map.ensures.closure
    (λ x r q k. search (rules, tests))) in
    subst (λ bs. IfOk c.collect.result (λ it. string_bytes it ≡ bs)) (printable_characters text c.utf8.text) characters
