use Rattle.std.proofs.Common.{◌≡◌, ℕ, List, ◌∷◌, ◌++◌, Bool, true, false, drop, length, refl, sym, ap, ◌∙◌, append_assoc, append-nil, string_bytes, arith}
use Rattle.std.specs.Prelude.{◌&&◌, not}
use Rattle.std.specs.List.{flat_map}
use Rattle.std.specs.Str.{chars}
use Rattle.std.specs.Char.{encode_utf8}
use Rattle.std.proofs.lemmas.Iterator.{YieldsList-from_chars}
use Rattle.std.proofs.lemmas.Iterator.Adapters.{YieldsList-from_skip}
use Rattle.std.proofs.lemmas.Iterator.Consumers.{YieldsList-turn, YieldsList-end}
use Rattle.std.proofs.lemmas.List.{at_drop_all, length_push}
use Rattle.al_expr_grammar.specs.Tokens.{is_quote}
use Rattle.al_expr_grammar.proofs.RestItems.{rest_item}
use Rattle.al_expr_typing.proofs.LiteralLemmas.{is_read, unquoted}
use Rattle.al_expr_typing.proofs.literals.text_value.Goals.{then-not-after_quote, else-not-after_quote}
use Rattle.al_expr_typing.proofs.literals.text_value.Goals as goal

quote_read : (v : List ℕ) (after quote : Bool) (c : ℕ) (cs rest : List ℕ) → cs ≡ c ∷ rest → quote ≡ (not after && is_quote c) → quote ≡ true
    → v ++ flat_map encode_utf8 (unquoted quote rest) ≡ v ++ flat_map encode_utf8 (unquoted after cs)
quote_read v after quote c cs rest e q t = rw (e, ← q, t) refl

text_read : (v : List ℕ) (after quote : Bool) (c : ℕ) (cs rest : List ℕ) → cs ≡ c ∷ rest → quote ≡ (not after && is_quote c) → quote ≡ false
    → (v ++ encode_utf8 c) ++ flat_map encode_utf8 (unquoted quote rest) ≡ v ++ flat_map encode_utf8 (unquoted after cs)
text_read v after quote c cs rest e q f = rw (e, ← q, f) (append_assoc v (encode_utf8 c) _)

pub loop-ch-preserved-then-after_quote : goal.loop-ch-preserved-then-after_quote
loop-ch-preserved-then-after_quote c =
    let cs = drop 1 (chars c.args.literal.now) in
    let y = YieldsList-from_skip 1 (YieldsList-from_chars c.args.literal.now c.utf8.literal cc) cc in
    let t = YieldsList-turn y c.loop-ch.yielded _ c.loop-ch.yielded_by _ _ c.in-Some.ch c.in-Some.is c.next.ensures.steps in
    let r = rest_item cs (length c.loop-ch.yielded) c.in-Some.ch t.0 t.1 in
    let q : c.if-not-after_quote.after_quote ≡ (not c.loop-ch.after_quote && is_quote c.in-Some.ch) =
    elim c.if-not-after_quote.branch [
      | then-not-after_quote w ↦ rw w.if-not-after_quote.true w.after_quote-is
      | else-not-after_quote w ↦ rw w.if-not-after_quote.false (rw w.if-not-after_quote.false at w.after_quote-is)
    ] in
    rw (length_push c.loop-ch.yielded c.in-Some.ch)
    (quote_read (string_bytes c.loop-ch.value) c.loop-ch.after_quote _ c.in-Some.ch _ _ r q c.if-after_quote.true ∙ c.loop-ch.invariant)

pub loop-ch-preserved : goal.loop-ch-preserved
loop-ch-preserved c =
    let cs = drop 1 (chars c.args.literal.now) in
    let y = YieldsList-from_skip 1 (YieldsList-from_chars c.args.literal.now c.utf8.literal cc) cc in
    let t = YieldsList-turn y c.loop-ch.yielded _ c.loop-ch.yielded_by _ _ c.in-Some.ch c.in-Some.is c.next.ensures.steps in
    let r = rest_item cs (length c.loop-ch.yielded) c.in-Some.ch t.0 t.1 in
    let q : c.if-not-after_quote.after_quote ≡ (not c.loop-ch.after_quote && is_quote c.in-Some.ch) =
    elim c.if-not-after_quote.branch [
      | then-not-after_quote w ↦ rw w.if-not-after_quote.true w.after_quote-is
      | else-not-after_quote w ↦ rw w.if-not-after_quote.false (rw w.if-not-after_quote.false at w.after_quote-is)
    ] in
    rw (length_push c.loop-ch.yielded c.in-Some.ch, c.in_ok-push.ensures.bytes)
    (text_read (string_bytes c.loop-ch.value) c.loop-ch.after_quote _ c.in-Some.ch _ _ r q c.if-after_quote.false ∙ c.loop-ch.invariant)

pub returns : goal.returns
returns c =
    let cs = drop 1 (chars c.args.literal.now) in
    let t = YieldsList-end (YieldsList-from_skip 1 (YieldsList-from_chars c.args.literal.now c.utf8.literal cc) cc) c.loop-ch.yielded _ c.loop-ch.yielded_by _ _ c.in-None.is c.next.ensures.steps in
    let e = at_drop_all (λ l. string_bytes c.loop-ch.value ++ flat_map encode_utf8 (unquoted c.loop-ch.after_quote l)) cs (length c.loop-ch.yielded) (omega (arith, t.1)) in
    sym (append-nil _) ∙ sym e ∙ c.loop-ch.invariant ∙ ap (flat_map encode_utf8) (is_read cs)
