use Rattle.std.proofs.Common.{◌≡◌, ◌∙◌, [], ◌∷◌, ◌+◌, ◌<◌, ◌++◌, ap, sym, length, rules}
use Rattle.std.specs.List.{flat_map}
use Rattle.std.proofs.lemmas.List.Elements.{All-rest, All-same, All-weaker}
use Rattle.memchr.specs.Find.{Passes, places}
use Rattle.memchr.proofs.lemmas.CallerLemmas.{All-places}
use Rattle.al_base.proofs.LineStarts.{after_break, after_no_break, break_bytes, start_after_break, starts_by_places}
use Rattle.al_base.proofs.lines.Lines.of.Goals as goal

pub loop-at-init : goal.loop-at-init
loop-at-init c =
    let bytes = c.args.bytes.now in
    let first : c.push.new.self.items ≡ 0 ∷ [] = search rules in
    let all : c.into_iter-at-iterator.result ≡ places break_bytes bytes = search rules in
    record {
      starts = ap (λ xs. xs ++ flat_map (start_after_break bytes) c.into_iter-at-iterator.result) first
          ∙ ap (λ ks. 0 ∷ flat_map (start_after_break bytes) ks) all ∙ starts_by_places bytes;
      inside = All-same (λ k. k < length bytes) _ _ all
          (All-weaker (λ k. (k < length bytes) × Passes break_bytes bytes k) (λ k. k < length bytes) (λ k h. h.0) _ (All-places break_bytes bytes));
    }

pub loop-at-preserved-in-Continue-branch-2 : goal.loop-at-preserved-in-Continue-branch-2
loop-at-preserved-in-Continue-branch-2 c =
    let split : c.loop-at.at-iterator ≡ c.in-Some.at ∷ c.next.new.self = search rules in
    let more : c.push-then-is_break_end.new.self.items ≡ c.loop-at.starts.items ++ (c.in-Some.at + 1) ∷ [] = search rules in
    record {
      starts = ap (λ xs. xs ++ flat_map (start_after_break c.args.bytes.now) c.next.new.self) more
          ∙ after_break c.args.bytes.now c.loop-at.starts.items c.in-Some.at _ _ split (sym c.is_break_end.ensures ∙ c.if-is_break_end.true) ∙ c.loop-at.invariant.starts;
      inside = All-rest (λ k. k < length c.args.bytes.now) _ _ _ split c.loop-at.invariant.inside;
    }

pub loop-at-preserved : goal.loop-at-preserved
loop-at-preserved c =
    let split : c.loop-at.at-iterator ≡ c.in-Some.at ∷ c.next.new.self = search rules in
    record {
      starts = after_no_break c.args.bytes.now c.loop-at.starts.items c.in-Some.at _ _ split (sym c.is_break_end.ensures ∙ c.if-is_break_end.false) ∙ c.loop-at.invariant.starts;
      inside = All-rest (λ k. k < length c.args.bytes.now) _ _ _ split c.loop-at.invariant.inside;
    }
