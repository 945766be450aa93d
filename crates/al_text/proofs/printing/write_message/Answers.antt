use Rattle.std.proofs.Common.{◌≡◌, ◌∙◌, ◌++◌, ◌∷◌, [], ℕ, List, Bor, Option, Some, None, unwrap_or, ap, refl, slice_get, subst, append_assoc}
use Rattle.std.specs.Option.{option_copied}
use Rattle.al_base.specs.Streams.{WritesOrFails}
use Rattle.al_text.specs.Messages.{argument}
use Rattle.al_text.proofs.printing.write_message.Goals as goal

-- the appended parts, reassociated to the left
line_is : (h f m s t k : List ℕ) →
    h ++ (f ++ (m ++ (s ++ (t ++ ((32 ∷ 91 ∷ []) ++ (k ++ ((93 ∷ 10 ∷ []) ++ [])))))))
    ≡ (h ++ f ++ m ++ s ++ t) ++ 32 ∷ 91 ∷ (k ++ 93 ∷ 10 ∷ [])
line_is h f m s t k = simp append_assoc

text_or_none : (text : Option (Bor (List ℕ))) (none : Bor (List ℕ)) → (unwrap_or text none).now ≡ unwrap_or (option_copied text) none.now
text_or_none None none = refl
text_or_none (Some text) none = refl

pub returns : goal.returns
returns g c =
    let a = c.args in
    let row = c.row_of-row.ensures in
    let first : c.unwrap_or.result.now ≡ unwrap_or (slice_get a.fault.now.args 0) [] =
    ap (λ t. t.now) c.unwrap_or.ensures ∙ text_or_none c.first.result _ ∙ ap (λ o. unwrap_or o []) c.first.ensures.is in
    let second : c.unwrap_or-2.result.now ≡ unwrap_or (slice_get a.fault.now.args 1) [] =
    ap (λ t. t.now) c.unwrap_or-2.ensures ∙ text_or_none c.second.result _ ∙ ap (λ o. unwrap_or o []) c.second.ensures in
    let w = rw (
      c.as_bytes.ensures.value ∙ row.head,
      c.as_bytes-2.ensures.value ∙ first,
      c.as_bytes-3.ensures.value ∙ row.middle,
      c.as_bytes-4.ensures.value ∙ second,
      c.as_bytes-5.ensures.value ∙ row.tail,
      c.as_bytes-6.ensures.value ∙ row.kind,
    ) at c.write_fragments.ensures in
    subst (WritesOrFails _ _ _ _) (line_is _ (argument a.fault.now.args 0) _ (argument a.fault.now.args 1) _ _) w
