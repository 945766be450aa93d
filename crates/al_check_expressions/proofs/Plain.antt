-- A text without `${{` has no chunks. If it isn't a condition, it has no faults.
use Rattle.std.proofs.Common.{◌≡◌, ℕ, suc, List, [], ◌∷◌, length, refl, ap, ◌∙◌, true, false, cond, ◌&&◌, not, Some, None, map}
use Rattle.std.proofs.lemmas.Bool.{or_parts}
use Rattle.std.specs.Prelude.{option_map}
use Rattle.al_expr_grammar.specs.Chunks.{before_opening, with_opening, chunks_within, chunks_of, no_chunks}
use Rattle.al_scalar.specs.Scalar.{text_of}
use Rattle.al_tree.specs.Faults.{has_chunk}
use Rattle.al_expr_names.specs.Scopes.{Scope}
use Rattle.al_check_places.specs.Places.{Place}
use Rattle.al_check_expressions.specs.Contents.{chunked_faults, content_faults, fault_in_file, place_faults}

no_opening : (bs : List ℕ) → has_chunk bs ≡ false → before_opening bs ≡ None
no_opening [] h = refl
no_opening (b ∷ bs) h = ap (λ t. cond t (Some 0) (option_map suc (before_opening bs))) (or_parts _ _ h).0
    ∙ ap (option_map suc) (no_opening bs (or_parts _ _ h).1)

without_chunks : (bs : List ℕ) → has_chunk bs ≡ false → chunks_of bs ≡ no_chunks None
without_chunks [] h = refl
without_chunks (b ∷ bs) h = ap (with_opening (chunks_within (length bs)) 0 (b ∷ bs)) (no_opening (b ∷ bs) h)

pub plain : (sc : Scope) (p : Place) → p.is_condition ≡ false → has_chunk (text_of p.word) ≡ false → place_faults sc p ≡ []
plain sc p none without =
    ap (λ t. cond (t && not (has_chunk (text_of p.word))) (map (fault_in_file p.word 0) (content_faults sc true p.is_scalar_only (text_of p.word)))
    (chunked_faults sc p.is_scalar_only p.word (chunks_of (text_of p.word)))) none
    ∙ ap (chunked_faults sc p.is_scalar_only p.word) (without_chunks (text_of p.word) without)
