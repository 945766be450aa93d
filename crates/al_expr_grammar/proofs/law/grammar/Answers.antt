use Rattle.std.proofs.Common.{◌≡◌, ◌≢◌, ℕ, List, [], ◌∷◌, ◌++◌, length, refl, sym, ap, ◌∙◌, subst, suc}
use Rattle.al_expr_grammar.specs.Lexeme.{Lexeme, kinds, kind_of}
use Rattle.al_expr_grammar.specs.Table.{Verdict, Fine, Early, Unexpected, E, verdict_of}
use Rattle.al_expr_grammar.proofs.Shape.{Agrees, shape, scan_shape, derives_shape, same_fault}
use Rattle.al_expr_grammar.proofs.Built.{builds_tree}
use Rattle.al_expr_grammar.proofs.Rules.{same_length}
use Rattle.al_expr_grammar.proofs.Spelled.{found, only_spelled, spelled}
use Rattle.al_expr_grammar.proofs.law.grammar.Goals as goal

fine_enough : (v : Verdict) → Agrees v Fine → (v ≢ Early) × ((n : ℕ) → v ≢ Unexpected n)
fine_enough Fine h = ((λ e. cc), (λ n e. cc))
fine_enough Early h = absurd cc
fine_enough (Unexpected n) h = absurd cc
fine_enough _ h = ((λ e. cc), (λ n e. cc))

agreed : (v : Verdict) (w : Verdict) (n : ℕ) → Agrees v w → v ≡ Unexpected n → w ≡ Unexpected n
agreed (Unexpected k) w n h e = sym h ∙ e
agreed Fine w n h e = absurd cc
agreed Early w n h e = absurd cc
agreed _ w n h e = absurd cc

split_kinds : (front back : List Lexeme) (x : Lexeme) → kinds (front ++ x ∷ back) ≡ kinds front ++ kind_of x ∷ kinds back
split_kinds [] back x = refl
split_kinds (y ∷ front) back x = ap (λ ks. kind_of y ∷ ks) (split_kinds front back x)

pub returns : goal.returns
returns c = record {
  refused = λ ts t d. fine_enough (verdict_of (kinds ts)) (subst (λ w. Agrees (verdict_of (kinds ts)) w) (derives_shape d tt []) (scan_shape E 0 [] (kinds ts)));
  nothing = λ front back other x t h d.
      let e = split_kinds front back x in
      let f = split_kinds front other x in
      let n = sym (same_length back) in
      let v = agreed _ _ _ (scan_shape E 0 [] (kinds (front ++ x ∷ back))) h in
      let w : shape E [] (kinds front ++ kind_of x ∷ kinds back) ≡ Unexpected (suc (length (kinds back))) = ap (shape E []) (sym e) ∙ v ∙ ap (λ m. Unexpected (suc m)) n in
      let a = same_fault (kinds front) (kinds back) (kinds other) (kind_of x) E [] w in
      let b = ap (shape E []) (sym f) ∙ derives_shape d tt [] in
      cc;
  one = λ ts t u d d'. sym (builds_tree ts t d) ∙ builds_tree ts u d';
  some = found;
  tree = λ content t none. (only_spelled content t none, spelled content t);
}
