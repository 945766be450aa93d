-- The answers of a file's calls depend only on the caller and the text of `uses`, since these determine what is called.
use Rattle.std.proofs.Common.{◌≡◌, ◌∙◌, ℕ, List, [], ◌∷◌, Option, Some, None, ap, drop, map, option_map, refl, subst, sym}
use Rattle.std.specs.Prelude.{codes, option_and_then, slice_index_or}
use Rattle.std.specs.List.{AllByRecursion, cons_option, filter_map}
use Rattle.std.specs.Option.{option_map_or}
use Rattle.al_base.specs.declared.codes.Caller.{Caller}
use Rattle.al_lint.specs.Meaning.{AreAnswers}
use Rattle.al_lint.specs.declared.lint.Target.{Target}
use Rattle.al_scalar.specs.Scalar.{Scalar}
use Rattle.al_yaml_tree.specs.Node.{Node}
use Rattle.al_tree.specs.Values.{text_at_key}
use Rattle.al_tree.specs.declared.files.FileKind.{FileKind}
use Rattle.al_check_interfaces.specs.declared.interfaces.Interface.{Interface}
use Rattle.al_check_interfaces.specs.Forms.{form_by}
use Rattle.al_check_interfaces.specs.Uses.{Call, Site, call_at, call_by, calls_in, sites_in, target_in, targets_of, site_caller}
use Rattle.al_check_calls.specs.Answers.{Answered, answered_by, calls_with_answers}
use Rattle.al_check_calls.specs.Preconditions.{AreToldByUses}

-- ---- what is called

abbrev IsFormed : Call → Type 0
IsFormed c = c.form ≡ form_by (site_caller c.site) c.text

put_formed : (s : Site) (o : Option Scalar) (cs : List Call) → AllByRecursion IsFormed cs → AllByRecursion IsFormed (cons_option (option_map (call_by s) o) cs)
put_formed s None cs h = h
put_formed s (Some t) cs h = (refl, h)

sites_formed : (sites : List Site) → AllByRecursion IsFormed (filter_map call_at sites)
sites_formed [] = tt
sites_formed (s ∷ sites) = put_formed s (text_at_key (codes "uses") s.node) (filter_map call_at sites) (sites_formed sites)

-- ---- the answers

module _ (answer : Target → Option Interface) where
  abbrev answer_by : Caller → List ℕ → Option Interface
  answer_by by text = option_and_then answer (target_in (form_by by text))

  abbrev IsTold : Answered → Type 0
  IsTold a = a.answer ≡ answer_by (site_caller a.call.site) a.call.text

  -- the first answer is that of the first call, the others are those of the other calls
  put_told : (c : Call) (o : Option Target) (rest : List Target) (more : List (Option Interface) → List Answered) → target_in c.form ≡ o → IsFormed c →
      AllByRecursion IsTold (more (map answer rest)) →
      AllByRecursion IsTold (cons_option (option_map (λ t. answered_by c (slice_index_or (map answer (cons_option o rest)) 0 None)) o)
      (more (option_map_or (λ t. drop 1 (map answer (cons_option o rest))) o (map answer (cons_option o rest)))))
  put_told c None rest more is formed h = h
  put_told c (Some t) rest more is formed h = (ap (option_and_then answer) (sym is) ∙ ap (λ f. option_and_then answer (target_in f)) formed, h)

  all_told : (cs : List Call) → AllByRecursion IsFormed cs → AllByRecursion IsTold (calls_with_answers cs (map answer (targets_of cs)))
  all_told [] formed = tt
  all_told (c ∷ cs) formed = put_told c (target_in c.form) (targets_of cs) (calls_with_answers cs) refl formed.0 (all_told cs formed.1)

pub told_by_uses : (k : FileKind) (root : Node) (given : List (Option Interface)) → AreAnswers (targets_of (calls_in k root)) given → AreToldByUses (calls_with_answers (calls_in k root) given)
told_by_uses k root given answers = record {
  answer = answer_by answers.answer;
  told =
      subst (λ list. AllByRecursion (IsTold answers.answer) (calls_with_answers (calls_in k root) list)) (sym answers.are)
      (all_told answers.answer (calls_in k root) (sites_formed (sites_in k root)));
}
