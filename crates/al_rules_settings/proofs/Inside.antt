-- Nodes and texts that lie in a file, and faults that name them.
use Rattle.std.specs.Prelude.{ℕ, Bool, List, [], ◌∷◌, ◌++◌}
use Rattle.std.proofs.Common.{cond}
use Rattle.std.specs.List.{AllByRecursion}
use Rattle.al_base.proofs.Elements.{each_both, each_either}
use Rattle.al_base.specs.Spans.{LiesIn}
use Rattle.al_base.specs.declared.codes.RuleCode.{RuleCode}
use Rattle.al_base.specs.declared.faults.Fault.{Fault}
use Rattle.al_base.specs.declared.faults.Span.{Span}
use Rattle.al_scalar.specs.Offsets.{IsPlaced}
use Rattle.al_scalar.specs.Scalar.{Scalar}
use Rattle.al_yaml_tree.proofs.LaidLemmas.{Laid, laid-span}
use Rattle.al_yaml_tree.specs.Node.{Node, span_of}
use Rattle.al_yaml_tree.specs.Spans.{IsLaid, LiesAround}
use Rattle.al_tree.proofs.Kept.{AreKept, each_kept}
use Rattle.al_rules_settings.specs.Words.{Named, about, rule_fault, unless}

abbrev pub Lies : ℕ → Fault → Type 0
Lies size f = LiesIn size f.span

-- ---- nodes, texts and entries that lie in the file

-- a node that lies in the file with what is in it
abbrev pub Fine : ℕ → Node → Type 0
Fine size n = IsLaid size n

-- a scalar that does
pub record Text (size : ℕ) (s : Scalar) : Type 0 where
  pub place : LiesIn size s.span
  pub placed : IsPlaced 1048576 s

pub laid : (size : ℕ) → AreKept (Fine size) (Text size)
laid size = each_kept (Laid 1048576 size) (LiesAround size) (Text size) (λ X at h. h.1) (λ s h. record { place = h.0; placed = h.1 })

module _ (size : ℕ) where
  abbrev pub NameLies : Named → Type 0
  NameLies n = LiesIn size n.span

  pub span_lies : (n : Node) → Fine size n → LiesIn size (span_of n)
  span_lies n f = laid-span 1048576 size n f

  -- ---- faults that name a text

  pub one_lies : (rule : RuleCode) (at : Span) (texts : List (List ℕ)) → LiesIn size at → AllByRecursion (Lies size) (rule_fault rule at texts ∷ [])
  one_lies rule at texts p = (p, tt)

  pub about_lies : (rule : RuleCode) (n : Named) → NameLies n → AllByRecursion (Lies size) (about rule n)
  about_lies rule n p = (p, tt)

  pub unless_lies : (right : Bool) (rule : RuleCode) (n : Named) → NameLies n → AllByRecursion (Lies size) (unless right rule n)
  unless_lies right rule n p = each_either (Lies size) right [] (about rule n) tt (about_lies rule n p)

  pub or_lies : (b : Bool) (xs ys : List Fault) → AllByRecursion (Lies size) xs → AllByRecursion (Lies size) ys → AllByRecursion (Lies size) (cond b xs ys)
  or_lies b xs ys p q = each_either (Lies size) b xs ys p q

  -- ---- faults one after another

  abbrev pub Are : List Fault → Type 0
  Are = AllByRecursion (Lies size)

  pub both : (xs ys : List Fault) → Are xs → Are ys → Are (xs ++ ys)
  both xs ys p q = each_both (Lies size) xs ys p q
