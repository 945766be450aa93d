-- The calls of a file are within the file.
use Rattle.std.specs.Prelude.{ℕ, List}
use Rattle.std.specs.List.{AllByRecursion, flat_map}
use Rattle.al_base.proofs.Elements.{each_of}
use Rattle.al_base.specs.Spans.{LiesIn}
use Rattle.al_base.specs.declared.faults.Fault.{Fault}
use Rattle.al_scalar.specs.Scalar.{Scalar}
use Rattle.al_yaml_tree.specs.Spans.{IsInside, LiesAround}
use Rattle.al_tree.proofs.Kept.{AreKept, each_kept}
use Rattle.al_check_interfaces.specs.Laws.{CallsLie}
use Rattle.al_check_interfaces.specs.Uses.{Call, wrong_by, wrong_uses}
use Rattle.al_check_interfaces.specs.declared.forms.Form.{Form}
use Rattle.al_check_interfaces.specs.declared.forms.Form.TheVariants.{Local, Other, Wrong}
use Rattle.al_check_interfaces.proofs.Parts.{calls_kept}

abbrev pub AtLies : ℕ → Scalar → Type 0
AtLies size s = LiesIn size s.span

pub inside_kept : (size : ℕ) → AreKept (IsInside size) (AtLies size)
inside_kept size = each_kept (AtLies size) (LiesAround size) (AtLies size) (λ X at h. h.1) (λ s h. h)

pub calls_lie : CallsLie
calls_lie size kind root i = calls_kept (inside_kept size) (LiesIn size) (λ t p. p) kind root i

-- a fault of a `uses` that names nothing is at this `uses`

wrong_lies : (size : ℕ) (f : Form) (c : Call) → LiesIn size c.at → AllByRecursion (λ (x : Fault). LiesIn size x.span) (wrong_by f c)
wrong_lies size Wrong c at = (at, tt)
wrong_lies size Other c at = tt
wrong_lies size (Local t) c at = tt

pub wrong_uses_lie : (size : ℕ) (cs : List Call) → AllByRecursion (λ (c : Call). LiesIn size c.at × IsInside size c.site.node) cs →
    AllByRecursion (λ (f : Fault). LiesIn size f.span) (flat_map wrong_uses cs)
wrong_uses_lie size cs h =
    each_of (λ (c : Call). LiesIn size c.at × IsInside size c.site.node) (λ (f : Fault). LiesIn size f.span) wrong_uses (λ c p. wrong_lies size c.form c p.0) cs h
