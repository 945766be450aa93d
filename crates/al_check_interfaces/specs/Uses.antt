-- The calls of a file: the steps and jobs that call, what the text of their `uses` names, and which
-- name a file in the folder.
use Rattle.std.specs.Prelude.{ℕ, List, [], ◌∷◌, codes, map, Option, Some, None, is_some, option_map}
use Rattle.std.specs.Prelude.{if◌then◌else◌}
use Rattle.std.specs.List.{flat_map, filter_map, enumerate_from}
use Rattle.std.specs.Str.Lossy.{utf8_lossy}
use Rattle.al_base.specs.declared.codes.CallCode.{CallCode}
use Rattle.al_base.specs.declared.codes.CallCode.TheVariants as code
use Rattle.al_base.specs.declared.codes.Caller.{Caller}
use Rattle.al_base.specs.declared.codes.Caller.TheVariants as caller
use Rattle.al_base.specs.declared.codes.Code.TheVariants as kind_of_code
use Rattle.al_base.specs.declared.faults.Fault.{Fault}
use Rattle.al_base.specs.declared.faults.Span.{Span}
use Rattle.al_scalar.specs.Scalar.{Scalar, text_of}
use Rattle.al_yaml_tree.specs.Node.{Node}
use Rattle.al_lint.specs.declared.lint.Target.{Target}
use Rattle.al_tree.specs.Keys.{key_of}
use Rattle.al_tree.specs.Values.{items_at, text_at_key}
use Rattle.al_tree.specs.Files.{jobs_of}
use Rattle.al_tree.specs.declared.files.FileKind.{FileKind}
use Rattle.al_tree.specs.declared.files.FileKind.TheVariants as kind
use Rattle.al_tree.specs.Declarations.{action_steps, is_composite}
use Rattle.al_check_interfaces.specs.Forms.{form_by}
use Rattle.al_check_interfaces.specs.declared.forms.Form.{Form}
use Rattle.al_check_interfaces.specs.declared.forms.Form.TheVariants.{Local, Wrong}

-- a job, by the text of its key, or a step, by its index and its job, which an action doesn't have
pub record Site : Type 0 where
  pub job : Option (List ℕ)
  pub step : Option ℕ
  pub node : Node

abbrev pub site_caller : Site → Caller
site_caller s = if is_some s.step then caller.Step else caller.Job

abbrev pub step_sites : Option (List ℕ) → List Node → List Site
step_sites job steps =
    map (λ s. record { job = job; step = Some s.0; node = s.1 }) (enumerate_from 0 steps)

abbrev pub job_sites : Scalar × Node → List Site
job_sites j =
    record { job = Some (key_of j); step = None; node = j.1 }
    ∷ step_sites (Some (key_of j)) (items_at (codes "steps") j.1)

-- the jobs of a workflow, each before its steps, or the steps of a composite action
abbrev pub sites_in : FileKind → Node → List Site
sites_in kind.Workflow root = flat_map job_sites (jobs_of root)
sites_in kind.Action root = if is_composite root then step_sites None (action_steps root) else []

-- a call: who calls, the text of `uses` with its span, and what the text names
pub record Call : Type 0 where
  pub site : Site
  pub at : Span
  pub text : List ℕ
  pub form : Form

abbrev pub call_by : Site → Scalar → Call
call_by s uses =
    record {
      site = s;
      at = uses.span;
      text = text_of uses;
      form = form_by (site_caller s) (text_of uses);
    }

abbrev pub call_at : Site → Option Call
call_at s = option_map (call_by s) (text_at_key (codes "uses") s.node)

abbrev pub calls_in : FileKind → Node → List Call
calls_in kind root = filter_map call_at (sites_in kind root)

-- a fault at `uses` that names its text
abbrev pub that_uses : CallCode → Call → Fault
that_uses f c =
    record {
      span = c.at;
      code = kind_of_code.Call f (site_caller c.site);
      args = utf8_lossy c.text ∷ [];
    }

-- C7
abbrev pub wrong_by : Form → Call → List Fault
wrong_by Wrong c = that_uses code.WrongUses c ∷ []
wrong_by form c = []

abbrev pub wrong_uses : Call → List Fault
wrong_uses c = wrong_by c.form c

abbrev pub target_in : Form → Option Target
target_in (Local t) = Some t
target_in form = None

-- the targets of the calls of files in the folder, in order
abbrev pub targets_of : List Call → List Target
targets_of = filter_map (λ c. target_in c.form)

-- C9 of each such call, to be reported if the call is on a call cycle
abbrev pub cycle_faults : List Call → List Fault
cycle_faults = filter_map (λ c. option_map (λ t. that_uses code.CallCycle c) (target_in c.form))
