use Rattle.al_tree.specs.Kinds.{file_kind}
use Rattle.al_check.proofs.lint.ActionsLint.read.Goals as goal

pub returns-then-len-le-KEPT_FAULTS-clause-unit : goal.returns-then-len-le-KEPT_FAULTS-clause-unit
returns-then-len-le-KEPT_FAULTS-clause-unit c = rw (c.file_kind-kind.ensures, c.as_bytes.ensures.value) at c.in_ok-checked.ensures

pub returns-clause-unit : goal.returns-clause-unit
returns-clause-unit c =
    c.in_ok-brief_of.ensures (file_kind c.args.path.now) c.args.bytes.now (rw (c.file_kind-kind.ensures, c.as_bytes.ensures.value) at c.in_ok-file.ensures)
