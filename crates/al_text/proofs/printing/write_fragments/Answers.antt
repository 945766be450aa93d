use Rattle.std.proofs.Common.{rules}
use Rattle.al_base.proofs.Writing.{fails_in_part}
use Rattle.al_text.specs.Private.Fragments.{fragment_bytes}
use Rattle.al_text.proofs.printing.write_fragments.Goals as goal

pub returns-in_err-write_fragment : goal.returns-in_err-write_fragment
returns-in_err-write_fragment g c =
    fails_in_part _ _ _ _ fragment_bytes c.args.fragments.now c.loop-fragment.fragment-index _ (search rules) c.loop-fragment.invariant.appended
    c.loop-fragment.invariant.unfailed _ _ c.from_residual.ensures.1 c.in_err-write_fragment.ensures
