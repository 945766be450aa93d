use Rattle.std.proofs.Common.{◌≡◌, ◌++◌, ◌∷◌, [], append_assoc, subst, sym}
use Rattle.std.specs.Fmt.{decimal}
use Rattle.al_base.specs.Streams.{WritesOrFails}
use Rattle.al_base.proofs.Writing.{after, fails_early}
use Rattle.al_cli_scripts.proofs.run.write_number.Goals as goal

pub returns-in_err-write_all : goal.returns-in_err-write_all
returns-in_err-write_all g c =
    let parts = sym (append_assoc c.args.word.now (decimal c.args.number) (10 ∷ [])) in
    subst (WritesOrFails _ _ _ _) parts
    (fails_early _ _ _ _ _ c.args.word.now (decimal c.args.number ++ 10 ∷ []) c.from_residual.ensures.1 c.in_err-write_all.ensures)

pub returns-in_err-write_all-2 : goal.returns-in_err-write_all-2
returns-in_err-write_all-2 g c =
    let e : c.as_bytes.result.now ≡ decimal c.args.number = cc in
    let parts = sym (append_assoc c.args.word.now (decimal c.args.number) (10 ∷ [])) in
    subst (WritesOrFails _ _ _ _) parts
    (after _ _ _ _ _ c.args.word.now (decimal c.args.number ++ 10 ∷ []) c.in_ok-write_all.ensures.all c.in_ok-write_all.ensures.failures
    (fails_early _ _ _ _ _ (decimal c.args.number) (10 ∷ []) c.from_residual-in_err-write_all-2.ensures.1 (rw e at c.in_err-write_all-2.ensures)))

pub returns : goal.returns
returns g c =
    let e : c.as_bytes.result.now ≡ decimal c.args.number = cc in
    let parts = sym (append_assoc c.args.word.now (decimal c.args.number) (10 ∷ [])) in
    subst (WritesOrFails _ _ _ _) parts
    (after _ _ _ _ _ c.args.word.now (decimal c.args.number ++ 10 ∷ []) c.in_ok-write_all.ensures.all c.in_ok-write_all.ensures.failures
    (after _ _ _ _ _ (decimal c.args.number) (10 ∷ []) (rw e at c.in_ok-write_all-2.ensures.all) c.in_ok-write_all-2.ensures.failures c.write_all-3.ensures))
