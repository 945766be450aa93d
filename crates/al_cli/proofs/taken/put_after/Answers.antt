use Rattle.std.proofs.Common.{◌≡◌, ◌≤◌, ◌<◌, ◌+◌, ◌∙◌, ℕ, Bool, true, false, not, if◌then◌else◌, List, [], ◌∷◌, ◌++◌, Result, Ok, Err, OnOk, ap, arith}
use Rattle.std.specs.Prelude.{is_ok}
use Rattle.std.proofs.lemmas.Result.{err_from_is_err_and}
use Rattle.al_session.specs.Folder.{Folder}
use Rattle.al_cli.specs.Private.Kept.{entries_in}
use Rattle.al_cli.proofs.Keeping.{kept_more}
use Rattle.al_cli.proofs.taken.put_after.Goals as goal

-- a push succeeds if there is room, and appends the element
pushed : {T E A : Type 0} (r : Result T E) (fails pushes : Bool) (len room : ℕ) (old between new : List A) (x : A) → fails ≡ false → is_ok r ≡ not fails
    → OnOk r (len + 1 ≤ room) → (len < room → pushes ≡ true) → between ≡ old
    → new ≡ (if pushes then between ++ x ∷ [] else between) → new ≡ old ++ x ∷ []
pushed {T} {E} {A} (Ok u) fails pushes len room old between new x well is fits succeeds same items =
    let done : pushes ≡ true = succeeds (omega (arith, fits)) in
    items ∙ ap (λ (b : Bool). if b then between ++ x ∷ [] else between) done ∙ ap (λ (l : List A). l ++ x ∷ []) same
pushed {T} {E} {A} (Err e) fails pushes len room old between new x well is fits succeeds same items = let gone : false ≡ true = is ∙ ap not well in absurd cc

pub returns-then-is_err-clause-kept : goal.returns-then-is_err-clause-kept
returns-then-is_err-clause-kept c = rw c.reserve.ensures.items c.requires.kept

pub returns-then-is_err-clause-as_before : goal.returns-then-is_err-clause-as_before
returns-then-is_err-clause-as_before c = ap (entries_in c.args.files.now.folder) c.reserve.ensures.items

pub returns-in_err-put-clause-kept : goal.returns-in_err-put-clause-kept
returns-in_err-put-clause-kept c = rw (c.in_err-put.ensures.as_before, c.put.ensures.meter, c.reserve.ensures.items) c.requires.kept

pub returns-in_err-put-clause-put : goal.returns-in_err-put-clause-put
returns-in_err-put-clause-put c =
    let p = err_from_is_err_and c.from_residual.result c.from_residual.ensures.1 in
    rw p.1 tt

pub returns-in_err-put-clause-as_before : goal.returns-in_err-put-clause-as_before
returns-in_err-put-clause-as_before c =
    let p = err_from_is_err_and c.from_residual.result c.from_residual.ensures.1 in
    rw p.1 (ap (λ (f : Folder). entries_in f c.reserve.new.self.items) c.in_err-put.ensures.as_before
    ∙ ap (entries_in c.args.files.now.folder) c.reserve.ensures.items)

pub returns : goal.returns
returns c =
    let more = pushed c.reserve.result c.is_err.result (is_ok c.push.result) _ _ c.args.order.now.items c.reserve.new.self.items c.push.new.self.items c.args.path
    c.if-is_err.false c.is_err.ensures.negation c.reserve.ensures.ok c.push.ensures.succeeds c.reserve.ensures.items c.push.ensures.items in
    let put = kept_more c.args.files.now.folder c.put.new.self.folder c.args.path c.as_str.result.now c.args.bytes.items c.args.files.now.checks c.put.new.self.checks
    c.args.order.now.items c.push.new.self.items c.requires.kept c.requires.new c.as_str.ensures.text c.in_ok-put.ensures.accepted c.in_ok-put.ensures.folder
    c.put.ensures.meter more in
    record { kept = put.0; put = put.1; as_before = tt }
