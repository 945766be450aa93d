-- A type with the faults found so far, step by step.
use Rattle.std.proofs.Common.{◌≡◌, List, [], ◌++◌, sym, ap, ◌∙◌, append_assoc, append-nil}
use Rattle.al_base.specs.declared.faults.Fault.{Fault}
use Rattle.al_types.specs.Types.{Type'}
use Rattle.al_expr_typing.specs.Meaning.{Typed, typed, faults_then, and_then}

pub unchanged : (t : Type') (old : List Fault) → typed t old ≡ faults_then old (typed t [])
unchanged t old = ap (typed t) (sym (append-nil old))

pub after-after : (fs gs : List Fault) (x : Typed) → faults_then (fs ++ gs) x ≡ faults_then fs (faults_then gs x)
after-after fs gs (typed t hs) = ap (typed t) (append_assoc fs gs hs)

pub after-and_then : (fs : List Fault) (x : Typed) (go : Type' → Typed) → and_then (faults_then fs x) go ≡ faults_then fs (and_then x go)
after-and_then fs (typed t gs) go = after-after fs gs (go t)

-- Continuing from a type and the faults so far is continuing from the whole typing.
pub follows : (old mid : List Fault) (t : Type') (x : Typed) (go : Type' → Typed) → typed t mid ≡ faults_then old x → faults_then mid (go t) ≡ faults_then old (and_then x go)
follows old mid t x go e = ap (λ y. and_then y go) e ∙ after-and_then old x go

pub ruleset typing = (unchanged)
