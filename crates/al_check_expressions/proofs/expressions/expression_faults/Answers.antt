use Rattle.std.proofs.Common.{◌≡◌, ◌<◌, ◌+◌, ◌++◌, ℕ, List, ap, sym, ◌∙◌, append_assoc, drop, get_or, length, map}
use Rattle.std.proofs.lemmas.List.Elements.{All-contains}
use Rattle.std.specs.List.{flat_map}
use Rattle.al_base.specs.declared.faults.Fault.{Fault}
use Rattle.al_yaml_tree.specs.View.{view}
use Rattle.al_tree.proofs.Lists.{left_next}
use Rattle.al_check_places.specs.Places.{Place, place_of, places_of}
use Rattle.al_check_contexts.specs.Answered.{known_of}
use Rattle.al_check_contexts.specs.Environments.{file_of}
use Rattle.al_check_contexts.proofs.Environments.{moved_and_grown, moved_further}
use Rattle.al_check_expressions.specs.FileExpressions.{expression_faults_at}
use Rattle.al_check_expressions.specs.Inside.{IsReadable}
use Rattle.al_check_expressions.proofs.Places.{all_readable}
use Rattle.al_check_expressions.proofs.expressions.expression_faults.Goals as goal

-- the faults of one more place
faults_next : {X : Type 0} (f : Place → List Fault) (g : X → Place) (xs : List X) (i : ℕ) (x : X) (old now : List Fault) → i < length xs → x ≡ get_or xs i x →
    now ≡ old ++ f (g x) → now ++ flat_map f (map g (drop (i + 1) xs)) ≡ old ++ flat_map f (map g (drop i xs))
faults_next f g xs i x old now lt e step =
    let rest : List Fault = flat_map f (map g (drop (i + 1) xs)) in
    ap (λ l. l ++ rest) step ∙ append_assoc old (f (g x)) rest ∙ ap (λ ys. old ++ flat_map f ys) (sym (left_next g xs i x lt e))

pub check_place-requires-clause-readable : goal.check_place-requires-clause-readable
check_place-requires-clause-readable c =
    All-contains (λ p. IsReadable (place_of p)) c.deref-place-items.result.now c.place-item.result
    (all_readable _ _ _ (ap (map place_of) c.deref-place-items.ensures.value ∙ c.in_ok-found.ensures ∙ ap (λ f. places_of f.kind (view f.root.now)) c.file-file.ensures)
    c.requires.laid c.requires.texts)
    (c.loop-place.place-index, c.loop-place-test.true, sym c.place-item.is)

pub loop-place-preserved : goal.loop-place-preserved
loop-place-preserved c =
    let was = c.loop-place.invariant in
    let made = c.in_ok-check_place.ensures in
    let moved = moved_and_grown c.go_to.new.self _ c.check_place.new.types c.in_ok-go_to.ensures.moved made.kept in
    let ok = rw c.in_ok-go_to.ensures.scope at made.ok in
    let file = file_of c.args.env.now in
    record {
      moved = moved_further _ _ _ was.moved moved;
      all = faults_next (expression_faults_at file.kind (known_of file.known) (view file.root.now)) place_of c.deref-place-items.result.now
          c.loop-place.place-index c.place-item.result _ _ c.loop-place-test.true c.place-item.is (rw was.moved.file at ok) ∙ was.all;
    }
