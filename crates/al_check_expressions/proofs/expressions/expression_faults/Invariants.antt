use Rattle.std.proofs.Common.{◌≡◌, ◌++◌, drop, map}
use Rattle.std.specs.List.{flat_map}
use Rattle.al_check_contexts.specs.Answered.{known_of}
use Rattle.al_check_contexts.specs.Environments.{HasMoved, file_of}
use Rattle.al_check_places.specs.Places.{place_of}
use Rattle.al_yaml_tree.specs.View.{view}
use Rattle.al_check_expressions.specs.FileExpressions.{expression_faults_at}
use Rattle.al_check_expressions.proofs.expressions.expression_faults.Given as goal

abbrev pub invariant-loop-place : goal.invariant-loop-place
invariant-loop-place l =
    let file = file_of l.fn.env in
    let faults_at = expression_faults_at file.kind (known_of file.known) (view file.root.now) in
    record {
      moved : HasMoved l.env l.fn.env;
      all : l.faults ++ flat_map faults_at (map place_of (drop l.place-index l.place-items)) ≡ l.fn.faults ++ flat_map faults_at (map place_of l.place-items);
    }
