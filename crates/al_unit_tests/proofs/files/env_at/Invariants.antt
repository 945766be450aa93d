use Rattle.al_check_contexts.specs.Environments.{IsAtPosition}
use Rattle.al_unit_tests.proofs.files.env_at.Given as goal

abbrev pub invariant-loop-place : goal.invariant-loop-place
invariant-loop-place l = IsAtPosition l.env
