use Rattle.std.proofs.Common.{◌≡◌}
use Rattle.lock_tests.proofs.tests.turns.visit_often.Given as goal

abbrev pub invariant-loop-step : goal.invariant-loop-step
invariant-loop-step g l = (l.pass.lock ≡ l.turn.lock) × (l.turn ≡ l.fn.job.turn.now)
