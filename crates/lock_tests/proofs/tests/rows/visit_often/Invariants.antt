use Rattle.std.proofs.Common.{◌≡◌}
use Rattle.lock_row.specs.Rows.{locks_of}
use Rattle.lock_tests.proofs.tests.rows.visit_often.Given as goal

abbrev pub invariant-loop-step : goal.invariant-loop-step
invariant-loop-step g l = locks_of l.pass ≡ l.row.locks
