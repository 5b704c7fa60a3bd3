use Rattle.std.proofs.Common.{◌≡◌}
use Rattle.report_intake.proofs.tests.uploads_of.Given as goal

abbrev pub invariant-loop-id : goal.invariant-loop-id
invariant-loop-id g l = (l.first.lock ≡ l.intake-inside.turn.lock) × (l.second.lock ≡ l.intake-inside.turn.lock)
