use Rattle.std.proofs.Common.{◌≡◌}
use Rattle.turn_lock.proofs.Gathering.{Gathers}
use Rattle.turn_lock.proofs.steps.gather.Given as goal

abbrev pub invariant-loop-pass : goal.invariant-loop-pass
invariant-loop-pass g l = (l.keeper.table_id ≡ l.shared.table_id) × Gathers l.shared.table_id l.passes.items l.fn.passes.items l.keeper.me

abbrev pub decreases-loop-pass : goal.decreases-loop-pass
decreases-loop-pass g l = goal.left-loop-pass g l
