use Rattle.std.proofs.Common.{◌≡◌, ◌≤◌, vec_capacity}
use Rattle.turn_lock.proofs.Dealing.{Deals}
use Rattle.turn_lock.proofs.lock.Turn.new.Given as goal

abbrev pub invariant-loop-number : goal.invariant-loop-number
invariant-loop-number g l = Deals l.turn.lock l.number l.made.items l.keeper.me × (l.keeper.table_id ≡ l.turn.lock.table) × (l.passes ≤ vec_capacity l.made)
