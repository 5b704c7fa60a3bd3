use Rattle.std.proofs.Common.{◌≡◌, ◌%◌, ◌^◌, ℕ, []}
use Rattle.turn_lock.specs.Seats.{waiting}
use Rattle.turn_lock.proofs.steps.wait_for_turn.Given as goal

abbrev pub invariant-loop : goal.invariant-loop
invariant-loop g l =
    ((goal.iterator-loop g).can_next l.iterator' × (goal.iterator-loop g).is_finite l.iterator')
    × (l.seat.table_id ≡ l.shared.table_id)
    × ((t : ℕ) × (t % 2 ^ 64 ≡ l.ticket) × (l.seat.me ≡ (waiting l.fn.seat.me.0.made l.fn.seat.me.0.mine t, [])))
