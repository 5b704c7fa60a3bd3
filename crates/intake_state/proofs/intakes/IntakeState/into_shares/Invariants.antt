use Rattle.std.proofs.Common.{◌≡◌, map}
use Rattle.intake_state.proofs.intakes.IntakeState.into_shares.Given as goal

abbrev pub invariant-loop-entry : goal.invariant-loop-entry
invariant-loop-entry l = l.shares.items ≡ map (λ e. e.share) l.yielded
