use Rattle.std.proofs.Common.{◌≡◌, take, map}
use Rattle.definitions.specs.Field.{total_by}
use Rattle.phase_state.specs.Sums.{nodes_of, share_at}
use Rattle.phase_state.proofs.filling.total_at.Given as goal

abbrev pub invariant-loop-place : goal.invariant-loop-place
invariant-loop-place l = l.sum ≡ total_by (λ s. (nodes_of l.plan.side s l.prefix).d) (map (share_at l.plan.shares) (take l.place-index l.live))
