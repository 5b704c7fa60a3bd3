use Rattle.std.proofs.Common.{◌≡◌, take, map}
use Rattle.definitions.specs.Field.{total_by}
use Rattle.phase_state.specs.Sums.{nodes_of, share_at}
use Rattle.half_events.proofs.parts.total_at.Given as goal

abbrev pub invariant-loop-report : goal.invariant-loop-report
invariant-loop-report l = l.sum ≡ total_by (λ s. (nodes_of l.plan.side s l.prefix).d) (map (share_at l.plan.shares) (take l.report-index l.live))
