use Rattle.std.proofs.Common.{◌≡◌, take, map}
use Rattle.definitions.specs.Field.{total_by}
use Rattle.phase_state.specs.Sums.{nodes_of, share_at}
use Rattle.half_events.proofs.parts.totals_part.Given as goal

abbrev pub invariant-loop-prefix : goal.invariant-loop-prefix
invariant-loop-prefix l =
    l.totals.items ≡ map (λ q. total_by (λ s. (nodes_of l.plan.side s q).d) (map (share_at l.plan.shares) l.live)) (take l.prefix-index l.candidates)
