use Rattle.std.proofs.Common.{◌≡◌, take, map, vec_capacity}
use Rattle.definitions.specs.Field.{total_by}
use Rattle.phase_state.specs.Sums.{nodes_of, share_at}
use Rattle.phase_state.proofs.filling.fill_totals.Given as goal

abbrev pub invariant-loop-prefix : goal.invariant-loop-prefix
invariant-loop-prefix l = record {
  room : vec_capacity l.totals ≡ vec_capacity l.fn.totals;
  made : l.totals.items ≡ map (λ q. total_by (λ s. (nodes_of l.plan.side s q).d) (map (share_at l.plan.shares) l.live)) (take l.prefix-index l.candidates);
}
