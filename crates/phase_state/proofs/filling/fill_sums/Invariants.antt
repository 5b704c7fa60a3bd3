use Rattle.std.proofs.Common.{◌≡◌, take, map, length, vec_capacity}
use Rattle.definitions.specs.Sketch.{partial_sums_from}
use Rattle.phase_state.specs.Sums.{coins_of, nodes_of, share_at}
use Rattle.phase_state.proofs.filling.fill_sums.Given as goal

abbrev pub invariant-loop-place : goal.invariant-loop-place
invariant-loop-place l = record {
  drawn : length l.drawn ≡ length l.fn.drawn;
  room : vec_capacity l.sums ≡ vec_capacity l.fn.sums;
  made : l.sums.items ≡ map (λ s. partial_sums_from (coins_of l.plan.verify l.plan.level s) l.first
      (map (λ q. (nodes_of l.plan.side s q).d) l.candidates) (map (λ q. (nodes_of l.plan.side s q).e) l.candidates))
      (map (share_at l.plan.shares) (take l.place-index l.live));
}
