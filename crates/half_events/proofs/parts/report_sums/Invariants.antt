use Rattle.std.proofs.Common.{◌≡◌, take}
use Rattle.std.specs.Prelude.{map}
use Rattle.definitions.specs.Sketch.{weighted, squared}
use Rattle.phase_state.specs.Sums.{coins_of, nodes_of, share_at}
use Rattle.half_events.proofs.parts.report_sums.Given as goal

abbrev pub invariant-loop-place : goal.invariant-loop-place
invariant-loop-place l =
    let share = share_at l.plan.shares l.report in
    let r = coins_of l.plan.verify l.plan.level share in
    let seen = take l.place l.candidates in
    record {
      x : l.sums.x ≡ weighted r l.first (map (λ q. (nodes_of l.plan.side share q).d) seen);
      y : l.sums.y ≡ weighted (squared r) l.first (map (λ q. (nodes_of l.plan.side share q).d) seen);
      z : l.sums.z ≡ weighted r l.first (map (λ q. (nodes_of l.plan.side share q).e) seen);
    }
