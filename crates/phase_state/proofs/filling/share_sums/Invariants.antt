use Rattle.std.proofs.Common.{◌≡◌, take}
use Rattle.std.specs.Prelude.{map}
use Rattle.definitions.specs.Sketch.{weighted, squared}
use Rattle.phase_state.specs.Sums.{coins_of, nodes_of}
use Rattle.phase_state.proofs.filling.share_sums.Given as goal

abbrev pub invariant-loop-place : goal.invariant-loop-place
invariant-loop-place l =
    let r = coins_of l.plan.verify l.plan.level l.share in
    let seen = take l.place l.candidates in
    record {
      x : l.sums.x ≡ weighted r l.first (map (λ q. (nodes_of l.plan.side l.share q).d) seen);
      y : l.sums.y ≡ weighted (squared r) l.first (map (λ q. (nodes_of l.plan.side l.share q).d) seen);
      z : l.sums.z ≡ weighted r l.first (map (λ q. (nodes_of l.plan.side l.share q).e) seen);
    }
