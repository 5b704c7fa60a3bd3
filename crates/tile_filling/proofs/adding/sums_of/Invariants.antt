use Rattle.std.proofs.Common.{◌≡◌, take}
use Rattle.std.specs.Prelude.{map}
use Rattle.definitions.specs.Sketch.{coin_at, weighted, squared}
use Rattle.tile_filling.proofs.adding.sums_of.Given as goal

abbrev pub invariant-loop-place : goal.invariant-loop-place
invariant-loop-place l =
    let r = coin_at l.key l.level in
    let seen = take l.place l.nodes in
    record {
      x : l.sums.x ≡ weighted r l.first (map (λ n. n.d) seen);
      y : l.sums.y ≡ weighted (squared r) l.first (map (λ n. n.d) seen);
      z : l.sums.z ≡ weighted r l.first (map (λ n. n.e) seen);
    }
