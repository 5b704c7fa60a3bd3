use Rattle.std.proofs.Common.{◌≡◌, ℕ, ◌<◌, length, slice_index}
use Rattle.idpf_lanes.proofs.way_down.stand_first.Given as goal

abbrev pub invariant-loop-k : goal.invariant-loop-k
invariant-loop-k l = record {
  same : length l.places ≡ length l.initial.places;
  first : (j : ℕ) → j < l.k → slice_index l.places j ≡ 0;
}
