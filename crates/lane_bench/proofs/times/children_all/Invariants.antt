use Rattle.std.proofs.Common.{◌≡◌, ◌≤◌, length}
use Rattle.lane_bench.proofs.times.children_all.Given as goal

abbrev pub invariant-loop-share : goal.invariant-loop-share
invariant-loop-share l = record {
  parents : length l.parents ≡ length l.fronts;
  same : length l.into ≡ length l.prefixes;
  room : length l.prefixes ≤ l.buffers;
  less : length l.fronts ≤ l.buffers;
}
