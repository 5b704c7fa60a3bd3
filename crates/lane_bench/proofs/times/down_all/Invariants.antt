use Rattle.std.proofs.Common.{◌≡◌, ◌≤◌, length}
use Rattle.lane_bench.proofs.times.down_all.Given as goal

abbrev pub invariant-loop-share : goal.invariant-loop-share
invariant-loop-share l = record { same : length l.into ≡ length l.prefixes; room : length l.prefixes ≤ l.buffers }
