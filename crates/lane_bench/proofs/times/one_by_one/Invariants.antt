use Rattle.std.proofs.Common.{◌≡◌, length}
use Rattle.lane_bench.proofs.times.one_by_one.Given as goal

abbrev pub invariant-loop-k : goal.invariant-loop-k
invariant-loop-k l = record { same : length l.into ≡ length l.prefixes }
