use Rattle.std.proofs.Common.{◌≡◌, ◌++◌, length, take, drop}
use Rattle.definitions.specs.Sketch.{sums_added}
use Rattle.walk_definitions.specs.Heard.{paired}
use Rattle.phase_state.proofs.adding.add_sums.Given as goal

abbrev pub invariant-loop-place : goal.invariant-loop-place
invariant-loop-place l = record {
  same : length l.into ≡ length l.fn.into;
  added : take l.place l.into ++ paired sums_added (drop l.place l.into) (drop l.place l.part) ≡ paired sums_added l.fn.into l.part;
}
