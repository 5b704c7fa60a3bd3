use Rattle.std.proofs.Common.{◌≡◌, ◌++◌, length, take, drop}
use Rattle.definitions.specs.Field.{add}
use Rattle.walk_definitions.specs.Heard.{paired}
use Rattle.lane_sums.proofs.places.add_into.Given as goal

abbrev pub invariant-loop-place : goal.invariant-loop-place
invariant-loop-place l =
    (length l.into ≡ length l.fn.into) × (take l.place l.into ++ paired add (drop l.place l.into) (drop l.place l.part) ≡ paired add l.fn.into l.part)
