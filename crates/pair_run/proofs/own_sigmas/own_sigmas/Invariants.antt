use Rattle.std.proofs.Common.{◌≡◌, ◌++◌, drop}
use Rattle.std.specs.Prelude.{map}
use Rattle.walk_definitions.specs.Heard.{sigmas}
use Rattle.pair_run.specs.Places.{picked, alone}
use Rattle.pair_run.proofs.own_sigmas.own_sigmas.Given as goal

abbrev pub invariant-loop-k : goal.invariant-loop-k
invariant-loop-k l =
    l.found.items ++ sigmas l.level l.side (map alone (picked l.shares (drop l.k l.live))) (drop l.k l.opened)
    ≡ sigmas l.level l.side (map alone (picked l.shares l.live)) l.opened
