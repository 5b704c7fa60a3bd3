use Rattle.std.proofs.Common.{◌≡◌, ◌+◌, ◌≤◌, vec_len, vec_capacity}
use Rattle.std.specs.List.{AllByRecursion}
use Rattle.phase_workers.specs.Gates.{tells_of, rule_of}
use Rattle.phase_workers.specs.Crews.{Pairs}
use Rattle.phase_workers.specs.Marked.{Home, IsPaired}
use Rattle.phase_workers.specs.Seen.{ArePasses}
use Rattle.phase_workers.proofs.closing.take_apart.Given as goal

abbrev pub invariant-loop-seat : goal.invariant-loop-seat
invariant-loop-seat g l =
    AllByRecursion (Home l.level.locks l.claims.id l.cache.locks (tells_of (g.G.Gate.rule l.gate)) (rule_of (g.G.Gate.rule l.gate) l.fn.side) l.claims.tiles) l.seats.items
    × Pairs (IsPaired l.level.locks l.claims.id (tells_of (g.G.Gate.rule l.gate)) (rule_of (g.G.Gate.rule l.gate) l.fn.side) l.claims.tiles) l.drawers.items l.passes.items
    × (vec_len l.drawers ≡ vec_len l.passes)
    × (vec_len l.seats + vec_len l.drawers ≡ vec_len l.fn.seats)
    × (vec_len l.fn.seats ≤ vec_capacity l.drawers)
    × (vec_len l.fn.seats ≤ vec_capacity l.passes)
    × ArePasses l.cache.locks l.cached.items
    × (vec_len l.cached + vec_len l.seats ≡ vec_len l.fn.cached + vec_len l.fn.seats)
    × (vec_len l.fn.seats + vec_len l.fn.cached ≤ vec_capacity l.cached)

abbrev pub decreases-loop-seat : goal.decreases-loop-seat
decreases-loop-seat g l = vec_len l.seats
