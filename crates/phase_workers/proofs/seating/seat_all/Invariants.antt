use Rattle.std.proofs.Common.{◌≡◌, ◌+◌, ◌≤◌, vec_len, vec_capacity}
use Rattle.std.specs.List.{AllByRecursion}
use Rattle.phase_workers.specs.Marked.{Waiting, IsFreshDrawer, IsFreshPass}
use Rattle.phase_workers.specs.Seen.{ArePasses}
use Rattle.phase_workers.proofs.seating.seat_all.Given as goal

abbrev pub invariant-loop-drawer : goal.invariant-loop-drawer
invariant-loop-drawer l =
    AllByRecursion (IsFreshDrawer l.claims.id) l.drawers.items
    × AllByRecursion (IsFreshPass l.level.locks) l.passes.items
    × AllByRecursion (Waiting l.level l.claims.id l.cache.locks) l.seats.items
    × (vec_len l.drawers ≡ vec_len l.passes)
    × (vec_len l.seats + vec_len l.drawers ≡ vec_len l.fn.drawers)
    × (vec_len l.fn.drawers ≤ vec_capacity l.seats)
    × (vec_capacity l.drawers ≡ vec_capacity l.fn.drawers)
    × (vec_capacity l.passes ≡ vec_capacity l.fn.passes)
    × ArePasses l.cache.locks l.cached.items
    × (vec_len l.cached ≡ vec_len l.drawers + 1)
    × (vec_capacity l.cached ≡ vec_capacity l.fn.cached)

abbrev pub decreases-loop-drawer : goal.decreases-loop-drawer
decreases-loop-drawer l = vec_len l.drawers
