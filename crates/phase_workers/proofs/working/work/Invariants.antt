use Rattle.std.proofs.Common.{◌≡◌, false}
use Rattle.lock_row.specs.Rows.{locks_of}
use Rattle.phase_state.specs.Rooms.{HasRoom}
use Rattle.level_totals.specs.Levels.{seen_of, own_of}
use Rattle.phase_workers.specs.Crews.{Did}
use Rattle.phase_workers.proofs.working.work.Given as goal

abbrev pub invariant-loop : goal.invariant-loop
invariant-loop g l =
    ((goal.iterator-loop g).can_next l.iterator' × (goal.iterator-loop g).is_finite l.iterator')
    × (l.cached ≡ l.shared.cache.now.locks)
    × (l.drawer.claims ≡ l.shared.claims.now.id)
    × (l.drawer.had_none ≡ false)
    × (locks_of l.pass ≡ l.shared.level.now.locks)
    × HasRoom l.shared.level.now.plan.tiles l.room.reports l.room.candidates
    × Did (g.G.Asked.tells l.shared.gate.now) (g.G.Asked.rule l.shared.gate.now) l.shared.claims.now.tiles l.drawer.drawn (seen_of l.pass) (own_of l.pass)
