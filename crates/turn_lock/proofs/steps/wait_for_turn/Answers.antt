use Rattle.std.proofs.Common.{◌<◌, arith}
use Rattle.turn_lock.proofs.Moves.{watches}
use Rattle.turn_lock.proofs.steps.wait_for_turn.Goals as goal

pub load-requires : goal.load-requires
load-requires g c =
    let inv = c.loop.invariant in
    let key = c.args.shared.now.key in
    let words : 1 < c.args.shared.now.table_id.words = omega (arith, c.requires.mine.1) in
    (inv.1, words, rw inv.2.2 (watches g.S.Held.plan g.S.Held.log g.S.Held.by (g.S.Held.plan key.first.value) key.passes c.loop.seat.id c.args.shared.now.table_id.slots _ inv.2.0 _))
