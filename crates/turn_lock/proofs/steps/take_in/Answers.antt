use Rattle.std.proofs.Common.{◌∷◌, [], ap, ◌∙◌}
use Rattle.turn_lock.specs.Seats.{mine_of}
use Rattle.turn_lock.proofs.Moves.{joins}
use Rattle.turn_lock.proofs.steps.take_in.Goals as goal

pub join_seat-requires : goal.join_seat-requires
join_seat-requires g c =
    let H = g.S.Held in
    let key = c.args.shared.now.key in
    let v = c.args.keeper.now.me.0 in
    let op = c.into_seat-seat.ensures in
    let seat = c.into_seat-seat.result.0 in
    let mine = c.requires.mine in
    (mine.0, op.table.0 ∙ mine.1, ap (λ m. m.1) op.me, mine.2, rw (c.requires.out, op.me) (joins H.plan H.log H.by (H.plan key.first.value) key.passes c.args.keeper.now.id seat.id v.made seat.me.0.made v.mine (mine_of c.args.pass ∷ [])))
