use Rattle.std.proofs.Common.{[], ap, ◌∙◌, Option}
use Rattle.atomic_table.specs.Table.{Me}
use Rattle.turn_lock.specs.declared.views.View.{View}
use Rattle.turn_lock.specs.Seats.{newcomer, new_pass}
use Rattle.turn_lock.proofs.Moves.{splits}
use Rattle.turn_lock.proofs.steps.deal.Goals as goal

pub split_seat-seat-requires : goal.split_seat-seat-requires
split_seat-seat-requires g c =
    let H = g.S.Held in
    let key = c.args.shared.now.key in
    let p = H.plan key.first.value in
    (c.requires.mine.0, c.requires.mine.1, rw c.requires.first (splits H.plan H.log H.by p key.passes c.args.keeper.now.id c.args.number (new_pass 0 p []) c.requires.room.0 c.requires.room.1))

pub returns-clause-dealt : goal.returns-clause-dealt
returns-clause-dealt g c =
    let M = Me (Option g.row.S.Denot) (View g.row.S-Plan.Denot g.row.S-Entry.Denot) in
    let split = c.split_seat-seat.ensures in
    c.from_seat.ensures _ (split.3 ∙ c.requires.mine.0) (ap (λ (m : M). m.0.mine) split.4 ∙ ap (λ (m : M). (newcomer m.0).mine) c.requires.first)
