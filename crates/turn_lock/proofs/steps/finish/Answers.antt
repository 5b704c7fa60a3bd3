use Rattle.std.proofs.Common.{ap, Option}
use Rattle.atomic_table.specs.Table.{Me}
use Rattle.turn_lock.specs.declared.views.View.{View}
use Rattle.turn_lock.proofs.Moves.{ends, ends_with}
use Rattle.turn_lock.proofs.steps.finish.Goals as goal

pub unreachable-requires : goal.unreachable-requires
unreachable-requires g c =
    let H = g.S.Held in
    let key = c.args.table.shared.key in
    let keeper = c.args.keeper in
    let is = ap (λ (m : Me (Option g.row.S.Denot) (View g.row.S-Plan.Denot g.row.S-Entry.Denot)). m.0) c.requires.out in
    let found = ends H.plan H.log H.by (H.plan key.first.value) key.passes keeper.id keeper.me.0 _ _ c.take.result is c.requires.all c.close_with-closed.ensures.values.2 c.take.ensures.value in
    c.in_default.not-Some found.0 found.1

pub returns : goal.returns
returns g c =
    let H = g.S.Held in
    let key = c.args.table.shared.key in
    let keeper = c.args.keeper in
    let is = ap (λ (m : Me (Option g.row.S.Denot) (View g.row.S-Plan.Denot g.row.S-Entry.Denot)). m.0) c.requires.out in
    ends_with H.plan H.log H.by (H.plan key.first.value) key.passes keeper.id keeper.me.0 _ _ c.take.result c.in-Some.value is c.requires.all c.close_with-closed.ensures.values.2 c.take.ensures.value c.in-Some.is
