use Rattle.std.proofs.Common.{rules, ◌≡◌, ◌+◌, [], ◌∷◌, Option, ap, ◌∙◌}
use Rattle.atomic_table.specs.Table.{Me}
use Rattle.turn_lock.specs.declared.views.View.{View}
use Rattle.turn_lock.specs.Seen.{PassSeen, fresh_pass, fresh_passes}
use Rattle.turn_lock.specs.Seats.{resting, new_pass}
use Rattle.turn_lock.proofs.Dealing.{dealt, all_dealt}
use Rattle.turn_lock.proofs.lock.Turn.new.Goals as goal

pub loop-number-preserved : goal.loop-number-preserved
loop-number-preserved g c =
    let b = c.board.ensures in
    let lock = c.in_ok-turn.turn.lock in
    let number = c.loop-number.number in
    let pass : c.deal.result ≡ fresh_pass {E = g.row.S-Entry.Denot} lock number =
    c.deal.ensures.dealt ∙ (λ i. fresh_pass (record { table = b.counts.0 i; plan = b.key.0 i }) number) in (
      dealt lock number c.loop-number.made.items c.loop-number.keeper.me _ _ c.deal.result c.loop-number.invariant.0
          (c.deal.ensures.left ∙ ap (λ plan. (resting (number + 1) (new_pass 0 plan [] ∷ []), [])) b.key.0) pass c.push_reserved.ensures.items,
      c.deal.ensures.same ∙ c.loop-number.invariant.1,
      search rules,
    )

pub returns-clause-passes : goal.returns-clause-passes
returns-clause-passes g c =
    let M = Me (Option g.row.S.Denot) (View g.row.S-Plan.Denot g.row.S-Entry.Denot) in
    let lock = c.in_ok-turn.turn.lock in
    let deals = c.loop-number.invariant.0 in
    let first : PassSeen g.row.S-Plan.Denot g.row.S-Entry.Denot = fresh_pass lock 0 in
    let is : c.from_seat.result ≡ first = c.from_seat.ensures first c.loop-number.invariant.1 (ap (λ (m : M). m.0.mine) deals.keeper) in
    let count : c.loop-number.number ≡ c.args.passes = search rules in
    c.in-Ok.ensures.items ∙ all_dealt lock c.loop-number.number c.loop-number.made.items c.loop-number.keeper.me c.from_seat.result deals is ∙ ap (fresh_passes lock) count
