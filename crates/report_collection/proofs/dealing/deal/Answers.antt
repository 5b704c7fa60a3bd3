use Rattle.std.proofs.Common.{rules, ◌≡◌, ◌++◌, sym}
use Rattle.std.proofs.lemmas.List.{take-append-drop}
use Rattle.report_collection.proofs.Seats.{queue_more, last_queue}
use Rattle.report_collection.proofs.dealing.deal.Goals as goal

pub loop-queues-preserved : goal.loop-queues-preserved
loop-queues-preserved c =
    let list = c.loop-queues.shares.items in
    let cut : list ≡ c.split_off.new.self.items ++ c.in_ok-split_off.field-0.items =
    rw (c.in_ok-split_off.ensures.items, c.in_ok-split_off.ensures.tail) (sym (take-append-drop _ list)) in (
      search rules,
      search rules,
      rw c.push_reserved.ensures.items
          (queue_more c.args.shares.items list c.split_off.new.self.items c.loop-queues.queues.items c.in_ok-split_off.field-0 cut c.loop-queues.invariant.2),
    )

pub returns-clause-all : goal.returns-clause-all
returns-clause-all c =
    rw c.push_reserved-2.ensures.items (last_queue c.args.shares.items c.loop-queues.queues.items c.loop-queues.shares c.loop-queues.invariant.2)
