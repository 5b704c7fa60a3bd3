use Rattle.std.specs.BTreeMap.{get}
use Rattle.intake_state.proofs.Orders.{id_cmp}
use Rattle.report_batch.proofs.Joining.{Joins}
use Rattle.report_batch.proofs.batching.batch_of.Given as goal

abbrev pub invariant-loop-id : goal.invariant-loop-id
invariant-loop-id l = Joins l.fn.zero.items l.fn.one.items l.ids.items l.zeros.items l.ones.items (get id_cmp l.others) l.id-iterator
