use Rattle.std.proofs.Common.{◌+◌, ◌≤◌, ◌-◌, ◌++◌, vec_len, vec_capacity}
use Rattle.std.specs.Prelude.{flat_map}
use Rattle.std.specs.List.Sorted.{IsPermutation}
use Rattle.report_collection.proofs.dealing.deal.Given as goal

abbrev pub invariant-loop-queues : goal.invariant-loop-queues
invariant-loop-queues l =
    (vec_len l.queues + 1 ≤ l.count)
    × (l.count ≤ vec_capacity l.queues)
    × IsPermutation l.fn.shares.items (l.shares.items ++ flat_map (λ queue. queue.items) l.queues.items)

abbrev pub decreases-loop-queues : goal.decreases-loop-queues
decreases-loop-queues l = l.count - vec_len l.queues
