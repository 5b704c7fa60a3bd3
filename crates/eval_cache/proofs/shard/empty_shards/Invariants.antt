use Rattle.std.proofs.Common.{◌≡◌, ◌≤◌, map, vec_len, vec_capacity}
use Rattle.std.specs.List.{range_with_len}
use Rattle.eval_cache.specs.Shards.{plan_of, planned}
use Rattle.eval_cache.proofs.shard.empty_shards.Given as goal

abbrev pub invariant-loop-number : goal.invariant-loop-number
invariant-loop-number l =
    (vec_len l.made ≡ l.number) × (l.fn.shards ≤ vec_capacity l.made)
    × (map plan_of l.made.items ≡ map (planned l.fn.side l.fn.shares l.fn.entries l.fn.shards) (range_with_len 0 l.number))
