use Rattle.std.proofs.Common.{◌≡◌, length}
use Rattle.eval_cache.specs.Shards.{plan_of}
use Rattle.eval_cache.proofs.Shards.{FoundBelow}
use Rattle.eval_cache.proofs.shard.Shard.look_all.Given as goal

abbrev pub invariant-loop-place : goal.invariant-loop-place
invariant-loop-place l =
    (plan_of l.self ≡ plan_of l.fn.self) × (length l.into ≡ length l.fn.into)
    × FoundBelow l.place l.fn.self.state.shares l.fn.self.state.side l.report l.prefixes l.into
