use Rattle.std.proofs.Common.{◌≡◌}
use Rattle.eval_cache.specs.Shards.{plan_of}
use Rattle.eval_cache.proofs.shard.Shard.keep_all.Given as goal

abbrev pub invariant-loop-place : goal.invariant-loop-place
invariant-loop-place l = plan_of l.self ≡ plan_of l.fn.self
