-- The caches of both sides, and the passes of a phase.
use Rattle.std.specs.Prelude.{◌≡◌, ℕ, ◌+◌, List, length}
use Rattle.definitions.specs.declared.Side.TheVariants.{Zero, One}
use Rattle.definitions.specs.Evaluation.{Share}
use Rattle.turn_lock.specs.Seen.{LockId}
use Rattle.eval_cache.specs.declared.shard.ShardPlan.{ShardPlan}
use Rattle.eval_cache.specs.Shards.{SharedSeen}
use Rattle.phase_workers.specs.Seen.{ArePasses}

-- each side's cache
pub record CachesSeen : Type 0 where
  pub zero : SharedSeen
  pub one : SharedSeen

-- the passes of each side, each as the locks that it is of
pub record HoldSeen : Type 0 where
  pub zero : List (List (LockId ShardPlan))
  pub one : List (List (LockId ShardPlan))

-- the caches are of these shares of side 0 and of side 1, and the passes are theirs, one for each worker and one for the sweep
pub record AreCaches (shares0 shares1 : List Share) (workers : ℕ) (caches : CachesSeen) (hold : HoldSeen) : Type 0 where
  pub side0 : caches.zero.side ≡ Zero
  pub side1 : caches.one.side ≡ One
  pub of0 : caches.zero.shares ≡ shares0
  pub of1 : caches.one.shares ≡ shares1
  pub passes0 : ArePasses caches.zero.locks hold.zero
  pub passes1 : ArePasses caches.one.locks hold.one
  pub count0 : length hold.zero ≡ workers + 1
  pub count1 : length hold.one ≡ workers + 1
