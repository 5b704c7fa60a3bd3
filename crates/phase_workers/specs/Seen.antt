-- What contracts see of a crew.
use Rattle.std.specs.Prelude.{ℕ, ◌≡◌, List}
use Rattle.std.specs.List.{AllByRecursion}
use Rattle.turn_lock.specs.Seen.{LockId}
use Rattle.eval_cache.specs.declared.shard.ShardPlan.{ShardPlan}
use Rattle.phase_state.specs.declared.phase_plan.PlanSeen.{PlanSeen}

-- the phase's plan, how many workers there are, and the locks of the cache's shards
pub record CrewSeen : Type 0 where
  pub plan : PlanSeen
  pub workers : ℕ
  pub cache : List (LockId ShardPlan)

abbrev pub crew_of : PlanSeen → ℕ → List (LockId ShardPlan) → CrewSeen
crew_of plan workers cache = record { plan = plan; workers = workers; cache = cache }

-- each pass is of the cache with these locks
abbrev pub ArePasses : List (LockId ShardPlan) → List (List (LockId ShardPlan)) → Type 0
ArePasses cache passes = AllByRecursion (λ p. p ≡ cache) passes
