-- A shared cache: its shards, and what is found in them and offered to them.
use Rattle.std.specs.Prelude.{ℕ, ◌≡◌, ◌%◌, Bool, List, [], ◌<◌, ◌≤◌, length, slice_index_or, Contains, IfSome, Option, None}
use Rattle.definitions.specs.declared.Side.{Side}
use Rattle.definitions.specs.Evaluation.{Share, Node}
use Rattle.turn_lock.specs.Seen.{LockId}
use Rattle.turn_lock.specs.Places.{StandsAt}
use Rattle.eval_cache.specs.declared.shard.ShardPlan.{ShardPlan}
use Rattle.eval_cache.specs.declared.key.Key.{Key}
use Rattle.kept_nodes.specs.Kept.{node_at, share_at}
use Rattle.eval_cache.specs.Entries.{CacheSeen}

-- a shared cache: the shares of one side, how many entries a shard may have, and the locks of its shards
pub record SharedSeen : Type 0 where
  pub shares : List Share
  pub side : Side
  pub most : ℕ
  pub locks : List (LockId ShardPlan)

-- one shard: its nodes, its number and how many shards there are
pub record ShardSeen : Type 0 where
  pub state : CacheSeen
  pub number : ℕ
  pub count : ℕ

abbrev pub plan_of : ShardSeen → ShardPlan
plan_of s = record { side = s.state.side; shares = s.state.shares; most = s.state.most; number = s.number; count = s.count }

-- the plan of the shard of that number, for at most so many entries, among so many shards
abbrev pub planned : Side → List Share → ℕ → ℕ → ℕ → ShardPlan
planned side shares most count number = record { side = side; shares = shares; most = most; number = number; count = count }

-- each entry is of a report that belongs to the shard of that number, among so many
abbrev pub AreOfShard : ℕ → ℕ → List (Key × Node) → Type 0
AreOfShard number count entries = (e : Key × Node) → Contains entries e → e.0.report % count ≡ number

-- the lock at each place holds the shard of that number, for at most so many entries
abbrev pub AreShards : Side → List Share → ℕ → List (LockId ShardPlan) → Type 0
AreShards side shares most locks = (place : ℕ) (lock : LockId ShardPlan) → StandsAt locks place lock → lock.plan ≡ planned side shares most (length locks) place

-- each node that was found is the evaluated one of the report at its prefix
abbrev pub AreFound : List Share → Side → ℕ → List (List Bool) → List (Option Node) → Type 0
AreFound shares side report prefixes found =
    (k : ℕ) → k < length found → IfSome (slice_index_or found k None) (λ n. n ≡ node_at shares side report (slice_index_or prefixes k []))

-- one evaluated node for each prefix, none of which is empty or longer than the report's levels
pub record AreFor (shares : List Share) (side : Side) (report : ℕ) (prefixes : List (List Bool)) (nodes : List Node) : Type 0 where
  pub long : length prefixes ≡ length nodes
  pub some : (k : ℕ) → k < length prefixes → 0 < length (slice_index_or prefixes k [])
  pub bits : (k : ℕ) → k < length prefixes → length (slice_index_or prefixes k []) ≤ length (share_at shares report).levels
  pub evaluated : (k : ℕ) (d : Node) → k < length prefixes → slice_index_or nodes k d ≡ node_at shares side report (slice_index_or prefixes k [])
