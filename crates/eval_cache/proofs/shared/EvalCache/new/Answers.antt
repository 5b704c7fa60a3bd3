use Rattle.std.proofs.Common.{◌≡◌, ℕ, List, sym, subst, ap, arith}
use Rattle.std.specs.List.{AllByRecursion}
use Rattle.turn_lock.specs.Seen.{LockId}
use Rattle.kept_nodes.specs.Kept.{KeptSeen}
use Rattle.eval_cache.specs.declared.shard.ShardPlan.{ShardPlan}
use Rattle.eval_cache.proofs.Shards.{made_shards, of_locks}
use Rattle.eval_cache.proofs.shared.EvalCache.new.Goals as goal

pub invariant_of-cache : goal.invariant_of-cache
invariant_of-cache c =
    let made = made_shards c.args.side c.args.shares.now c.args.entries c.args.shards c.in_ok-row.row.locks c.in_ok-states.states.items c.in_ok-row.ensures.plans c.in_ok-states.ensures.plans in
    (omega (arith, made.0, c.requires.shards), made.1, ap (λ (k : KeptSeen). k.side) c.none.ensures, ap (λ (k : KeptSeen). k.shares) c.none.ensures)

pub returns-clause-shards : goal.returns-clause-shards
returns-clause-shards c =
    (made_shards c.args.side c.args.shares.now c.args.entries c.args.shards c.in_ok-row.row.locks c.in_ok-states.states.items c.in_ok-row.ensures.plans c.in_ok-states.ensures.plans).0

pub returns-clause-passes : goal.returns-clause-passes
returns-clause-passes c =
    subst (λ (l : List (List (LockId ShardPlan))). AllByRecursion (λ pass. pass ≡ c.in_ok-row.row.locks) l) (sym c.in_ok-made.ensures)
    (of_locks ℕ c.in_ok-row.row.locks c.in_ok-row.rows.items c.in_ok-row.ensures.this_row)
