use Rattle.std.proofs.Common.{rules, map, ap, ◌∙◌}
use Rattle.eval_cache.specs.Shards.{plan_of}
use Rattle.eval_cache.proofs.Shards.{one_more}
use Rattle.eval_cache.proofs.shard.empty_shards.Goals as goal

pub loop-number-preserved : goal.loop-number-preserved
loop-number-preserved c =
    let kept = c.loop-number.invariant in (
      search rules,
      search rules,
      ap (map plan_of) c.push_reserved.ensures.items
          ∙ one_more c.args.side c.args.shares.now c.args.entries c.args.shards c.loop-number.made.items c.in_ok-new.field-0 c.loop-number.number kept.2 c.in_ok-new.ensures.plan,
    )
