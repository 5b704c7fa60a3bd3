use Rattle.std.proofs.Common.{◌≡◌, ◌%◌, sym, subst}
use Rattle.eval_cache.specs.Shards.{ShardSeen}
use Rattle.eval_cache.proofs.Shards.{kept_of_shard}
use Rattle.eval_cache.proofs.shard.Shard.keep.Goals as goal

pub invariant_of-self : goal.invariant_of-self
invariant_of-self c =
    let own = subst (λ (s : ShardSeen). c.args.report % s.count ≡ s.number) (sym c.self.view_is) c.requires.own in
    kept_of_shard c.self.inside.count c.self.inside.number c.args.report c.args.prefix.now c.self.inside.state c.keep-kept.new.self c.args.node.now c.keep-kept.result c.self.invariant own
    c.keep-kept.ensures.kept c.keep-kept.ensures.refused
