use Rattle.eval_cache.proofs.Entries.{in_used}
use Rattle.eval_cache.proofs.shard.Shard.look.Goals as goal

pub invariant_of-self : goal.invariant_of-self
invariant_of-self c = λ e h. c.self.invariant e (in_used c.args.report c.args.prefix.now c.self.inside.state e (rw c.look.ensures.used at h))
