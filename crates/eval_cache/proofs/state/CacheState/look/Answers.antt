use Rattle.std.proofs.Common.{◌∙◌}
use Rattle.lru.proofs.CallerLemmas.{Contains-promoted}
use Rattle.eval_cache.specs.Entries.{is_key}
use Rattle.eval_cache.proofs.Entries.{found_node, used_view}
use Rattle.eval_cache.proofs.state.CacheState.look.Goals as goal

pub invariant_of-self : goal.invariant_of-self
invariant_of-self c = λ e h. c.self.invariant e (Contains-promoted (is_key c.args.report c.args.prefix.now) c.self.inside.cache.entries e (let h' = rw c.get.follows.holds-at-none at h in h'))

pub returns-clause-node : goal.returns-clause-node
returns-clause-node c = rw (← c.self.view_is) (found_node c.self.inside.shares.now c.self.inside.side c.args.report c.args.prefix.now c.self.inside.cache.entries c.self.invariant c.copied.result (c.copied.ensures ∙ c.get.ensures.value))

pub returns-clause-used : goal.returns-clause-used
returns-clause-used c =
    rw c.get.follows.holds-at-none (used_view c.args.report c.args.prefix.now (record { shares = c.self.inside.shares.now; side = c.self.inside.side; entries = c.self.inside.cache.entries; most = c.self.inside.cache.cap }) c.args.self.now c.self.view_is)
