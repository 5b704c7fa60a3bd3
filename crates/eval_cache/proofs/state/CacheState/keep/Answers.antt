use Rattle.std.proofs.Common.{ap, ◌∙◌, sym, subst, IsSome}
use Rattle.kept_nodes.specs.Kept.{node_at}
use Rattle.eval_cache.specs.Entries.{CacheSeen, found_in}
use Rattle.eval_cache.proofs.Entries.{kept_nodes, kept_view}
use Rattle.eval_cache.proofs.state.CacheState.keep.Goals as goal

pub invariant_of-self : goal.invariant_of-self
invariant_of-self c =
    kept_nodes c.self.inside.shares.now c.self.inside.side c.args.report c.args.prefix.now c.self.inside.cache c.put.new.self c.args.node.now c.put.result c.self.invariant
    (c.requires.node ∙ ap (λ (s : CacheSeen). node_at s.shares s.side c.args.report c.args.prefix.now) (sym c.self.view_is)) c.put.ensures.entries c.put.ensures.err

pub returns-clause-kept : goal.returns-clause-kept
returns-clause-kept c =
    kept_view c.args.report c.args.prefix.now (record { shares = c.self.inside.shares.now; side = c.self.inside.side; entries = c.self.inside.cache.entries; most = c.self.inside.cache.cap })
    c.args.self.now c.put.new.self c.args.node.now c.put.result c.is_ok.result c.self.view_is c.is_ok.ensures.value c.put.ensures.entries

pub returns-clause-there : goal.returns-clause-there
returns-clause-there c = λ h.
    let there = subst (λ (s : CacheSeen). IsSome (found_in c.args.report c.args.prefix.now s.entries)) (sym c.self.view_is) h in
    c.is_ok.ensures.value ∙ c.put.ensures.succeeds there
