use Rattle.std.proofs.Common.{rules, ◌≡◌, ◌<◌, ℕ, subst, vec_len}
use Rattle.std.specs.List.{AllByRecursion}
use Rattle.core_definitions.specs.Phase.{Posting}
use Rattle.phase_workers.proofs.Together.{pairs_left, pairs_right}
use Rattle.phase_workers.proofs.Workers.{worked}
use Rattle.phase_workers.proofs.closing.close_all.Goals as goal

pub close-requires-clause-mine : goal.close-requires-clause-mine
close-requires-clause-mine g c = pairs_left _ _ _ _ c.requires.pairs (λ d p h. h.mine)

pub finish-requires-clause-mine : goal.finish-requires-clause-mine
finish-requires-clause-mine g c = pairs_right _ _ _ _ c.requires.pairs (λ d p h. h.same)

pub returns-clause-worked : goal.returns-clause-worked
returns-clause-worked g c =
    let count : vec_len c.args.passes ≡ c.args.level.passes = search rules in
    worked _ _ _ _ _ _ _ _ _ _ _ c.requires.pairs (search rules) c.close.ensures.once c.finish.ensures.seen c.finish.ensures.stripes
    (subst (λ (k : ℕ). AllByRecursion (λ (e : Posting). e.number < k) c.finish.result.log) count c.finish.ensures.entries)
