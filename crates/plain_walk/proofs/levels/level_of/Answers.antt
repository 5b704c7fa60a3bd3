use Rattle.std.proofs.Common.{ap, ◌∙◌}
use Rattle.std.proofs.lemmas.Result.{err_from_is_err_and}
use Rattle.plain_walk.specs.Chosen.{chosen}
use Rattle.plain_walk.proofs.LevelSteps.{live-is, outcome-is, capped-by}
use Rattle.plain_walk.proofs.levels.level_of.Goals as goal

pub returns-in_err-next-clause-cause : goal.returns-in_err-next-clause-cause
returns-in_err-next-clause-cause c =
    let p = err_from_is_err_and c.from_residual-in_err-next.result c.from_residual-in_err-next.ensures.1 in
    let live =
    live-is c.args.settings.now c.args.batch.now c.args.frontier.now c.args.alive.items c.deref.result.now c.in_ok-still_alive.still_alive.items
    c.level-level.result c.candidates-candidates.result.now c.level-level.ensures.value c.candidates-candidates.ensures.value c.deref.ensures.value c.in_ok-still_alive.ensures.live in
    let same =
    outcome-is c.args.settings.now c.args.batch.now c.args.frontier.now (chosen c.args.alive.items c.args.batch.now)
    c.deref-2.result.now c.in_ok-still_alive.still_alive.items c.candidates-candidates.result.now c.deref-3.result.now c.settings.inside.threshold
    (ap (λ s. s.threshold) c.settings.view_is) c.candidates-candidates.ensures.value c.deref-2.ensures.value live (c.deref-3.ensures.value ∙ c.in_ok-sums.ensures.value) in
    rw (p.1, p.2) (capped-by _ _ c.in_err-next.field-0.0 same c.in_err-next.ensures.cause)

pub returns-clause-next : goal.returns-clause-next
returns-clause-next c =
    let live =
    live-is c.args.settings.now c.args.batch.now c.args.frontier.now c.args.alive.items c.deref.result.now c.in_ok-still_alive.still_alive.items
    c.level-level.result c.candidates-candidates.result.now c.level-level.ensures.value c.candidates-candidates.ensures.value c.deref.ensures.value c.in_ok-still_alive.ensures.live in
    c.in_ok-next.ensures.outcome
    ∙ outcome-is c.args.settings.now c.args.batch.now c.args.frontier.now (chosen c.args.alive.items c.args.batch.now)
    c.deref-2.result.now c.in_ok-still_alive.still_alive.items c.candidates-candidates.result.now c.deref-3.result.now c.settings.inside.threshold
    (ap (λ s. s.threshold) c.settings.view_is) c.candidates-candidates.ensures.value c.deref-2.ensures.value live (c.deref-3.ensures.value ∙ c.in_ok-sums.ensures.value)
