use Rattle.std.proofs.Common.{ap, ◌∙◌, arith}
use Rattle.level_totals.specs.declared.held_phase.StripePlan.{StripePlan}
use Rattle.level_totals.specs.Stripes.{stripes_of}
use Rattle.level_totals.specs.Levels.{LevelSeen}
use Rattle.level_totals.proofs.Locks.{lock_count, held_is}
use Rattle.level_totals.proofs.level.Level.take_stripe.Goals as goal

pub take-requires-clause-place : goal.take-requires-clause-place
take-requires-clause-place g c =
    let same = ap (λ (l : LevelSeen). stripes_of l.plan.tiles) c.self.view_is in
    omega (arith, lock_count c.self.inside.plan c.self.inside.row.locks c.self.invariant.0, same, c.requires.stripe)

pub returns-clause-plan : goal.returns-clause-plan
returns-clause-plan g c =
    ap (λ (p : StripePlan). p.plan)
    (held_is c.self.inside.plan c.self.inside.row.locks c.args.stripe c.take.result.1.turn.lock c.take.result.0 c.self.invariant.0 c.take.ensures.lock c.take.ensures.plan)
    ∙ ap (λ (l : LevelSeen). l.plan) c.self.view_is

pub returns-clause-stripe : goal.returns-clause-stripe
returns-clause-stripe g c =
    ap (λ (p : StripePlan). p.stripe)
    (held_is c.self.inside.plan c.self.inside.row.locks c.args.stripe c.take.result.1.turn.lock c.take.result.0 c.self.invariant.0 c.take.ensures.lock c.take.ensures.plan)
