use Rattle.std.proofs.Common.{◌∙◌, ap, length}
use Rattle.definitions.specs.declared.Side.TheVariants.{Zero, One}
use Rattle.phase_state.specs.declared.kind.Kind.TheVariants.{Totals}
use Rattle.walk_definitions.specs.Walk.{own_total}
use Rattle.pair_run.specs.Places.{picked}
use Rattle.phase_state.specs.declared.phase_plan.PlanSeen.{PlanSeen}
use Rattle.pair_run.proofs.HeldCaches.{caches_as, caches_of}
use Rattle.pair_run.proofs.Phases.{own_totals_are}
use Rattle.pair_run.proofs.SideNumbers.{totals_below, length_map}
use Rattle.pair_run.proofs.totalling.own_totals.Goals as goal

pub returns-clause-totals0 : goal.returns-clause-totals0
returns-clause-totals0 g c =
    own_totals_are c.args.settings.now Totals c.args.level c.args.candidates.now c.args.batch.now c.args.passed.now Zero c.side_plan-zero.result
    c.in_ok-both_totals.field-0.0.items c.in_ok-both_totals.ensures.zero c.side_plan-zero.ensures.exact c.requires.places

pub returns-clause-totals1 : goal.returns-clause-totals1
returns-clause-totals1 g c =
    own_totals_are c.args.settings.now Totals c.args.level c.args.candidates.now c.args.batch.now c.args.passed.now One c.side_plan-one.result
    c.in_ok-both_totals.field-0.1.items c.in_ok-both_totals.ensures.one c.side_plan-one.ensures.exact c.requires.places

pub returns-clause-count : goal.returns-clause-count
returns-clause-count g c =
    let passed = picked c.args.batch.now c.args.passed.now in (
      ap length (returns-clause-totals0 g c) ∙ length_map (own_total passed Zero) c.args.candidates.now,
      ap length (returns-clause-totals1 g c) ∙ length_map (own_total passed One) c.args.candidates.now,
    )

pub returns-clause-below0 : goal.returns-clause-below0
returns-clause-below0 g c =
    totals_below c.args.candidates.now Zero (picked c.args.batch.now c.args.passed.now) c.in_ok-both_totals.field-0.0.items (returns-clause-totals0 g c)

pub returns-clause-below1 : goal.returns-clause-below1
returns-clause-below1 g c =
    totals_below c.args.candidates.now One (picked c.args.batch.now c.args.passed.now) c.in_ok-both_totals.field-0.1.items (returns-clause-totals1 g c)

pub both_totals-requires-clause-caches : goal.both_totals-requires-clause-caches
both_totals-requires-clause-caches g c κs within =
    caches_as c.args.batch.now c.args.settings.now.workers c.args.caches.now c.args.hold.now c.side_plan-zero.result.shares c.side_plan-one.result.shares
    (ap (λ (p : PlanSeen). p.shares) c.side_plan-zero.ensures.exact) (ap (λ (p : PlanSeen). p.shares) c.side_plan-one.ensures.exact) c.requires.caches

pub returns-clause-caches : goal.returns-clause-caches
returns-clause-caches g c =
    caches_of c.args.batch.now c.args.settings.now.workers c.args.caches.now c.both_totals.new.hold c.side_plan-zero.result.shares c.side_plan-one.result.shares
    (ap (λ (p : PlanSeen). p.shares) c.side_plan-zero.ensures.exact) (ap (λ (p : PlanSeen). p.shares) c.side_plan-one.ensures.exact) c.in_ok-both_totals.ensures.caches
