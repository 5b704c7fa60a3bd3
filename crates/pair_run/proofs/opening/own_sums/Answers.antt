use Rattle.std.proofs.Common.{◌∙◌, ◌<◌, ap, length}
use Rattle.std.proofs.lemmas.List.Elements.{recursion_from_All}
use Rattle.definitions.specs.declared.Side.TheVariants.{Zero, One}
use Rattle.phase_state.specs.declared.kind.Kind.TheVariants.{Sketch}
use Rattle.walk_definitions.specs.Walk.{own_sums}
use Rattle.pair_run.specs.Places.{picked}
use Rattle.pair_run.specs.Rules.{rules_of}
use Rattle.phase_state.specs.declared.phase_plan.PlanSeen.{PlanSeen}
use Rattle.pair_run.proofs.HeldCaches.{caches_as, caches_of}
use Rattle.pair_run.proofs.Phases.{own_sums_are}
use Rattle.pair_run.proofs.SideNumbers.{sums_below, length_map, length_picked}
use Rattle.pair_run.proofs.opening.own_sums.Goals as goal

pub returns-clause-sums0 : goal.returns-clause-sums0
returns-clause-sums0 g c =
    own_sums_are c.args.settings.now Sketch c.args.level c.args.candidates.now c.args.batch.now c.args.live.now Zero c.side_plan-zero.result
    c.in_ok-both_sums.field-0.0.items c.in_ok-both_sums.ensures.zero c.side_plan-zero.ensures.exact c.side_plan-zero.ensures.named c.requires.places

pub returns-clause-sums1 : goal.returns-clause-sums1
returns-clause-sums1 g c =
    own_sums_are c.args.settings.now Sketch c.args.level c.args.candidates.now c.args.batch.now c.args.live.now One c.side_plan-one.result
    c.in_ok-both_sums.field-0.1.items c.in_ok-both_sums.ensures.one c.side_plan-one.ensures.exact c.side_plan-one.ensures.named c.requires.places

pub returns-clause-count : goal.returns-clause-count
returns-clause-count g c =
    let live = picked c.args.batch.now c.args.live.now in
    let count = length_picked c.args.batch.now c.args.live.now (recursion_from_All (λ k. k < length c.args.batch.now) c.args.live.now c.requires.places) in
    let own = own_sums (rules_of c.args.settings.now) c.args.level c.args.candidates.now in (
      ap length (returns-clause-sums0 g c) ∙ length_map (own Zero) live ∙ count,
      ap length (returns-clause-sums1 g c) ∙ length_map (own One) live ∙ count,
    )

pub returns-clause-below0 : goal.returns-clause-below0
returns-clause-below0 g c =
    sums_below (rules_of c.args.settings.now) c.args.level c.args.candidates.now Zero (picked c.args.batch.now c.args.live.now) c.in_ok-both_sums.field-0.0.items
    (returns-clause-sums0 g c)

pub returns-clause-below1 : goal.returns-clause-below1
returns-clause-below1 g c =
    sums_below (rules_of c.args.settings.now) c.args.level c.args.candidates.now One (picked c.args.batch.now c.args.live.now) c.in_ok-both_sums.field-0.1.items
    (returns-clause-sums1 g c)

pub both_sums-requires-clause-caches : goal.both_sums-requires-clause-caches
both_sums-requires-clause-caches g c κs within =
    caches_as c.args.batch.now c.args.settings.now.workers c.args.caches.now c.args.hold.now c.side_plan-zero.result.shares c.side_plan-one.result.shares
    (ap (λ (p : PlanSeen). p.shares) c.side_plan-zero.ensures.exact) (ap (λ (p : PlanSeen). p.shares) c.side_plan-one.ensures.exact) c.requires.caches

pub returns-clause-caches : goal.returns-clause-caches
returns-clause-caches g c =
    caches_of c.args.batch.now c.args.settings.now.workers c.args.caches.now c.both_sums.new.hold c.side_plan-zero.result.shares c.side_plan-one.result.shares
    (ap (λ (p : PlanSeen). p.shares) c.side_plan-zero.ensures.exact) (ap (λ (p : PlanSeen). p.shares) c.side_plan-one.ensures.exact) c.in_ok-both_sums.ensures.caches
