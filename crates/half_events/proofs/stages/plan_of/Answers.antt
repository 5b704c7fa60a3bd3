use Rattle.std.proofs.Common.{◌∙◌, ap, refl, length, map, arith}
use Rattle.walk_definitions.specs.Reports.{Report, held}
use Rattle.tile_claims.specs.Plans as plans
use Rattle.prefix_bits.specs.declared.TheConstants.{MOST_BITS}
use Rattle.core_definitions.specs.Phase.{CoreSettings}
use Rattle.half_events.specs.Stages.{StageSeen}
use Rattle.half_events.proofs.Planning.{plan-few, plan-is}
use Rattle.half_events.proofs.stages.plan_of.Goals as goal

pub new-requires-clause-few : goal.new-requires-clause-few
new-requires-clause-few c =
    let r = ap (λ (x : CoreSettings). x.by_reports) c.settings.view_is in
    let q = ap (λ (x : CoreSettings). x.by_candidates) c.settings.view_is in
    plan-few c.args.stage.now (length c.stage.inside.live.now) (length c.stage.inside.candidates.now) c.settings.inside.by_reports c.settings.inside.by_candidates
    (ap (λ (s : StageSeen). length s.live) c.stage.view_is) (ap (λ (s : StageSeen). length s.candidates) c.stage.view_is) c.requires.stage.small
    (omega (arith, r, c.requires.usable.some_reports)) (omega (arith, q, c.requires.usable.some_candidates))

pub returns : goal.returns
returns c =
    let past = ap (λ (s : StageSeen). s.past) c.stage.view_is in
    plan-is MOST_BITS c.args.settings.now c.args.stage.now c.args.side c.requires.usable c.requires.stage _
    refl
    (ap (λ (s : StageSeen). s.kind) c.stage.view_is)
    (omega (arith, past))
    (ap (λ (x : CoreSettings). x.walk.verify) c.settings.view_is)
    (c.shares.ensures.shares ∙ ap (λ (s : StageSeen). map (λ (r : Report). held r c.args.side) s.batch) c.stage.view_is)
    (c.shares.ensures.named ∙ ap (λ (s : StageSeen). map (λ (r : Report). r.id) s.batch) c.stage.view_is)
    (ap (λ (s : StageSeen). s.live) c.stage.view_is)
    (ap (λ (s : StageSeen). s.candidates) c.stage.view_is)
    (c.new.ensures
    ∙ ap (λ (s : StageSeen). plans.plan_of (length s.live) (length s.candidates) c.settings.inside.by_reports c.settings.inside.by_candidates) c.stage.view_is
    ∙ ap (λ (x : CoreSettings). plans.plan_of (length c.args.stage.now.live) (length c.args.stage.now.candidates) x.by_reports x.by_candidates) c.settings.view_is)
