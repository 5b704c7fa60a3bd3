use Rattle.std.proofs.Common.{rules, map, ap, ◌∙◌}
use Rattle.phase_state.specs.declared.phase_plan.PlanSeen.{PlanSeen}
use Rattle.level_totals.specs.Stripes.{plan_of, stripe_plan}
use Rattle.level_totals.proofs.Locks.{one_made, one_empty}
use Rattle.level_totals.proofs.held_phase.empty_stripes.Goals as goal

pub loop-stripe-preserved : goal.loop-stripe-preserved
loop-stripe-preserved c =
    let inv = c.loop-stripe.invariant in (
      search rules,
      search rules,
      ap (map plan_of) c.push_reserved.ensures.items
          ∙ one_made c.args.plan.now c.loop-stripe.made.items c.in_ok-new.field-0 c.loop-stripe.stripe inv.2
          (c.in_ok-new.ensures.plan ∙ ap (λ (p : PlanSeen). stripe_plan p c.loop-stripe.stripe) c.copy.ensures),
      rw c.push_reserved.ensures.items (one_empty _ _ inv.3 c.in_ok-new.ensures.empty),
    )
