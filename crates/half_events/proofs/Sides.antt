-- One side of a phase, through what happens at it.
use Rattle.std.proofs.Common.{◌≡◌, ℕ, ◌<◌, ◌≤◌, sym, ◌∙◌, ap, subst, arith}
use Rattle.definitions.specs.declared.Side.{Side}
use Rattle.tile_claims.specs.Plans as plans
use Rattle.core_definitions.specs.declared.hand.Hand.TheVariants.{Holding}
use Rattle.core_definitions.specs.Phase as phase
use Rattle.core_definitions.specs.Phase.{CoreSettings, Phase, HalfEvent, HalfKept, half_after, hand_at, posted_count}
use Rattle.core_definitions.specs.Tiles.{tiles}
use Rattle.core_definitions.proofs.PhaseSteps.{kept-event, freed-none}
use Rattle.phase_state.specs.declared.phase_plan.PlanSeen.{PlanSeen}
use Rattle.phase_state.proofs.Cutting.{count_is}
use Rattle.half_events.specs.declared.halves.Half.{Half}
use Rattle.half_events.specs.Caches.{IsTrueCache}
use Rattle.half_events.specs.Halves.{IsHalf, half_seen}
use Rattle.half_events.specs.Stages.{IsPlanOf}
use Rattle.half_events.proofs.Bridges.{cache-true}

module _ (core : CoreSettings) (p : Phase) (side : Side) where
  pub tiles-are : (plan : PlanSeen) → IsPlanOf core p side plan → plans.tiles_of plan.tiles ≡ tiles (phase.plan_of core p)
  tiles-are plan is = sym (ap tiles (sym is.tiles_are) ∙ count_is plan.tiles is.fits.sizes.0 is.fits.sizes.1)

  pub cache-is : (h : Half) → IsHalf core p side h → IsTrueCache h.plan.shares side h.cache.items
  cache-is h is = cache-true h.plan.shares p.batch side h.cache.items is.plan.shares_are is.kept.cached

  pub held-low : (h : Half) → IsHalf core p side h → (w k : ℕ) → hand_at h.hands.items w ≡ Holding k → k < plans.tiles_of h.plan.tiles
  held-low h is w k e =
      let some = freed-none core p side w k (half_seen core p side h) is.kept e in
      let low = is.kept.held_low k some.1 in
      omega (arith, low.1, tiles-are h.plan is.plan)

  pub posted-once : (h : Half) → IsHalf core p side h → (k : ℕ) → posted_count k h.state.log ≤ 1
  posted-once h is k = let once = is.kept.once k in omega (arith, once)

  -- a side of the same plan that is what an event leads to is a side again
  pub still-half : (event : HalfEvent) (old new : Half) → IsHalf core p side old → new.plan ≡ old.plan → new.state.plan ≡ old.plan
      → half_seen core p side new ≡ half_after core p side event (half_seen core p side old) → IsHalf core p side new
  still-half event old new is e f g = record {
    plan = subst (IsPlanOf core p side) (sym e) is.plan;
    same = f ∙ sym e;
    kept = subst (HalfKept core p side) (sym g) (kept-event core p side event (half_seen core p side old) is.kept);
  }
