-- A side's plan of a phase.
use Rattle.std.proofs.Common.{◌≡◌, ℕ, zero, suc, ◌*◌, ◌<◌, ◌≤◌, ◌^◌, List, [], ◌∷◌, length, map, get_or, sym, ◌∙◌, ap, subst, arith}
use Rattle.std.specs.List.{All}
use Rattle.std.proofs.lemmas.List.{length-map}
use Rattle.definitions.specs.declared.Side.{Side}
use Rattle.walk_definitions.specs.Reports.{Report, held}
use Rattle.tile_claims.specs.Plans as plans
use Rattle.core_definitions.specs.Phase.{CoreSettings, ArePlaces}
use Rattle.phase_state.specs.declared.phase_plan.PlanSeen.{PlanSeen}
use Rattle.phase_state.specs.Sums.{cut}
use Rattle.half_events.specs.Settings.{AreUsable}
use Rattle.half_events.specs.Stages.{StageSeen, IsStage, IsPlanOf, phase_at, kind_of}
use Rattle.half_events.proofs.Tiling.{tiles-most}

pub places-below : (size : ℕ) (is : List ℕ) → ArePlaces size is → All (λ i. i < size) is
places-below size [] h i d p = absurd (omega (arith, p))
places-below size (x ∷ xs) h zero d p = h.0
places-below size (x ∷ xs) h (suc i) d p = places-below size xs h.2 i d (omega (arith, p))

pub plan-few : (s : StageSeen) (reports candidates by_reports by_candidates : ℕ) → reports ≡ length s.live → candidates ≡ length s.candidates
    → length s.live * length s.candidates < 2 ^ 31 → 1 ≤ by_reports → 1 ≤ by_candidates
    → plans.tiles_of (plans.plan_of reports candidates by_reports by_candidates) < 2 ^ 31
plan-few s reports candidates r c e f small p q =
    let most = tiles-most (plans.plan_of reports candidates r c) p q in
    let same : reports * candidates ≡ length s.live * length s.candidates = ap (λ n. n * candidates) e ∙ ap (λ n. length s.live * n) f in
    omega (arith, most, same, small)

module _ (most_bits : ℕ) (core : CoreSettings) (s : StageSeen) (side : Side) (usable : AreUsable most_bits core) (stage : IsStage core s) (plan : PlanSeen) where
  pub plan-is : plan.side ≡ side → kind_of plan.kind ≡ s.kind → plan.level ≡ suc s.past → plan.verify ≡ core.walk.verify
      → plan.shares ≡ map (λ r. held r side) s.batch → map (λ x. x.id) plan.shares ≡ map (λ r. r.id) s.batch → plan.live ≡ s.live → plan.candidates ≡ s.candidates
      → plan.tiles ≡ plans.plan_of (length s.live) (length s.candidates) core.by_reports core.by_candidates
      → IsPlanOf core (phase_at s) side plan
  plan-is a b c d e f g h k = record {
    side_is = a;
    kind_is = b;
    level_is = c;
    verify_is = d;
    shares_are = e;
    named = f;
    live_are = g;
    candidates_are = h;
    tiles_are = ap cut k;
    fits = record {
      levels = λ i x p.
          let long = stage.levels side i x (subst (λ l. i < length l) e p) in
          let read = ap (λ l. length (get_or l i x).levels) e in
          omega (arith, long, read, c, stage.inside);
      bits = λ i x p.
          let long = stage.bits i x (subst (λ l. i < length l) h p) in
          let read = ap (λ l. length (get_or l i x)) h in
          omega (arith, long, read, c);
      places = λ i x p.
          let low = places-below (length s.batch) s.live stage.places i x (subst (λ l. i < length l) g p) in
          let read = ap (λ l. get_or l i x) g in
          let count : length plan.shares ≡ length s.batch = ap length e ∙ length-map s.batch (λ (r : Report). held r side) in
          omega (arith, low, read, count);
      few = let count = ap length h in omega (arith, count, stage.few);
      sizes =
          let r = ap (λ (t : plans.Plan). t.by_reports) k in
          let q = ap (λ (t : plans.Plan). t.by_candidates) k in
          (omega (arith, r, usable.some_reports), omega (arith, q, usable.some_candidates));
      reports = ap (λ (t : plans.Plan). t.reports) k ∙ ap length (sym g);
      candidates = ap (λ (t : plans.Plan). t.candidates) k ∙ ap length (sym h);
    };
  }
