-- Each tile of a side is posted exactly where no lowest one is left.
use Rattle.std.proofs.Common.{◌≡◌, ℕ, zero, suc, ◌<◌, ◌≤◌, Option, Some, None, refl, sym, ◌∙◌, ap, inl, inr, arith}
use Rattle.std.proofs.lemmas.Bool.{cases_lt}
use Rattle.definitions.specs.declared.Side.{Side}
use Rattle.tile_claims.specs.Plans as plans
use Rattle.core_definitions.specs.Phase as phase
use Rattle.core_definitions.specs.Phase.{CoreSettings, Phase, first_unposted, unposted, posted_count}
use Rattle.core_definitions.specs.Tiles.{tiles}
use Rattle.core_definitions.proofs.Hands.{unposted-some, unposted-none}
use Rattle.phase_state.specs.Logs.{EachOnce}
use Rattle.half_events.specs.declared.halves.Half.{Half}
use Rattle.half_events.specs.Halves.{IsHalf}
use Rattle.half_events.proofs.Sides.{tiles-are}
use Rattle.half_events.proofs.Workers.{posts-is}
use Rattle.phase_state.proofs.Marks.{below_is, below_not}

module _ (core : CoreSettings) (p : Phase) (side : Side) (h : Half) (is : IsHalf core p side h) where
  count-is : plans.tiles_of h.state.plan.tiles ≡ tiles (phase.plan_of core p)
  count-is = ap (λ plan. plans.tiles_of plan.tiles) is.same ∙ tiles-are core p side h.plan is.plan

  pub none-left : EachOnce (plans.tiles_of h.state.plan.tiles) h.state.log → first_unposted core p h.state.log ≡ None
  unfolding first_unposted
  none-left each = at (unposted h.state.log 0 (tiles (phase.plan_of core p))) refl
    where
      at : (o : Option ℕ) → unposted h.state.log 0 (tiles (phase.plan_of core p)) ≡ o → o ≡ None
      at None e = refl
      at (Some k) e =
          let some = unposted-some h.state.log 0 (tiles (phase.plan_of core p)) k e in
          let low : k < plans.tiles_of h.state.plan.tiles = omega (arith, some.1, count-is) in
          let once = each k ∙ below_is k (plans.tiles_of h.state.plan.tiles) low in
          absurd (omega (arith, once, posts-is k h.state.log, some.0))

  pub all-there : first_unposted core p h.state.log ≡ None → EachOnce (plans.tiles_of h.state.plan.tiles) h.state.log
  unfolding first_unposted
  all-there none k = elim (cases_lt k (plans.tiles_of h.state.plan.tiles)) [
    | inl low ↦
        let some = unposted-none h.state.log 0 (tiles (phase.plan_of core p)) none k (omega arith) (omega (arith, low, count-is)) in
        posts-is k h.state.log ∙ omega (arith, some, is.kept.once k) ∙ sym (below_is k (plans.tiles_of h.state.plan.tiles) low)
    | inr high ↦
        posts-is k h.state.log ∙ zero_of (posted_count k h.state.log) (λ some. let l = is.kept.posted_low k some in omega (arith, l.0, high, count-is))
        ∙ sym (below_not k (plans.tiles_of h.state.plan.tiles) high)
  ]
    where
      zero_of : (n : ℕ) → (1 ≤ n → ⊥) → n ≡ 0
      zero_of zero none = refl
      zero_of (suc n) none = absurd (none (omega arith))
