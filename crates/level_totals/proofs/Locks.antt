-- The locks of a level's stripes: which of them holds which stripe.
use Rattle.std.proofs.Common.{◌≡◌, ℕ, zero, suc, ◌+◌, ◌<◌, List, [], ◌∷◌, ◌++◌, length, map, drop, get_or, refl, sym, ap, subst, ◌∙◌, arith}
use Rattle.std.specs.List.{AllByRecursion, range_with_len}
use Rattle.std.proofs.lemmas.List.{length-map, map-append}
use Rattle.std.proofs.lemmas.List.FromFn.{length-map-range_with_len, map-range_with_len_more}
use Rattle.tile_claims.specs.Plans.{Plan}
use Rattle.turn_lock.specs.Seen.{LockId}
use Rattle.turn_lock.specs.Places.{StandsAt}
use Rattle.lock_row.specs.Rows.{plans_of}
use Rattle.core_definitions.specs.Phase.{Posting}
use Rattle.phase_state.specs.declared.phase_plan.PlanSeen.{PlanSeen}
use Rattle.phase_state.specs.declared.posting.Posted.{Posted}
use Rattle.phase_state.specs.declared.posting.Posted.TheVariants.{Added, Repeat}
use Rattle.phase_state.specs.Logs.{posting, IsPosted}
use Rattle.level_totals.specs.declared.held_phase.StripePlan.{StripePlan}
use Rattle.level_totals.specs.Stripes.{HeldSeen, stripes_of, stripe_of, AreOfStripe, stripe_plan, stripe_plans, plan_of}

pub some_stripe : (plan : Plan) → 0 < stripes_of plan
some_stripe plan = omega arith

module _ (plan : PlanSeen) where
  -- one stripe more was made
  pub one_made : (made : List HeldSeen) (held : HeldSeen) (stripe : ℕ) → map plan_of made ≡ map (stripe_plan plan) (range_with_len 0 stripe)
      → plan_of held ≡ stripe_plan plan stripe → map plan_of (made ++ held ∷ []) ≡ map (stripe_plan plan) (range_with_len 0 (stripe + 1))
  one_made made held stripe all is =
      map-append plan_of made (held ∷ []) ∙ (λ i. all i ++ is i ∷ []) ∙ sym (map-range_with_len_more (stripe_plan plan) 0 stripe stripe (omega arith))

  -- as many locks as stripes
  pub lock_count : (locks : List (LockId StripePlan)) → plans_of locks ≡ stripe_plans plan → length locks ≡ stripes_of plan.tiles
  lock_count locks plans = sym (length-map locks (λ (lock : LockId StripePlan). lock.plan)) ∙ ap length plans ∙ length-map-range_with_len (stripe_plan plan) 0 (stripes_of plan.tiles)

  placed : (locks : List (LockId StripePlan)) (first n : ℕ) → plans_of locks ≡ map (stripe_plan plan) (range_with_len first n)
      → (place : ℕ) (lock : LockId StripePlan) → StandsAt locks place lock → lock.plan ≡ stripe_plan plan (first + place)
  placed [] first n h place lock e = cc
  placed (l ∷ ls) first zero h place lock e = absurd (omega (arith, ap length h))
  placed (l ∷ ls) first (suc n) h zero lock e =
      let same : l ≡ lock = cc in
      let at : first ≡ first + zero = omega arith in
      sym (ap (λ (x : LockId StripePlan). x.plan) same) ∙ ap (λ (ps : List StripePlan). get_or ps 0 (stripe_plan plan first)) h
      ∙ ap (stripe_plan plan) at
  placed (l ∷ ls) first (suc n) h (suc place) lock e =
      let at : first + 1 + place ≡ first + suc place = omega arith in
      placed ls (first + 1) n (ap (drop 1) h) place lock e ∙ ap (stripe_plan plan) at

  -- the lock at a place holds the stripe of that number
  pub held_is : (locks : List (LockId StripePlan)) (stripe : ℕ) (lock : LockId StripePlan) (held : HeldSeen) → plans_of locks ≡ stripe_plans plan
      → StandsAt locks stripe lock → plan_of held ≡ lock.plan → plan_of held ≡ stripe_plan plan stripe
  held_is locks stripe lock held plans at is =
      let start : 0 + stripe ≡ stripe = omega arith in
      is ∙ placed locks 0 (stripes_of plan.tiles) plans stripe lock at ∙ ap (stripe_plan plan) start

pub one_empty : (made : List HeldSeen) (held : HeldSeen) → AllByRecursion (λ h. h.state.log ≡ []) made → held.state.log ≡ [] → AllByRecursion (λ h. h.state.log ≡ []) (made ++ held ∷ [])
one_empty [] held all is = (is, tt)
one_empty (h ∷ hs) held all is = (all.0, one_empty hs held all.1 is)

-- a stripe's log after a post of one of its tiles
pub of_stripe_more : (plan : Plan) (stripe number tile : ℕ) (r : Posted) (old new : List Posting) → stripe_of plan tile ≡ stripe → IsPosted r number tile old new
    → AreOfStripe plan stripe old → AreOfStripe plan stripe new
of_stripe_more plan stripe number tile Added old new own h all = subst (AreOfStripe plan stripe) (sym h.1) (push old all)
  where
    push : (log : List Posting) → AreOfStripe plan stripe log → AreOfStripe plan stripe (log ++ posting number tile ∷ [])
    push [] a = (own, tt)
    push (e ∷ es) a = (a.0, push es a.1)
of_stripe_more plan stripe number tile Repeat old new own h all = subst (AreOfStripe plan stripe) (sym h.1) all
