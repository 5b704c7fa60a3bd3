-- The stripes of a level, closed one after the other, and their logs joined.
use Rattle.std.proofs.Common.{◌≡◌, ℕ, ◌+◌, ◌<◌, ◌==◌, cond, List, [], ◌∷◌, ◌++◌, length, map, drop, get_or, refl, ap, sym, ◌∙◌, subst, arith}
use Rattle.std.proofs.lemmas.List.{append-nil, append_assoc, length-append}
use Rattle.std.proofs.lemmas.List.Concat.{flat_map-append}
use Rattle.std.proofs.lemmas.List.Sums.{sum_by-cons}
use mathlib.Core.Logic.{dite}
use native.Mathlib.Decide.{ℕ_discrete}
use Rattle.std.specs.List.{AllByRecursion, flat_map, range_with_len}
use Rattle.tile_claims.specs.Plans.{Plan}
use Rattle.turn_lock.specs.Seen.{LockId}
use Rattle.lock_row.specs.Rows.{plans_of}
use Rattle.lock_row.specs.Columns.{heads, tails, ClosedFirst}
use Rattle.core_definitions.specs.Phase.{Posting}
use Rattle.phase_state.specs.declared.phase_plan.PlanSeen.{PlanSeen}
use Rattle.phase_state.specs.Logs.{posts, tiles_in, AreApart}
use Rattle.phase_state.proofs.Marks.{nat_is_not}
use Rattle.level_totals.specs.declared.held_phase.StripePlan.{StripePlan}
use Rattle.level_totals.specs.Stripes.{HeldSeen, stripes_of, stripe_of, AreOfStripe, stripe_plan, plan_of}
use Rattle.level_totals.specs.Levels.{LevelPassSeen, IsStripeLog, AreStripeLogs, FromStripes}

-- ---- logs of stripes below one, and of that one

module _ (stripe : ℕ → ℕ) where
  abbrev Below : ℕ → List Posting → Type 0
  Below at log = AllByRecursion (λ e. stripe e.tile < at) log

  all_more : (F : Posting → Type 0) (xs ys : List Posting) → AllByRecursion F xs → AllByRecursion F ys → AllByRecursion F (xs ++ ys)
  all_more F [] ys f g = g
  all_more F (x ∷ xs) ys f g = (f.0, all_more F xs ys f.1 g)

  still_below : (at : ℕ) (log : List Posting) → Below at log → Below (at + 1) log
  still_below at [] h = tt
  still_below at (e ∷ es) h = (omega (arith, h.0), still_below at es h.1)

  below_next : (at : ℕ) (log : List Posting) → AllByRecursion (λ e. stripe e.tile ≡ at) log → Below (at + 1) log
  below_next at [] h = tt
  below_next at (e ∷ es) h = (omega (arith, h.0), below_next at es h.1)

  tile_below : (at k : ℕ) (log : List Posting) → Below at log → 0 < posts k log → stripe k < at
  tile_below at k [] h pos = absurd (omega (arith, pos))
  tile_below at k (e ∷ es) h pos =
      dite (ℕ_discrete e.tile k)
      (λ same. subst (λ j. stripe j < at) same h.0)
      (λ other. let z : ◌≡◌ {A = ℕ} (cond (e.tile == k) 1 0) 0 = rw (nat_is_not e.tile k other) refl in
      tile_below at k es h.1 (omega (arith, z, pos, sum_by-cons (λ (y : ℕ). cond (y == k) 1 0) e.tile (tiles_in es))))

  tile_not_there : (at k : ℕ) (log : List Posting) → AllByRecursion (λ e. stripe e.tile ≡ at) log → stripe k < at → posts k log ≡ 0
  tile_not_there at k [] h low = refl
  tile_not_there at k (e ∷ es) h low =
      dite (ℕ_discrete e.tile k)
      (λ same. absurd (omega (arith, ap stripe same, h.0, low)))
      (λ other. let z : ◌≡◌ {A = ℕ} (cond (e.tile == k) 1 0) 0 = rw (nat_is_not e.tile k other) refl in
      omega (arith, z, tile_not_there at k es h.1 low, sum_by-cons (λ (y : ℕ). cond (y == k) 1 0) e.tile (tiles_in es)))

  pub no_common_tile : (at : ℕ) (log new : List Posting) → Below at log → AllByRecursion (λ e. stripe e.tile ≡ at) new → AreApart log new
  no_common_tile at log new low there k pos = tile_not_there at k new there (tile_below at k log low pos)

-- the stripes below `at` are closed, and this is their logs joined; what is left of the passes is to close the others with
pub record Joined (plan : Plan) (passes : List LevelPassSeen) (at : ℕ) (left : List LevelPassSeen) (log : List Posting) : Type 0 where
  pub logs : List (List Posting)
  pub count : length logs ≡ at
  pub joined : log ≡ flat_map (λ l. l) logs
  pub low : AllByRecursion (λ e. stripe_of plan e.tile < at) log
  pub more : (rest : List (List Posting)) → AreStripeLogs plan at left rest → AreStripeLogs plan 0 passes (logs ++ rest)

pub none_joined : (plan : Plan) (passes : List LevelPassSeen) → Joined plan passes 0 passes []
none_joined plan passes = record { logs = []; count = refl; joined = refl; low = tt; more = λ rest h. h }

module _ (plan : Plan) (passes : List LevelPassSeen) (at : ℕ) (left : List LevelPassSeen) (log new : List Posting) where
  pub one_joined : Joined plan passes at left log → IsStripeLog plan at (heads left) new → Joined plan passes (at + 1) (tails left) (log ++ new)
  one_joined j is = record {
    logs = j.logs ++ new ∷ [];
    count = length-append j.logs (new ∷ []) ∙ ap (λ n. n + 1) j.count;
    joined = ap (λ l. l ++ new) j.joined
        ∙ sym (flat_map-append (λ (l : List Posting). l) j.logs (new ∷ []) ∙ ap (λ l. flat_map (λ (l : List Posting). l) j.logs ++ l) (append-nil new));
    low = all_more (stripe_of plan) (λ e. stripe_of plan e.tile < at + 1) log new (still_below (stripe_of plan) at log j.low) (below_next (stripe_of plan) at new is.tiles);
    more = λ rest h. subst (AreStripeLogs plan 0 passes) (sym (append_assoc j.logs (new ∷ []) rest)) (j.more (new ∷ rest) (is, h));
  }

pub all_joined : (plan : Plan) (passes : List LevelPassSeen) (at : ℕ) (left : List LevelPassSeen) (log : List Posting) → at ≡ stripes_of plan → Joined plan passes at left log
    → FromStripes plan passes log
all_joined plan passes at left log all j = record {
  logs = j.logs;
  count = j.count ∙ all;
  are = subst (AreStripeLogs plan 0 passes) (append-nil j.logs) (j.more [] tt);
  joined = j.joined;
}

-- the locks that are left hold the stripes from this one on
abbrev pub Left : PlanSeen → ℕ → List (LockId StripePlan) → Type 0
Left plan at locks = plans_of locks ≡ map (stripe_plan plan) (range_with_len at (length locks))

-- one lock more is closed
module _ (plan : PlanSeen) (passes : List LevelPassSeen) (at : ℕ) (rows : List LevelPassSeen) (log : List Posting) (locks left : List (LockId StripePlan)) (held : HeldSeen)
    (holds : Left plan at locks) (j : Joined plan.tiles passes at rows log)
    (closed : ClosedFirst plan_of (λ (h : HeldSeen). h.state.log) (λ (e : Posting). e.number) locks rows held left)
    (tiles : AreOfStripe held.state.plan.tiles held.stripe held.state.log) where
  here : Left plan at (closed.0 ∷ left)
  here = subst (Left plan at) closed.1 holds

  same : plan_of held ≡ stripe_plan plan at
  same = closed.2.planned ∙ ap (λ (ps : List StripePlan). get_or ps 0 (stripe_plan plan at)) here

  of_stripe : AreOfStripe plan.tiles at held.state.log
  of_stripe = subst (λ (p : StripePlan). AreOfStripe p.plan.tiles p.stripe held.state.log) same tiles

  pub others_left : Left plan (at + 1) left
  others_left = ap (drop 1) here

  pub same_plan : held.state.plan ≡ plan
  same_plan = ap (λ (p : StripePlan). p.plan) same

  pub are_apart : AreApart log held.state.log
  are_apart = no_common_tile (stripe_of plan.tiles) at log held.state.log j.low of_stripe

  pub next_joined : Joined plan.tiles passes (at + 1) (tails rows) (log ++ held.state.log)
  next_joined =
      one_joined plan.tiles passes at rows log held.state.log j
      (record { tiles = of_stripe; seen = closed.2.seen; own = closed.2.own; numbers = closed.2.numbers; entries = closed.2.entries })
