use Rattle.std.proofs.Common.{◌≡◌, ◌≤◌, [], map, vec_len, vec_capacity}
use Rattle.std.specs.List.{AllByRecursion, range_with_len}
use Rattle.level_totals.specs.Stripes.{stripe_plan, plan_of}
use Rattle.level_totals.proofs.held_phase.empty_stripes.Given as goal

abbrev pub invariant-loop-stripe : goal.invariant-loop-stripe
invariant-loop-stripe l =
    (vec_len l.made ≡ l.stripe) × (l.stripes ≤ vec_capacity l.made)
    × (map plan_of l.made.items ≡ map (stripe_plan l.plan) (range_with_len 0 l.stripe))
    × AllByRecursion (λ held. held.state.log ≡ []) l.made.items
