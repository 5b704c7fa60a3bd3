-- The plain sums and totals of a phase, and what its run leaves.
use Rattle.std.proofs.Common.{◌≡◌, ℕ, ◌<◌, List, length, get_or, map, refl, sym, ◌∙◌, ap, subst, arith, Option}
use Rattle.std.proofs.lemmas.List.{get_or-map, get_or_read, length-map}
use Rattle.definitions.specs.Evaluation.{Share}
use Rattle.definitions.specs.Sketch.{Sums, coin, correlation, masked, partial_sums}
use Rattle.definitions.specs.Check.{values_d, values_e}
use Rattle.shelf_io.specs.Gates.{Rule}
use Rattle.tile_claims.specs.Plans.{tiles_of}
use Rattle.core_definitions.specs.Phase.{no_share}
use Rattle.core_definitions.specs.Tiles.{plain_sums as sums_over, plain_totals as totals_over}
use Rattle.phase_state.specs.declared.kind.Kind.TheVariants.{Sketch, Totals}
use Rattle.phase_state.specs.declared.phase_plan.PlanSeen.{PlanSeen}
use Rattle.phase_state.specs.Sums.{share_at, live_shares, plain_sums, plain_totals}
use Rattle.phase_state.specs.Logs.{EachOnce}
use Rattle.phase_state.specs.Phases.{StateSeen}
use Rattle.phase_workers.specs.declared.phase.Done.{Done}
use Rattle.phase_workers.specs.Crews.{IsRun}
use Rattle.turn_lock.specs.Seen.{LockId}
use Rattle.eval_cache.specs.declared.shard.ShardPlan.{ShardPlan}
use Rattle.phase_workers.specs.Seen.{CrewSeen, crew_of}
use Rattle.phase_sums.specs.SideSums.{hidden_sum, live_totals, IsWhole}

-- a share's sums before they are hidden
abbrev plain_sum : PlanSeen → Share → Sums
plain_sum plan share =
    partial_sums (coin plan.verify share.id plan.level) (values_d share plan.side plan.candidates) (values_e share plan.side plan.candidates)

plain_sums_are : (plan : PlanSeen) → plain_sums plan ≡ map (plain_sum plan) (live_shares plan)
unfolding sums_over
plain_sums_are plan = refl

plain_totals_are : (plan : PlanSeen) → plain_totals plan ≡ live_totals plan
unfolding totals_over
plain_totals_are plan = refl

-- there is a sum for each live report
pub plain_count : (plan : PlanSeen) (sums : List Sums) → sums ≡ plain_sums plan → length sums ≡ length plan.live
plain_count plan sums e =
    ap length (e ∙ plain_sums_are plan) ∙ length-map (live_shares plan) (plain_sum plan) ∙ length-map plan.live (share_at plan.shares)

-- the sum at a place, hidden by the share of that place
pub hidden_at : (plan : PlanSeen) (sums : List Sums) (i place : ℕ) (share : Share) (sum : Sums) → sums ≡ plain_sums plan
    → i < length plan.live → place ≡ get_or plan.live i place → place < length plan.shares → share ≡ get_or plan.shares place share
    → sum ≡ get_or sums i sum → masked sum (correlation share.corr plan.level) ≡ hidden_sum plan share
hidden_at plan sums i place share sum e below at within is found =
    let many : i < length (live_shares plan) = omega (arith, below, length-map plan.live (share_at plan.shares)) in
    let live : get_or (live_shares plan) i no_share ≡ share =
    get_or-map (share_at plan.shares) plan.live i place no_share below ∙ ap (share_at plan.shares) (sym at)
    ∙ sym (get_or_read plan.shares place share within is no_share) in
    let plain : sum ≡ plain_sum plan share =
    found ∙ ap (λ (l : List Sums). get_or l i sum) (e ∙ plain_sums_are plan) ∙ get_or-map (plain_sum plan) (live_shares plan) i no_share sum many
    ∙ ap (plain_sum plan) live in
    ap (λ s. masked s (correlation share.corr plan.level)) plain

-- a crew's run of a plan leaves the whole phase
pub run_whole : (plan copy : PlanSeen) (crew : CrewSeen) (workers : ℕ) (cache : List (LockId ShardPlan)) (gate : Option Rule) (done : Done) (finished : StateSeen) → copy ≡ plan
    → crew ≡ crew_of copy workers cache → IsRun crew gate done finished → IsWhole plan finished
run_whole plan copy crew workers cache gate done finished same is run =
    let plan_is : crew.plan ≡ plan = ap (λ (c : CrewSeen). c.plan) is ∙ same in
    record {
      plan_is = run.plan ∙ plan_is;
      each = subst (λ (p : PlanSeen). EachOnce (tiles_of p.tiles) finished.log) plan_is run.all;
    }

-- what a whole phase gives
pub whole_sums : (plan : PlanSeen) (finished : StateSeen) (sums : List Sums) → IsWhole plan finished → plan.kind ≡ Sketch
    → (EachOnce (tiles_of finished.plan.tiles) finished.log → finished.plan.kind ≡ Sketch → sums ≡ plain_sums finished.plan) → sums ≡ plain_sums plan
whole_sums plan finished sums whole kind plain =
    plain (subst (λ (p : PlanSeen). EachOnce (tiles_of p.tiles) finished.log) (sym whole.plan_is) whole.each) (ap (λ (p : PlanSeen). p.kind) whole.plan_is ∙ kind)
    ∙ ap plain_sums whole.plan_is

pub whole_totals : (plan : PlanSeen) (finished : StateSeen) (totals : List ℕ) → IsWhole plan finished → plan.kind ≡ Totals
    → (EachOnce (tiles_of finished.plan.tiles) finished.log → finished.plan.kind ≡ Totals → totals ≡ plain_totals finished.plan) → totals ≡ live_totals plan
whole_totals plan finished totals whole kind plain =
    plain (subst (λ (p : PlanSeen). EachOnce (tiles_of p.tiles) finished.log) (sym whole.plan_is) whole.each) (ap (λ (p : PlanSeen). p.kind) whole.plan_is ∙ kind)
    ∙ ap plain_totals whole.plan_is ∙ plain_totals_are plan
