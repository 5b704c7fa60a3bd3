-- After the sweep: each tile once, and which tiles were swept.
use Rattle.std.proofs.Common.{◌≡◌, ℕ, ◌+◌, ◌<◌, ◌≤◌, ◌==◌, Bool, true, false, nat_lt, cond, List, [], ◌∷◌, ◌++◌, length, refl, ap, sym, ◌∙◌, subst, arith}
use Rattle.std.specs.Prelude.{IfSome, Option, Some, None}
use Rattle.std.specs.List.{AllByRecursion}
use Rattle.std.proofs.lemmas.List.{length-map}
use Rattle.std.proofs.lemmas.List.Elements.{filter-append}
use Rattle.std.proofs.lemmas.Bool.Decides.{nat_tests}
use Rattle.definitions.specs.declared.Side.{Side}
use Rattle.shelf_io.specs.Gates.{Rule}
use Rattle.turn_lock.specs.Logs.{entries_of}
use Rattle.tile_claims.specs.Lists.{Ascends, times, once_below}
use Rattle.tile_claims.specs.Plans.{tiles_of}
use Rattle.core_definitions.specs.Phase.{Posting}
use Rattle.phase_state.specs.declared.phase_plan.PlanSeen.{PlanSeen}
use Rattle.phase_state.specs.Logs.{posts, tiles_in, EachOnce, EachAtMostOnce}
use Rattle.phase_state.specs.Phases.{StateSeen}
use Rattle.phase_state.proofs.Marks.{nat_is, nat_is_not, below_is, below_not, posts_append}
use Rattle.phase_workers.specs.Gates.{tells_of, rule_of}
use Rattle.phase_workers.specs.Crews.{Worked, Swept, posted_by, IsRuled, IsRun}
use Rattle.turn_lock.specs.Seen.{LockId}
use Rattle.eval_cache.specs.declared.shard.ShardPlan.{ShardPlan}
use Rattle.phase_workers.specs.Seen.{crew_of}

-- no entry of a number that none has
none_of_number : (n : ℕ) (log : List Posting) → AllByRecursion (λ e. e.number < n) log → entries_of (λ e. e.number) n log ≡ []
none_of_number n [] h = refl
none_of_number n (e ∷ es) h = subst (λ b. cond b (e ∷ entries_of (λ z. z.number) n es) (entries_of (λ z. z.number) n es) ≡ []) (sym (nat_is_not e.number n (λ same. absurd (omega (arith, same, h.0))))) (none_of_number n es h.1)

-- all entries, where all have the number
all_of_number : (n : ℕ) (log : List Posting) → AllByRecursion (λ e. e.number ≡ n) log → entries_of (λ e. e.number) n log ≡ log
all_of_number n [] h = refl
all_of_number n (e ∷ es) h = subst (λ b. cond b (e ∷ entries_of (λ z. z.number) n es) (entries_of (λ z. z.number) n es) ≡ e ∷ es) (sym (nat_is e.number n h.0)) (ap (λ l. e ∷ l) (all_of_number n es h.1))

module _ (plan after : PlanSeen) (workers tiles passes swept : ℕ) (tells : Bool) (rule : ℕ → Bool) (log new : List Posting) (same_tiles : tiles ≡ tiles_of plan.tiles) (same_workers : passes ≡ workers)
    (same_plan : after ≡ plan) (w : Worked tells rule tiles passes log) (s : Swept workers (tiles_of plan.tiles) swept log new) (most : EachAtMostOnce (tiles_of after.tiles) new) where
  swept_are : entries_of (λ e. e.number) workers new ≡ s.more
  swept_are =
      ap (entries_of (λ e. e.number) workers) s.grew
      ∙ (filter-append (λ e. e.number == workers) log s.more
      ∙ (ap (λ l. l ++ entries_of (λ e. e.number) workers s.more) (none_of_number workers log (subst (λ n. AllByRecursion (λ e. e.number < n) log) same_workers w.few)) ∙ all_of_number workers s.more s.mine))

  -- every tile is posted once
  pub once : EachOnce (tiles_of plan.tiles) new
  once k = go (nat_lt k (tiles_of plan.tiles)) refl
    where
      low : posts k new ≤ once_below k (tiles_of plan.tiles)
      low = subst (λ (p : PlanSeen). posts k new ≤ once_below k (tiles_of p.tiles)) same_plan (most k)

      go : (b : Bool) → nat_lt k (tiles_of plan.tiles) ≡ b → posts k new ≡ once_below k (tiles_of plan.tiles)
      go true is = let less : k < tiles_of plan.tiles = grind (arith, nat_tests) in omega (arith, low, below_is k (tiles_of plan.tiles) less, s.all k less)
      go false is = let le : tiles_of plan.tiles ≤ k = grind (arith, nat_tests) in omega (arith, low, below_not k (tiles_of plan.tiles) le)

  pub swept_count : swept ≡ length (posted_by workers new)
  swept_count = sym (ap (λ l. length (tiles_in l)) swept_are ∙ (length-map s.more (λ e. e.tile) ∙ s.counted))

  pub swept_order : Ascends (posted_by workers new)
  swept_order = subst (λ l. Ascends (tiles_in l)) (sym swept_are) s.ascends

  pub by_rule : tells ≡ true → IsRuled rule plan workers new
  by_rule t k less = subst (λ l. times k (tiles_in l) ≡ cond (rule k) 1 0) (sym swept_are) (go (rule k) refl)
    where
      total : posts k log + posts k s.more ≡ 1
      total = sym (posts_append k log s.more) ∙ (ap (posts k) (sym s.grew) ∙ (once k ∙ below_is k (tiles_of plan.tiles) less))

      here : k < tiles
      here = subst (λ n. k < n) (sym same_tiles) less

      go : (b : Bool) → rule k ≡ b → posts k s.more ≡ cond b 1 0
      go true is = omega (arith, total, w.none t k is)
      go false is = omega (arith, total, w.there t k here is)

-- what holds where a gate tells, said of its rule
pub told : (rule : Option Rule) (side : Side) (plan : PlanSeen) (workers : ℕ) (log : List Posting) → (tells_of rule ≡ true → IsRuled (rule_of rule side) plan workers log)
    → IfSome rule (λ r. IsRuled (r side) plan workers log)
told None side plan workers log h = tt
told (Some r) side plan workers log h = h refl

-- what a run leaves, from what its parts tell
pub run_is : (plan : PlanSeen) (workers : ℕ) (cache : List (LockId ShardPlan)) (gate : Option Rule) (side : Side) (count claimed passes swept : ℕ) (log : List Posting) (finished : StateSeen)
    → side ≡ plan.side → count ≡ tiles_of plan.tiles → claimed ≡ tiles_of plan.tiles → passes ≡ workers → finished.plan ≡ plan
    → Worked (tells_of gate) (rule_of gate side) claimed passes log → Swept workers count swept log finished.log → EachAtMostOnce (tiles_of finished.plan.tiles) finished.log
    → IsRun (crew_of plan workers cache) gate (record { tiles = count; swept = swept }) finished
run_is plan workers cache gate side count claimed passes swept log finished same_side counted same_tiles same_workers same_plan w s most =
    let worked = subst (λ (a : Side). Worked (tells_of gate) (rule_of gate a) claimed passes log) same_side w in
    let sweep = subst (λ n. Swept workers n swept log finished.log) counted s in
    record {
      plan = same_plan;
      tiles = counted;
      all = once plan finished.plan workers claimed passes swept (tells_of gate) (rule_of gate plan.side) log finished.log same_tiles same_workers same_plan worked sweep most;
      swept = swept_count plan finished.plan workers claimed passes swept (tells_of gate) (rule_of gate plan.side) log finished.log same_tiles same_workers same_plan worked sweep most;
      order = swept_order plan finished.plan workers claimed passes swept (tells_of gate) (rule_of gate plan.side) log finished.log same_tiles same_workers same_plan worked sweep most;
      ruled = told gate plan.side plan workers finished.log
          (by_rule plan finished.plan workers claimed passes swept (tells_of gate) (rule_of gate plan.side) log finished.log same_tiles same_workers same_plan worked sweep most);
    }
