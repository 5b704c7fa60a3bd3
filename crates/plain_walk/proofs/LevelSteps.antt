-- What the functions of one level cite: each result by the definition of its name.
use Rattle.std.proofs.Common.{◌≡◌, ℕ, Bool, List, sym, ◌∙◌, ap}
use Rattle.std.specs.Prelude.{map}
use Rattle.std.specs.List.{filter}
use Rattle.definitions.specs.declared.Side.{Side}
use Rattle.definitions.specs.Evaluation.{Share}
use Rattle.definitions.specs.Sketch.{Sums, Triple, coin_key, coin_at, correlation, partial_sums, masked}
use Rattle.definitions.specs.Check.{values_d, values_e}
use Rattle.walk_definitions.specs.Reports.{Report, held}
use Rattle.walk_definitions.specs.Walk.{Settings, own_sums, passes, total}
use Rattle.frontier_walk.specs.Frontiers.{Frontier}
use Rattle.frontier_walk.specs.Outcomes.{Outcome, pruned, IsCause}
use Rattle.frontier_walk.specs.declared.outcomes.PruneError.{PruneError}
use Rattle.frontier_walk.specs.declared.outcomes.PruneError.TheVariants.{Cap, Memory}
use Rattle.plain_walk.specs.Chosen.{chosen}
use Rattle.plain_walk.specs.Levels.{live_next, outcome_at, IsCappedBy}

module _ (level : ℕ) (qs : List (List Bool)) (side : Side) where
  abbrev summed : List ℕ → Share → List ℕ → Sums
  summed key share corr = masked (partial_sums (coin_at key level) (values_d share side qs) (values_e share side qs)) (correlation corr level)

  pub own_sums-is : (settings : Settings) (report : Report) (verify id key corr : List ℕ) (share : Share) (partial result : Sums) (triple : Triple)
      → verify ≡ settings.verify → id ≡ report.id → key ≡ coin_key verify id → share ≡ held report side → corr ≡ share.corr
      → partial ≡ partial_sums (coin_at key level) (values_d share side qs) (values_e share side qs) → triple ≡ correlation corr level
      → result ≡ masked partial triple → result ≡ own_sums settings level qs side report
  own_sums-is settings report verify id key corr share partial result triple v i k s c p t r =
      r ∙ ap (λ sums. masked sums triple) p
      ∙ ap (masked (partial_sums (coin_at key level) (values_d share side qs) (values_e share side qs))) t
      ∙ ap (λ key. summed key share corr) (k ∙ ap (λ verify. coin_key verify id) v ∙ ap (coin_key settings.verify) i)
      ∙ ap (summed (coin_key settings.verify report.id) share) c
      ∙ ap (λ share. summed (coin_key settings.verify report.id) share share.corr) s

module _ (settings : Settings) (batch : List Report) (frontier : Frontier) where
  -- the flags after the check choose the reports that are live after the level
  pub live-is : (alive before next : List Bool) (level : ℕ) (qs : List (List Bool)) → level ≡ frontier.level → qs ≡ frontier.candidates → before ≡ alive
      → chosen next batch ≡ filter (passes settings level qs) (chosen before batch)
      → chosen next batch ≡ live_next settings (chosen alive batch) frontier
  live-is alive before next level qs l q b h =
      h ∙ ap (λ bs. filter (passes settings level qs) (chosen bs batch)) b
      ∙ ap (λ qs. filter (passes settings level qs) (chosen alive batch)) q
      ∙ ap (λ l. filter (passes settings l frontier.candidates) (chosen alive batch)) l

  -- pruning by the totals over these gives what follows the level
  pub outcome-is : (live : List Report) (still next : List Bool) (qs : List (List Bool)) (ns : List ℕ) (threshold : ℕ) → threshold ≡ settings.threshold
      → qs ≡ frontier.candidates → still ≡ next → chosen next batch ≡ live_next settings live frontier → ns ≡ map (total (chosen still batch)) qs
      → pruned frontier ns threshold ≡ outcome_at settings live frontier
  outcome-is live still next qs ns threshold t q s l n =
      ap (pruned frontier ns) t ∙ ap (λ ns. pruned frontier ns settings.threshold)
      (n ∙ ap (λ bs. map (total (chosen bs batch)) qs) s ∙ ap (map (total (chosen next batch))) q
      ∙ ap (λ rs. map (total rs) frontier.candidates) l)

pub capped-by : (outcome other : Outcome) (e : PruneError) → outcome ≡ other → IsCause outcome e → IsCappedBy other e
capped-by outcome other (Cap level wanted) same is = sym same ∙ is
capped-by outcome other Memory same is = tt
