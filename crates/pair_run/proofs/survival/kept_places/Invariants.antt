use Rattle.std.proofs.Common.{◌≡◌, ◌<◌, ◌≤◌, ℕ, List, ◌++◌, length, drop}
use Rattle.std.specs.List.{All}
use Rattle.walk_definitions.specs.Reports.{Report}
use Rattle.walk_definitions.specs.Heard.{kept}
use Rattle.pair_run.specs.Places.{picked}
use Rattle.pair_run.proofs.survival.kept_places.Given as goal

abbrev pub invariant-loop-k : goal.invariant-loop-k
invariant-loop-k l = record {
  kept : (batch : List Report) → All (λ k. k < length batch) l.live
      → picked batch l.still.items ++ kept (picked batch (drop l.k l.live)) (drop l.k l.numbers) ≡ kept (picked batch l.live) l.numbers;
  among : (n : ℕ) → All (λ k. k < n) l.live → All (λ k. k < n) l.still.items;
  most : length l.still.items ≤ l.k;
}
