use Rattle.std.proofs.Common.{◌≡◌, ◌<◌, List, length, take}
use Rattle.std.specs.List.{All}
use Rattle.walk_definitions.specs.Reports.{Report}
use Rattle.pair_run.specs.Places.{picked}
use Rattle.pair_run.proofs.places.all_places.Given as goal

abbrev pub invariant-loop-k : goal.invariant-loop-k
invariant-loop-k l = record {
  front : (batch : List Report) → length batch ≡ l.count → picked batch l.live.items ≡ take l.k batch;
  places : All (λ k. k < l.count) l.live.items;
  count : length l.live.items ≡ l.k;
}
