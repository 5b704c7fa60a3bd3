use Rattle.std.proofs.Common.{◌≡◌, ◌++◌, length, map, take, drop}
use Rattle.definitions.specs.Field.{add}
use Rattle.walk_definitions.specs.Heard.{paired}
use Rattle.tile_filling.proofs.adding.add_values.Given as goal

abbrev pub invariant-loop-place : goal.invariant-loop-place
invariant-loop-place l = record {
  same : length l.totals ≡ length l.fn.totals;
  added : take l.place l.totals ++ paired add (drop l.place l.totals) (map (λ n. n.d) (drop l.place l.nodes)) ≡ paired add l.fn.totals (map (λ n. n.d) l.nodes);
}
