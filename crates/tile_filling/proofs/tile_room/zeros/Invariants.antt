use Rattle.std.proofs.Common.{◌≡◌, take, map, vec_capacity}
use Rattle.std.specs.Prelude.{List, Bool}
use Rattle.tile_filling.proofs.tile_room.zeros.Given as goal

abbrev pub invariant-loop-prefix : goal.invariant-loop-prefix
invariant-loop-prefix l = record {
  room : vec_capacity l.totals ≡ vec_capacity l.fn.totals;
  made : l.totals.items ≡ map (λ (q : List Bool). 0) (take l._prefix-index l.candidates);
}
