use Rattle.std.proofs.Common.{rules, ◌≡◌, ◌≤◌, ◌-◌, arith}
use Rattle.tile_filling.proofs.tile_room.TileRoom.new.Goals as goal

pub returns : goal.returns
returns c =
    let reports : c.most_of-reports.result.0 ≤ c.in_ok-with_capacity.field-0.cap = search rules in
    let candidates : c.in_ok-vec.field-0.len ≡ c.most_of-reports.result.1 = search rules in
    λ k h. let w = c.most_of-reports.ensures.room k h in (omega (arith, w.0, reports), omega (arith, w.1, candidates))
