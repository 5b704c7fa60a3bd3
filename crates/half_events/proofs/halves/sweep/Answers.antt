use Rattle.std.proofs.Common.{sym, ◌∙◌, arith}
use Rattle.core_definitions.proofs.Hands.{unposted-some}
use Rattle.half_events.proofs.halves.sweep.Goals as goal

pub post_tile-requires-clause-tile : goal.post_tile-requires-clause-tile
post_tile-requires-clause-tile c =
    let found = unposted-some c.args.half.now.state.log 0 c.count-tiles.result c.in-Some.tile (sym c.lowest_unposted.ensures ∙ c.in-Some.is) in
    omega (arith, found.1, c.count-tiles.ensures)
