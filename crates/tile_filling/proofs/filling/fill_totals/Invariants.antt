use Rattle.std.proofs.Common.{◌≡◌, take, length}
use Rattle.tile_filling.specs.Blocks.{report_totals}
use Rattle.tile_filling.proofs.filling.fill_totals.Given as goal

abbrev pub invariant-loop-place : goal.invariant-loop-place
invariant-loop-place g l = record {
  mine : l.pass ≡ l.cache.locks;
  room : l.room ≡ l.fn.room;
  nodes : length l.nodes ≡ length l.fn.nodes;
  made : l.totals ≡ report_totals l.block.side l.block.candidates.now l.block.shares.now (take l.place-index l.block.live.now);
}
