use Rattle.std.proofs.Common.{◌≡◌, take, length, vec_capacity}
use Rattle.tile_filling.specs.Blocks.{report_sums}
use Rattle.tile_filling.proofs.filling.fill_sums.Given as goal

abbrev pub invariant-loop-place : goal.invariant-loop-place
invariant-loop-place g l = record {
  mine : l.pass ≡ l.cache.locks;
  room : l.room ≡ l.fn.room;
  nodes : length l.nodes ≡ length l.fn.nodes;
  drawn : length l.drawn ≡ length l.fn.drawn;
  reports : vec_capacity l.sums ≡ vec_capacity l.fn.sums;
  made : l.sums.items ≡ report_sums l.block.side l.block.verify l.block.level l.block.first l.block.candidates.now l.block.shares.now (take l.place-index l.block.live.now);
}
