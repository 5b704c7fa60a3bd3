use Rattle.std.proofs.Common.{◌≡◌, ◌++◌, take, length}
use Rattle.kept_nodes.specs.Kept.{nodes_of}
use Rattle.kept_nodes.proofs.rows.add_rows.Given as goal

abbrev pub invariant-loop-place : goal.invariant-loop-place
invariant-loop-place l = record {
  found : length l.found ≡ length l.fn.found;
  wanted : length l.wanted ≡ length l.fn.wanted;
  parents : length l.parents ≡ length l.fn.parents;
  row : length l.row ≡ length l.fn.row;
  room : l.buffers ≡ l.fn.buffers;
  made : l.nodes.items ≡ l.fn.nodes.items ++ nodes_of l.shares l.fn.side l.line.prefixes.now (take l.place-index l.live);
}
