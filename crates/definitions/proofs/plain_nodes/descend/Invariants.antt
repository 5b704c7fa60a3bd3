use Rattle.std.proofs.Common.{◌≡◌, drop}
use Rattle.definitions.specs.Evaluation.{descend}
use Rattle.definitions.proofs.plain_nodes.descend.Given as goal

abbrev pub invariant-loop-place : goal.invariant-loop-place
invariant-loop-place l = record {
  value : descend (drop l.place l.words) l.side l.reached (drop l.place l.bits) ≡ descend l.words l.side l.node l.bits;
}
