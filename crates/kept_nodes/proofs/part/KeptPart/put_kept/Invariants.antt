use Rattle.std.proofs.Common.{◌≡◌, length}
use Rattle.idpf_lanes.specs.Stands.{AreFound}
use Rattle.kept_nodes.specs.Kept.{share_at}
use Rattle.kept_nodes.proofs.part.KeptPart.put_kept.Given as goal

abbrev pub invariant-loop-k : goal.invariant-loop-k
invariant-loop-k l = record {
  same : length l.found ≡ length l.prefixes;
  found : AreFound (share_at l.fn.self.shares l.report) l.fn.self.side l.prefixes l.found;
}
