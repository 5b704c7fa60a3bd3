use Rattle.std.proofs.Common.{rules}
use Rattle.definitions.specs.Evaluation.{node}
use Rattle.idpf_lanes.proofs.Putting.{same_at_all}
use Rattle.idpf_lanes.proofs.found_nodes.put_found.Goals as goal

pub returns : goal.returns
returns c = record {
  nodes =
      same_at_all (node c.args.share.now c.args.side) c.args.prefixes.now c.loop-k.into c.loop-k.invariant.same
      (search (rules, c.loop-k.invariant.done));
}
