use Rattle.std.proofs.Common.{◌+◌, ◌∙◌, take}
use Rattle.definitions.specs.Evaluation.{node}
use Rattle.idpf_lanes.proofs.Standing.{all_placed}
use Rattle.idpf_lanes.proofs.next_depth.children_over.Goals as goal

pub returns-clause-nodes : goal.returns-clause-nodes
returns-clause-nodes c =
    c.place.ensures.placed
    ∙ all_placed (node c.args.share.now c.args.side) (c.args.depth + 1) c.args.prefixes.now (take c.next_nodes-made.result c.next_nodes-made.new.next) c.next_nodes-made.new.places
    c.next_nodes-made.ensures.places c.requires.bits c.next_nodes-made.ensures.stand.own
