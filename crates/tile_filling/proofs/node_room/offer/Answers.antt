use Rattle.std.proofs.Common.{arith}
use Rattle.tile_filling.proofs.Nodes.{are_for}
use Rattle.tile_filling.proofs.node_room.offer.Goals as goal

pub scatter-requires-clause-nodes : goal.scatter-requires-clause-nodes
scatter-requires-clause-nodes g c = are_for c.args.cache.now.shares c.args.share.now c.args.cache.now.side c.args.block.now.side c.args.report c.requires.own c.requires.side _ _ _ (omega arith) c.requires.level c.requires.block.bits c.requires.nodes
