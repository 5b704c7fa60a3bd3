use Rattle.tile_filling.proofs.Nodes.{kept_own, found_kept}
use Rattle.tile_filling.proofs.node_room.through_fronts.Goals as goal

pub put_kept-requires-clause-found : goal.put_kept-requires-clause-found
put_kept-requires-clause-found g c =
    found_kept c.args.cache.now.shares c.args.share.now c.args.cache.now.side c.args.block.now.side c.args.report c.requires.own c.requires.side
    c.kept.result.now.shares c.kept.result.now.side c.kept.ensures.shares c.kept.ensures.side _ _ c.gather-pass.ensures.found

pub nodes_found-requires-clause-found : goal.nodes_found-requires-clause-found
nodes_found-requires-clause-found g c =
    kept_own c.args.cache.now.shares c.args.share.now c.args.cache.now.side c.args.block.now.side c.args.report c.requires.own c.requires.side
    c.kept.result.now.shares c.kept.result.now.side c.kept.ensures.shares c.kept.ensures.side _ _ c.put_kept.ensures.found
