use Rattle.std.proofs.Common.{sym, subst}
use Rattle.definitions.specs.declared.Side.{Side}
use Rattle.definitions.specs.Evaluation.{Share}
use Rattle.idpf_lanes.specs.Stands.{AreFound}
use Rattle.kept_nodes.proofs.rows.row_of.Goals as goal

pub put_kept-requires-clause-found : goal.put_kept-requires-clause-found
put_kept-requires-clause-found c =
    let kept = c.args.before.now in
    subst (λ (s : Share). AreFound s kept.side c.args.line.now.fronts.now c.none_found.new.found) c.requires.own
    (subst (λ (x : Side). AreFound c.args.share.now x c.args.line.now.fronts.now c.none_found.new.found) c.requires.side c.none_found.ensures.found)

pub nodes_found-requires-clause-found : goal.nodes_found-requires-clause-found
nodes_found-requires-clause-found c =
    let kept = c.args.before.now in
    subst (λ (x : Side). AreFound c.args.share.now x c.args.line.now.fronts.now c.put_kept.new.found) (sym c.requires.side)
    (subst (λ (s : Share). AreFound s kept.side c.args.line.now.fronts.now c.put_kept.new.found) (sym c.requires.own) c.put_kept.ensures.found)
