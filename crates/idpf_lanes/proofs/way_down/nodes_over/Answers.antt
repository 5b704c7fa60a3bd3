use Rattle.std.proofs.Common.{rules, arith, ◌≡◌, ◌∙◌, take, subst}
use Rattle.definitions.specs.Evaluation.{node}
use Rattle.idpf_lanes.specs.Stands.{Stand}
use Rattle.idpf_lanes.proofs.Standing.{stand_first, all_placed}
use Rattle.idpf_lanes.proofs.way_down.nodes_over.Goals as goal

pub loop-depth-init : goal.loop-depth-init
loop-depth-init c = record {
  stand =
      stand_first c.args.share.now c.args.side c.args.prefixes.now c.args.nodes.now c.stand_first.new.places c.root.result c.root.ensures.value c.requires.some
      (c.stand_first.ensures.same ∙ c.requires.places) c.stand_first.ensures.first;
  count = search rules;
  nodes = search rules;
  next = search rules;
  steps = search rules;
  places = c.stand_first.ensures.same ∙ c.requires.places;
  seeds = search rules;
}

pub returns-clause-nodes : goal.returns-clause-nodes
returns-clause-nodes c =
    let depth : c.loop-depth.depth ≡ c.args.level = omega arith in
    let stand = subst (λ d. Stand c.args.share.now c.args.side d c.args.prefixes.now (take c.loop-depth.count c.loop-depth.nodes) c.loop-depth.places) depth c.loop-depth.invariant.stand in
    c.place.ensures.placed
    ∙ all_placed (node c.args.share.now c.args.side) c.args.level c.args.prefixes.now (take c.loop-depth.count c.loop-depth.nodes) c.loop-depth.places
    c.loop-depth.invariant.places c.requires.bits stand.own
