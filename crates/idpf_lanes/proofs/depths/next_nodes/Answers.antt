use Rattle.std.proofs.Common.{rules, arith, ◌≤◌, length}
use Rattle.node_growth.specs.Steps.{child_of}
use Rattle.idpf_lanes.proofs.Standing.{stand_more, made_first}
use Rattle.idpf_lanes.proofs.depths.next_nodes.Goals as goal

pub returns-clause-stand : goal.returns-clause-stand
returns-clause-stand c =
    let steps = c.plan_steps-made.new.steps in
    let word = c.index-as_slice-from.result in
    let few : c.plan_steps-made.result ≤ length steps = omega (arith, c.plan_steps-made.ensures.planned.few) in
    stand_more c.args.share.now c.args.side c.args.depth (length c.args.nodes.now) c.args.prefixes.now c.args.nodes.now _ c.args.places.now c.plan_steps-made.new.places steps
    c.plan_steps-made.result word c.requires.stand c.plan_steps-made.ensures.planned c.requires.longer c.requires.level (search rules) few
    (made_first (child_of word c.args.side c.args.nodes.now) steps c.grow.new.into c.plan_steps-made.result few c.grow.ensures.nodes)
