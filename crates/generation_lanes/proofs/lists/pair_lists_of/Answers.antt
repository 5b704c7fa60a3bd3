use Rattle.std.proofs.Common.{arith}
use Rattle.idpf_gen.specs.Made.{zero_share, one_share}
use Rattle.generation_lanes.proofs.LineSteps.{counted}
use Rattle.generation_lanes.proofs.lists.pair_lists_of.Goals as goal

pub returns-clause-counts : goal.returns-clause-counts
returns-clause-counts c =
    let a = c.args in (
      counted (zero_share a.master.now a.tag) c.add_lines-2.new.zeros.items a.line _ a.strings.now c.in_ok-add_lines-2.ensures.zeros (omega arith),
      counted (one_share a.master.now a.tag) c.add_lines-2.new.ones.items a.line _ a.strings.now c.in_ok-add_lines-2.ensures.ones (omega arith),
    )
