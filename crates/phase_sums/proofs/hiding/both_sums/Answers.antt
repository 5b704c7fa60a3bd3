use Rattle.phase_sums.proofs.Sides.{plain_count, whole_sums}
use Rattle.phase_sums.proofs.hiding.both_sums.Goals as goal

pub hidden-requires-clause-count : goal.hidden-requires-clause-count
hidden-requires-clause-count g c =
    plain_count c.args.zero.now c.sums.result.now
    (whole_sums c.args.zero.now c.in_ok-zeros.zeros c.sums.result.now c.in_ok-zeros.ensures.zero c.requires.kinds.0 c.sums.ensures.plain)

pub hidden-requires-2-clause-count : goal.hidden-requires-2-clause-count
hidden-requires-2-clause-count g c =
    plain_count c.args.one.now c.sums-2.result.now
    (whole_sums c.args.one.now c.in_ok-zeros.ones c.sums-2.result.now c.in_ok-zeros.ensures.one c.requires.kinds.1 c.sums-2.ensures.plain)
