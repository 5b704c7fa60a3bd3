use Rattle.phase_sums.proofs.Sides.{run_whole}
use Rattle.phase_sums.proofs.running.both_phases.Goals as goal

pub returns-clause-zero : goal.returns-clause-zero
returns-clause-zero g c =
    run_whole c.args.zero.now c.copy.result c.in_ok-zeros.zeros c.args.workers _ (g.G.Gate.rule c.args.gate.now) c.run_both-zeros.result.0.done c.run_both-zeros.result.0.finished
    c.copy.ensures c.in_ok-zeros.ensures c.run_both-zeros.ensures.zero

pub returns-clause-one : goal.returns-clause-one
returns-clause-one g c =
    run_whole c.args.one.now c.copy-2.result c.in_ok-ones.ones c.args.workers _ (g.G.Gate.rule c.args.gate.now) c.run_both-zeros.result.1.done c.run_both-zeros.result.1.finished
    c.copy-2.ensures c.in_ok-ones.ensures c.run_both-zeros.ensures.one
