use Rattle.file_run.proofs.ReadSteps.{zero_stops, one_stops, widths_stop}
use Rattle.file_run.proofs.both_files.collect_both.Goals as goal

pub returns-in-Err-collect_side-clause-stops : goal.returns-in-Err-collect_side-clause-stops
returns-in-Err-collect_side-clause-stops g c =
    zero_stops (g.H.Shelf.files c.args.shelf.now) c.args.zero.now c.args.one.now c.in-Err-collect_side.error c.in-Err-collect_side.ensures.stops

pub returns-in-Err-collect_side-2-clause-stops :
    goal.returns-in-Err-collect_side-2-clause-stops
returns-in-Err-collect_side-2-clause-stops g c =
    let zeros = c.in-Ok-collect_side.ensures in
    one_stops (g.H.Shelf.files c.args.shelf.now) _ c.args.zero.now c.args.one.now zeros.read.lists c.in-Err-collect_side-2.error zeros.kept zeros.read.exact
    c.in-Err-collect_side-2.ensures.stops

pub returns-then-zeros-ones-clause-stops : goal.returns-then-zeros-ones-clause-stops
returns-then-zeros-ones-clause-stops g c =
    let zeros = c.in-Ok-collect_side.ensures in
    let ones = c.in-Ok-collect_side-2.ensures in
    widths_stop (g.H.Shelf.files c.args.shelf.now) _ c.args.zero.now c.args.one.now zeros.read.lists ones.read.lists _ _ zeros.read.wide ones.read.wide
    zeros.kept zeros.read.exact ones.read.exact c.if-zeros-ones.true
