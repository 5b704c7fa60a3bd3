use Rattle.std.proofs.Common.{◌∙◌, ◌++◌, ap}
use Rattle.phase_sums.proofs.Sides.{whole_totals}
use Rattle.phase_sums.proofs.totals.both_totals.Goals as goal

pub returns-clause-zero : goal.returns-clause-zero
returns-clause-zero g c =
    c.in_ok-extend_from_slice.ensures.items ∙ ap (λ l. l ++ c.totals.result.now) c.new-totals0.ensures.items
    ∙ whole_totals c.args.zero.now c.in_ok-zeros.zeros c.totals.result.now c.in_ok-zeros.ensures.zero c.requires.kinds.0 c.totals.ensures.plain

pub returns-clause-one : goal.returns-clause-one
returns-clause-one g c =
    c.in_ok-extend_from_slice-2.ensures.items ∙ ap (λ l. l ++ c.totals-2.result.now) c.new-totals1.ensures.items
    ∙ whole_totals c.args.one.now c.in_ok-zeros.ones c.totals-2.result.now c.in_ok-zeros.ensures.one c.requires.kinds.1 c.totals-2.ensures.plain
