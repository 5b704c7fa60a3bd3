use Rattle.std.proofs.Common.{◌+◌, add-one, arith}
use Rattle.std.proofs.lemmas.List.{take_rest}
use Rattle.text_strings.specs.Lines.{lines_of}
use Rattle.text_strings.proofs.LineSteps.{lines_of-ended, lines_of-last}
use Rattle.text_strings.proofs.cuts.first_line.Goals as goal

pub returns-then-end-bytes-clause-lines : goal.returns-then-end-bytes-clause-lines
returns-then-end-bytes-clause-lines c =
    let end = c.line_end-end.result in
    rw (take_rest c.args.bytes.now (end + 1), add-one)
    (lines_of-ended c.args.bytes.now end c.if-end-bytes.true c.line_end-end.ensures.before (c.line_end-end.ensures.found c.if-end-bytes.true))

pub returns-else-end-bytes-clause-lines : goal.returns-else-end-bytes-clause-lines
unfolding lines_of
returns-else-end-bytes-clause-lines c =
    lines_of-last c.args.bytes.now c.requires (λ k l. c.line_end-end.ensures.before k (omega arith))
