use Rattle.std.proofs.Common.{◌∙◌, ap}
use Rattle.prefix_bits.specs.Bits.{bits_of_bytes}
use Rattle.text_strings.proofs.LineSteps.{take-padded}
use Rattle.workload.proofs.making.padded_string.Goals as goal

pub returns : goal.returns
returns c =
    c.of_bytes.ensures
    ∙ rw (c.from.ensures, c.copy_from_slice.ensures.after)
    (ap bits_of_bytes (take-padded 32 c.args.width c.args.line.now c.requires.fits c.requires.most))
