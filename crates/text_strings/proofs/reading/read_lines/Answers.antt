use Rattle.text_strings.specs.Lines.{lines_of}
use Rattle.text_strings.proofs.StringLaws.{strings_of_lines_are_whole}
use Rattle.text_strings.proofs.reading.read_lines.Goals as goal

pub returns-clause-whole : goal.returns-clause-whole
returns-clause-whole c =
    rw c.in_ok-strings_of.ensures (strings_of_lines_are_whole c.args.width (lines_of c.args.bytes.now) c.in_ok-check_lines.ensures)
