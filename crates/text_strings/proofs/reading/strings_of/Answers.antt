use Rattle.std.proofs.Common.{◌≡◌, ◌++◌, ◌∙◌, length, map, sym, ap, arith}
use Rattle.std.proofs.lemmas.List.{append-nil}
use Rattle.text_strings.specs.Lines.{string_of}
use Rattle.text_strings.proofs.LineSteps.{lines_of-nil}
use Rattle.text_strings.proofs.reading.strings_of.Goals as goal

pub returns : goal.returns
returns c =
    let none : length c.loop-rest.rest.now ≡ 0 = grind arith in
    sym (append-nil c.loop-rest.found.items)
    ∙ ap (λ lines. c.loop-rest.found.items ++ map (string_of c.args.width) lines) (sym (lines_of-nil c.loop-rest.rest.now none))
    ∙ c.loop-rest.invariant.strings
