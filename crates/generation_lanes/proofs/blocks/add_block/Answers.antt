use Rattle.std.proofs.Common.{◌++◌, sym, subst, ap, ◌∙◌, arith}
use Rattle.std.specs.List.{All}
use Rattle.std.proofs.lemmas.Result.{on_ok_weaker}
use Rattle.generation_lanes.specs.Growing.{IsWhole, zero_made, one_made}
use Rattle.std.proofs.Common.{map}
use Rattle.generation_lanes.proofs.LineSteps.{all_whole, zeros_made, ones_made}
use Rattle.generation_lanes.proofs.blocks.add_block.Goals as goal

pub finish_all-requires : goal.finish_all-requires
finish_all-requires c =
    subst (All IsWhole) (sym c.in_ok-lines.ensures)
    (all_whole c.args.master.now c.args.tag c.args.bits c.args.bits (omega arith) c.requires.width c.args.line c.args.strings.now c.requires.bits)

pub returns-clause-zeros : goal.returns-clause-zeros
returns-clause-zeros c =
    on_ok_weaker c.finish_all.result
    (λ e. e ∙ ap (λ ys. c.args.zeros.now.items ++ ys)
    (ap (map zero_made) c.in_ok-lines.ensures ∙ zeros_made c.args.master.now c.args.tag c.args.bits c.args.bits c.args.line c.args.strings.now))
    c.finish_all.ensures.zeros

pub returns-clause-ones : goal.returns-clause-ones
returns-clause-ones c =
    on_ok_weaker c.finish_all.result
    (λ e. e ∙ ap (λ ys. c.args.ones.now.items ++ ys)
    (ap (map one_made) c.in_ok-lines.ensures ∙ ones_made c.args.master.now c.args.tag c.args.bits c.args.bits c.args.line c.args.strings.now))
    c.finish_all.ensures.ones
