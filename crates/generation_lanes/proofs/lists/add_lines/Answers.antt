use Rattle.std.proofs.Common.{◌≡◌, ◌+◌, ◌-◌, take, drop, refl, ap, ◌∙◌, arith}
use Rattle.std.proofs.lemmas.Result.{on_ok_weaker}
use Rattle.idpf_gen.specs.Made.{zero_share, one_share}
use Rattle.generation_lanes.proofs.LineSteps.{lines_more}
use Rattle.generation_lanes.proofs.lists.add_lines.Goals as goal

pub returns-clause-zeros : goal.returns-clause-zeros
returns-clause-zeros c =
    let a = c.args in
    let count : a.at + a.count - a.at ≡ a.count = omega arith in
    on_ok_weaker c.add_block.result
    (λ e. e ∙ lines_more (zero_share a.master.now a.tag) a.strings.now (take (a.at + a.count - a.at) (drop a.at a.strings.now)) a.line a.at a.count (a.line + a.at)
    a.zeros.now.items c.requires.place refl (ap (λ n. take n (drop a.at a.strings.now)) count) c.requires.zeros)
    c.add_block.ensures.zeros

pub returns-clause-ones : goal.returns-clause-ones
returns-clause-ones c =
    let a = c.args in
    let count : a.at + a.count - a.at ≡ a.count = omega arith in
    on_ok_weaker c.add_block.result
    (λ e. e ∙ lines_more (one_share a.master.now a.tag) a.strings.now (take (a.at + a.count - a.at) (drop a.at a.strings.now)) a.line a.at a.count (a.line + a.at)
    a.ones.now.items c.requires.place refl (ap (λ n. take n (drop a.at a.strings.now)) count) c.requires.ones)
    c.add_block.ensures.ones
