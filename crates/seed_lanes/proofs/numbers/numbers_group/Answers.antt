use Rattle.std.proofs.Common.{rules, ◌≡◌, ◌-◌, ◌+◌, ◌∙◌, ◌++◌, ap, length, arith}
use Rattle.std.proofs.lemmas.Slice.{take-put_mid}
use Rattle.seed_lanes.specs.Blocks.{numbers_of}
use Rattle.seed_lanes.proofs.LaneLaws.{group_more}
use Rattle.seed_lanes.proofs.numbers.numbers_group.Goals as goal

pub returns-clause-after : goal.returns-clause-after
returns-clause-after c =
    let long : length c.copy_from_slice-2.new.self ≡ c.args.count = search rules in
    take-put_mid c.args.at _ c.args.out.now c.copy_from_slice-2.new.self _ (omega (arith, long)) (omega arith)
    ∙ ap (λ ys. ys ++ c.copy_from_slice-2.new.self) c.requires.before
    ∙ group_more (numbers_of c.args.stream) c.args.seeds.now c.args.at c.args.count (c.args.at + c.args.count - c.args.at) c.copy_from_slice.new.self _ c.numbers-made.result c.copy_from_slice-2.new.self
    c.requires.place (omega arith) c.copy_from_slice.ensures.after c.numbers-made.ensures c.copy_from_slice-2.ensures.after
