use Rattle.std.proofs.Common.{arith}
use Rattle.seed_lanes.proofs.LaneLaws.{below_eight, words_key}
use Rattle.seed_lanes.proofs.groups.keys.Goals as goal

pub returns : goal.returns
returns c =
    below_eight _
    (words_key _ c.args.seeds.now 0 _ (omega arith) c.words_of.ensures)
    (words_key _ c.args.seeds.now 1 _ (omega arith) c.words_of-2.ensures)
    (words_key _ c.args.seeds.now 2 _ (omega arith) c.words_of-3.ensures)
    (words_key _ c.args.seeds.now 3 _ (omega arith) c.words_of-4.ensures)
    (words_key _ c.args.seeds.now 4 _ (omega arith) c.words_of-5.ensures)
    (words_key _ c.args.seeds.now 5 _ (omega arith) c.words_of-6.ensures)
    (words_key _ c.args.seeds.now 6 _ (omega arith) c.words_of-7.ensures)
    (words_key _ c.args.seeds.now 7 _ (omega arith) c.words_of-8.ensures)
