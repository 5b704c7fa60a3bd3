use Rattle.std.proofs.Common.{◌≡◌, map, ap, ◌∙◌, arith}
use Rattle.node_growth.proofs.Filling.{map_of_map}
use Rattle.seed_lanes.specs.Blocks.{numbers_of}
use Rattle.generation_lanes.specs.Seeds.{seed_at}
use Rattle.generation_lanes.proofs.level.read.Goals as goal

pub returns-clause-numbers : goal.returns-clause-numbers
returns-clause-numbers c =
    let same : c.from.result ≡ c.args.level = omega arith in
    c.numbers_many.ensures.value ∙ ap (λ n. map (numbers_of n) c.gather.new.seeds) same ∙ ap (map (numbers_of c.args.level)) c.gather.ensures.seeds
    ∙ map_of_map (numbers_of c.args.level) (seed_at c.args.which) c.args.lines.now
