-- The seeds of a line's pair.
use Rattle.std.specs.Prelude.{ℕ, List}
use Rattle.definitions.specs.Generation.{report_seed}
use Rattle.generation_lanes.specs.declared.line_seed.LineSeed.{LineSeed}
use Rattle.generation_lanes.specs.declared.line_seed.LineSeed.TheVariants.{Zero, One, Coins, CorrZero, CorrOne}
use Rattle.generation_lanes.specs.Growing.{Growing, coins_for}

abbrev pub seed_at : LineSeed → Growing → List ℕ
seed_at Zero p = p.path.seed0
seed_at One p = p.path.seed1
seed_at Coins p = report_seed p.master p.line
seed_at CorrZero p = (coins_for p).corr0
seed_at CorrOne p = (coins_for p).corr1
