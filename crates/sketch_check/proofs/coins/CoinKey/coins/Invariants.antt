use Rattle.std.proofs.Common.{◌≡◌, ℕ, ◌+◌, ◌*◌, ◌<◌, get_or}
use Rattle.definitions.specs.Sketch.{coin_at}
use Rattle.sketch_check.proofs.coins.CoinKey.coins.Given as goal

abbrev pub invariant-loop-coin : goal.invariant-loop-coin
invariant-loop-coin l = record {
  seed : l.reader.seed ≡ l.self;
  stream : l.reader.stream ≡ l.level;
  place : l.reader.place ≡ 4 * (l.place + l.coin-index);
  done : (j : ℕ) → j < l.coin-index → get_or l.into j 0 ≡ coin_at l.self l.level (l.place + j);
}
