-- A reader of a seed's stream.
use Rattle.std.specs.Prelude.{ℕ, List}

-- the seed, the number of the stream, and the place of the next word
pub record Reading : Type 0 where
  pub seed : List ℕ
  pub stream : ℕ
  pub place : ℕ
