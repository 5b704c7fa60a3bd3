-- A level's frontier, and what holds of every one.
use Rattle.std.specs.Prelude.{ℕ, ◌≤◌, Bool, List, length}
use Rattle.definitions.specs.Prefixes.{AreCandidates}
use Rattle.walk_definitions.specs.Walk.{first_candidates}

-- the strings' number of bits, the most candidates of a level, the level, and its candidates
pub record Frontier : Type 0 where
  pub bits : ℕ
  pub cap : ℕ
  pub level : ℕ
  pub candidates : List (List Bool)

-- the bounds of the walk, and candidates that differ, each of the level's number of bits
pub record IsFrontier (most_bits bits cap level : ℕ) (candidates : List (List Bool)) : Type 0 where
  pub some_bits : 8 ≤ bits
  pub few_bits : bits ≤ most_bits
  pub some_cap : 2 ≤ cap
  pub small_cap : cap ≤ 65536
  pub begun : 1 ≤ level
  pub within : level ≤ bits
  pub few : length candidates ≤ cap
  pub different : AreCandidates level candidates

-- that of level 1
abbrev pub first_frontier : ℕ → ℕ → Frontier
first_frontier bits cap = record { bits = bits; cap = cap; level = 1; candidates = first_candidates }
