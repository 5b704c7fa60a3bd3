-- Plans of tiles: the rectangle of reports by candidates, cut into numbered tiles.
use Rattle.std.specs.Prelude.{ℕ, ◌+◌, ◌*◌, ◌/◌, ◌%◌, ◌<◌, ◌≤◌, min, ◌^◌}
use Rattle.std.specs.Int.{div_ceil}
use Rattle.tile_claims.specs.declared.tiles.Tile.{Tile}
use Rattle.tile_claims.specs.ExactlyOne.{ExactlyOne}

-- how many reports and candidates there are, and how many of each a tile has at most
pub record Plan : Type 0 where
  pub reports : ℕ
  pub candidates : ℕ
  pub by_reports : ℕ
  pub by_candidates : ℕ

-- the plan of these four numbers
abbrev pub plan_of : ℕ → ℕ → ℕ → ℕ → Plan
plan_of reports candidates by_reports by_candidates = record {
  reports = reports;
  candidates = candidates;
  by_reports = by_reports;
  by_candidates = by_candidates;
}

-- the number of blocks that the candidates are cut into
abbrev pub blocks_of : Plan → ℕ
blocks_of p = div_ceil p.candidates p.by_candidates

-- the number of blocks that the reports are cut into
abbrev pub rows_of : Plan → ℕ
rows_of p = div_ceil p.reports p.by_reports

-- the number of tiles
abbrev pub tiles_of : Plan → ℕ
tiles_of p = rows_of p * blocks_of p

-- the candidate block of tile k: these blocks run faster
abbrev pub block_of : Plan → ℕ → ℕ
block_of p k = k % blocks_of p

-- the block of reports of tile k
abbrev pub row_of : Plan → ℕ → ℕ
row_of p k = k / blocks_of p

-- tile k: a whole block each way, cut off where the reports or the candidates end
abbrev pub tile_of : Plan → ℕ → Tile
tile_of p k = record {
  r0 = row_of p k * p.by_reports;
  r1 = min (row_of p k * p.by_reports + p.by_reports) p.reports;
  c0 = block_of p k * p.by_candidates;
  c1 = min (block_of p k * p.by_candidates + p.by_candidates) p.candidates;
}

-- the report r and the candidate c are in the tile
abbrev pub HasPair : Tile → ℕ → ℕ → Type 0
HasPair t r c = (t.r0 ≤ r) × (r < t.r1) × (t.c0 ≤ c) × (c < t.c1)

-- each pair is in exactly one of the tiles whose numbers are below `tiles`
abbrev pub CoversEachPairOnce : ℕ → ℕ → ℕ → (ℕ → Tile) → Type 0
CoversEachPairOnce reports candidates tiles tile =
    (r c : ℕ) → r < reports → c < candidates → ExactlyOne (λ (k : ℕ). (k < tiles) × HasPair (tile k) r c)

-- the tile has a pair, and only pairs of these reports and candidates
abbrev pub IsPartOf : ℕ → ℕ → Tile → Type 0
IsPartOf reports candidates t = (t.r0 < t.r1) × (t.r1 ≤ reports) × (t.c0 < t.c1) × (t.c1 ≤ candidates)

-- a plan that may be made: its tiles are not empty, and fewer than 2 ^ 31
abbrev pub IsPlan : Plan → Type 0
IsPlan p = (0 < p.by_reports) × (0 < p.by_candidates) × (tiles_of p < 2 ^ 31)
