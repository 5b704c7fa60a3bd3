-- What the loops over a tile leave.
use Rattle.std.specs.Prelude.{◌≡◌, ◌≤◌, ◌+◌, ℕ, ◌-◌, List, ◌++◌, take, drop, length, slice_range}
use Rattle.definitions.specs.Field.{add}
use Rattle.definitions.specs.Sketch.{Sums, sums_added}
use Rattle.walk_definitions.specs.Heard.{paired}
use Rattle.tile_claims.specs.declared.tiles.Tile.{Tile}
use Rattle.phase_state.specs.declared.part.Part.{Part}
use Rattle.phase_state.specs.declared.part.Part.TheVariants.{Sketch as OfSketch, Totals as OfTotals}

-- the list with a part added from one place to another
abbrev pub grown : {X : Type 0} → (X → X → X) → List X → ℕ → ℕ → List X → List X
grown plus xs from to part = take from xs ++ (paired plus (slice_range xs from to) part ++ drop (to - from) (drop from xs))

-- the sums and the totals after the part of a tile was added
abbrev pub sums_with : Tile → Part → List Sums → List Sums
sums_with tile (OfSketch sums) old = grown sums_added old tile.r0 tile.r1 sums.now
sums_with tile (OfTotals totals) old = old

abbrev pub totals_with : Tile → Part → List ℕ → List ℕ
totals_with tile (OfSketch sums) old = old
totals_with tile (OfTotals totals) old = grown add old tile.c0 tile.c1 totals.now

-- the part is as long as its side of the tile, which is within the list that it is added to
abbrev pub FitsTile : Tile → Part → ℕ → ℕ → Type 0
FitsTile tile (OfSketch sums) reports candidates = (tile.r0 ≤ tile.r1) × (tile.r1 ≤ reports) × (tile.r0 + length sums.now ≡ tile.r1)
FitsTile tile (OfTotals totals) reports candidates = (tile.c0 ≤ tile.c1) × (tile.c1 ≤ candidates) × (tile.c0 + length totals.now ≡ tile.c1)
