-- Logs of posted tiles.
use Rattle.std.specs.Prelude.{◌≡◌, ℕ, ◌<◌, ◌≤◌, List, [], ◌∷◌, ◌++◌, map}
use Rattle.core_definitions.specs.Phase.{Posting}
use Rattle.phase_state.specs.declared.posting.Posted.{Posted}
use Rattle.phase_state.specs.declared.posting.Posted.TheVariants.{Added, Repeat}
use Rattle.tile_claims.specs.Lists.{times, once_below}

-- the tiles of a log, in order
abbrev pub tiles_in : List Posting → List ℕ
tiles_in log = map (λ e. e.tile) log

-- how often the log has the tile
abbrev pub posts : ℕ → List Posting → ℕ
posts k log = times k (tiles_in log)

abbrev pub posting : ℕ → ℕ → Posting
posting number tile = record { number = number; tile = tile }

-- what a post of the tile does to a log: it is added at the end where the log does not have it, and else nothing changes
abbrev pub IsPosted : Posted → ℕ → ℕ → List Posting → List Posting → Type 0
IsPosted Added number tile old new = (posts tile old ≡ 0) × (new ≡ old ++ posting number tile ∷ [])
IsPosted Repeat number tile old new = (posts tile old ≡ 1) × (new ≡ old)

-- no tile stands twice in the log, and no other number stands there
abbrev pub EachAtMostOnce : ℕ → List Posting → Type 0
EachAtMostOnce tiles log = (k : ℕ) → posts k log ≤ once_below k tiles

-- each tile stands once in the log, and no other number does
abbrev pub EachOnce : ℕ → List Posting → Type 0
EachOnce tiles log = (k : ℕ) → posts k log ≡ once_below k tiles

-- no tile stands in both logs
abbrev pub AreApart : List Posting → List Posting → Type 0
AreApart log other = (k : ℕ) → 0 < posts k log → posts k other ≡ 0
