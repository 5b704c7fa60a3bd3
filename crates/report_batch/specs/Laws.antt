-- What holds of every batch.
use Rattle.std.specs.Prelude.{◌≡◌, ℕ, ◌≤◌, List, length, map}
use Rattle.std.specs.List.{All}
use Rattle.definitions.specs.declared.Side.{Side}
use Rattle.definitions.specs.Evaluation.{Share}
use Rattle.walk_definitions.specs.Reports.{Report, held, batch}
use Rattle.walk_definitions.specs.Laws.{IsAmong}

-- a report's two shares are among those of their sides, and have its id
pub record IsGiven (shares0 shares1 : List Share) (report : Report) : Type 0 where
  pub given0 : IsAmong report.held0 shares0
  pub given1 : IsAmong report.held1 shares1
  pub named0 : report.held0.id ≡ report.id
  pub named1 : report.held1.id ≡ report.id

-- Each report of a batch is made of shares that were given, one of each side.
abbrev pub GivenLaw : Type 0
GivenLaw = (shares0 shares1 : List Share) → All (IsGiven shares0 shares1) (batch shares0 shares1)

-- Where all shares given have so many levels, all shares of the batch have.
abbrev pub LevelsLaw : Type 0
LevelsLaw = (levels : ℕ) (shares0 shares1 : List Share) → All (λ s. length s.levels ≡ levels) shares0 → All (λ s. length s.levels ≡ levels) shares1
    → (side : Side) → All (λ s. length s.levels ≡ levels) (map (λ r. held r side) (batch shares0 shares1))

-- A batch has at most as many reports as each side has shares.
abbrev pub SizeLaw : Type 0
SizeLaw = (shares0 shares1 : List Share) → (length (batch shares0 shares1) ≤ length shares0) × (length (batch shares0 shares1) ≤ length shares1)
