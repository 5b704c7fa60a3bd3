-- The reports of a batch that are live, by a flag for each, and how many levels the shares have.
use Rattle.std.specs.Prelude.{◌≡◌, ℕ, ◌≤◌, Bool, if◌then◌else◌, List, [], ◌∷◌, length}
use Rattle.std.specs.List.{All}
use Rattle.walk_definitions.specs.Reports.{Report}

-- those whose flag is set
abbrev pub chosen : List Bool → List Report → List Report
chosen [] reports = []
chosen (b ∷ bs) [] = []
chosen (b ∷ bs) (r ∷ rs) = if b then r ∷ chosen bs rs else chosen bs rs

-- both shares of each report have so many levels
abbrev pub AllHave : ℕ → List Report → Type 0
AllHave bits batch = All (λ r. (length r.held0.levels ≡ bits) × (length r.held1.levels ≡ bits)) batch

-- both shares of each report reach the level
abbrev pub AllReach : ℕ → List Report → Type 0
AllReach level batch = All (λ r. (level ≤ length r.held0.levels) × (level ≤ length r.held1.levels)) batch
