-- Where a walk ends, by what its levels found.
use Rattle.std.specs.Prelude.{◌≡◌, ◌⊎◌, ℕ, ◌-◌, ◌*◌, ◌<◌, ◌≤◌, List, [], length}
use Rattle.walk_definitions.specs.Reports.{Report}
use Rattle.walk_definitions.specs.Walk.{Settings, Heavy, End, done, capped, ending, walk, survivors_at, live_at}

-- of levels 1 to bits, with what survived each
module _ (bits cap : ℕ) (survivors : ℕ → List Heavy) where
  -- the last of all levels, or no survivors, or too many children
  abbrev pub Stops : ℕ → Type 0
  Stops level = (level ≡ bits) ⊎ ((survivors level ≡ []) ⊎ (cap < 2 * length (survivors level)))

  -- the first level that stops
  pub record IsLast (level : ℕ) : Type 0 where
    pub one_or_more : 1 ≤ level
    pub stops : Stops level
    pub first : (earlier : ℕ) → 1 ≤ earlier → earlier < level → Stops earlier → ⊥

  -- and with how many reports passed it
  module _ (passed : ℕ → ℕ) where
    -- an answer at the last of all levels and where there are no survivors, else the cap
    pub record EndsAt (level : ℕ) (end : End) : Type 0 where
      pub answer : (level ≡ bits) ⊎ (survivors level ≡ []) → end ≡ done level (passed level) (survivors level)
      pub too_many : (level ≡ bits → ⊥) → (survivors level ≡ [] → ⊥) → end ≡ capped level (2 * length (survivors level))

    -- there is one first level that stops, and the end is that of it
    pub record EndsOnce (end : End) : Type 0 where
      pub somewhere : (level : ℕ) × IsLast level
      pub nowhere_else : (level other : ℕ) → IsLast level → IsLast other → level ≡ other
      pub there : (level : ℕ) → IsLast level → EndsAt level end

-- What counts the levels down ends so.
abbrev pub EndingLaw : Type 0
EndingLaw = (bits cap : ℕ) (survivors : ℕ → List Heavy) (passed : ℕ → ℕ) → 1 ≤ bits
    → EndsOnce bits cap survivors passed (ending cap survivors passed (bits - 1) 1)

-- So does the walk over a batch.
abbrev pub WalkEndLaw : Type 0
WalkEndLaw = (settings : Settings) (batch : List Report) → 1 ≤ settings.bits
    → EndsOnce settings.bits settings.cap (survivors_at settings batch) (λ level. length (live_at settings batch level)) (walk settings batch)
