-- What a worker knows of its tiles, and what the log of a phase has.
use Rattle.std.specs.Prelude.{◌++◌, ℕ, ◌≡◌, ◌<◌, ◌≤◌, Bool, true, false, cond, List, [], ◌∷◌, length, Option, IfSome}
use Rattle.std.specs.List.{AllByRecursion}
use Rattle.turn_lock.specs.Logs.{entries_of}
use Rattle.tile_claims.specs.Lists.{Ascends, times}
use Rattle.tile_claims.specs.Plans.{tiles_of}
use Rattle.core_definitions.specs.Phase.{Posting}
use Rattle.phase_state.specs.declared.phase_plan.PlanSeen.{PlanSeen}
use Rattle.phase_state.specs.declared.posting.Posted.{Posted}
use Rattle.phase_state.specs.declared.posting.Posted.TheVariants.{Added, Repeat}
use Rattle.phase_state.specs.Logs.{posts, tiles_in, EachOnce}
use Rattle.phase_state.specs.Phases.{StateSeen}
use Rattle.shelf_io.specs.Gates.{Rule}
use Rattle.phase_workers.specs.declared.phase.Done.{Done}
use Rattle.phase_workers.specs.Seen.{CrewSeen}

-- its drawn tiles that are not left out stand in the log that it saw, and its own entries are of no tile that is left out
pub record Did (tells : Bool) (rule : ℕ → Bool) (tiles : ℕ) (drawn : List ℕ) (seen own : List Posting) : Type 0 where
  pub went : tells ≡ true → (k : ℕ) → k < tiles → 0 < times k drawn → rule k ≡ false → 0 < posts k seen
  pub kept : tells ≡ true → AllByRecursion (λ e. rule e.tile ≡ false) own

-- R of each two at one place
abbrev pub Pairs : {X Y : Type 0} → (X → Y → Type 0) → List X → List Y → Type 0
Pairs R [] [] = Unit {0}
Pairs R [] (y ∷ ys) = ⊥
Pairs R (x ∷ xs) [] = ⊥
Pairs R (x ∷ xs) (y ∷ ys) = R x y × Pairs R xs ys

-- a number that is no tile was drawn
abbrev pub IsLast : ℕ → List ℕ → Type 0
IsLast tiles drawn = (n : ℕ) × (tiles ≤ n) × (0 < times n drawn)

-- what all workers left in the log: where the gate tells, each tile that the rule does not leave out, and no other
pub record Worked (tells : Bool) (rule : ℕ → Bool) (tiles workers : ℕ) (log : List Posting) : Type 0 where
  pub there : tells ≡ true → (k : ℕ) → k < tiles → rule k ≡ false → 0 < posts k log
  pub none : tells ≡ true → (k : ℕ) → rule k ≡ true → posts k log ≡ 0
  pub few : AllByRecursion (λ e. e.number < workers) log

-- how many tiles a post added
abbrev pub added_by : Posted → ℕ
added_by Added = 1
added_by Repeat = 0

-- the log grew by `count` entries of that number alone, of ascending tiles below n, and has each tile below n
pub record Swept (number n count : ℕ) (old new : List Posting) : Type 0 where
  pub more : List Posting
  pub grew : new ≡ old ++ more
  pub mine : AllByRecursion (λ e. e.number ≡ number) more
  pub counted : length more ≡ count
  pub low : AllByRecursion (λ e. e.tile < n) more
  pub ascends : Ascends (tiles_in more)
  pub few : count ≤ n
  pub all : (k : ℕ) → k < n → 0 < posts k new

-- the tiles that were posted under the number, in order
abbrev pub posted_by : ℕ → List Posting → List ℕ
posted_by number log = tiles_in (entries_of (λ e. e.number) number log)

-- the tiles that were posted under the number of workers are exactly those of the rule
abbrev pub IsRuled : (ℕ → Bool) → PlanSeen → ℕ → List Posting → Type 0
IsRuled rule plan workers log = (k : ℕ) → k < tiles_of plan.tiles → times k (posted_by workers log) ≡ cond (rule k) 1 0

-- what the crew of a phase leaves, under a gate that may tell a rule
pub record IsRun (crew : CrewSeen) (gate : Option Rule) (done : Done) (finished : StateSeen) : Type 0 where
  pub plan : finished.plan ≡ crew.plan
  pub tiles : done.tiles ≡ tiles_of crew.plan.tiles
  -- every tile is posted once, so the sums and the totals are the plain ones
  pub all : EachOnce (tiles_of crew.plan.tiles) finished.log
  -- the sweep posted under the number of workers, in ascending order
  pub swept : done.swept ≡ length (posted_by crew.workers finished.log)
  pub order : Ascends (posted_by crew.workers finished.log)
  -- where the gate tells its rule, the swept tiles are exactly those of the rule
  pub ruled : IfSome gate (λ rule. IsRuled (rule crew.plan.side) crew.plan crew.workers finished.log)
