-- What contracts see of a level and of its passes, what a post does to a pass, and what a finished level has.
use Rattle.std.specs.Prelude.{◌≡◌, ◌≢◌, ℕ, ◌+◌, ◌<◌, ◌≤◌, List, [], ◌∷◌, ◌++◌, map, length, slice_index_or}
use Rattle.std.specs.List.{AllByRecursion, flat_map}
use mathlib.Core.List.{IsPrefix}
use Rattle.turn_lock.specs.Logs.{entries_of}
use Rattle.turn_lock.specs.Places.{NumberedOnce}
use Rattle.turn_lock.specs.Seen.{LockId, PassSeen}
use Rattle.lock_row.specs.Columns.{heads, tails}
use Rattle.tile_claims.specs.Plans.{Plan}
use Rattle.core_definitions.specs.Phase.{Posting}
use Rattle.phase_state.specs.declared.phase_plan.PlanSeen.{PlanSeen}
use Rattle.phase_state.specs.declared.posting.Posted.{Posted}
use Rattle.phase_state.specs.declared.posting.Posted.TheVariants.{Added, Repeat}
use Rattle.phase_state.specs.Logs.{posting, posts, IsPosted}
use Rattle.level_totals.specs.declared.held_phase.StripePlan.{StripePlan}
use Rattle.level_totals.specs.Stripes.{stripes_of, AreOfStripe}

-- a level: the plan, the locks of its stripes in order, and how many passes it has
pub record LevelSeen : Type 0 where
  pub plan : PlanSeen
  pub locks : List (LockId StripePlan)
  pub passes : ℕ

-- a pass, as what it knows of each stripe, in order
abbrev pub LevelPassSeen : Type 0
LevelPassSeen = List (PassSeen StripePlan Posting)

-- its number in each stripe
abbrev pub numbers_of : LevelPassSeen → List ℕ
numbers_of pass = map (λ p. p.number) pass

-- the same number in each stripe, as of each pass that a level made
abbrev pub IsNumbered : ℕ → LevelPassSeen → Type 0
IsNumbered number pass = AllByRecursion (λ p. p.number ≡ number) pass

-- its number, the log that it has seen, and its own entries in order, in one stripe
abbrev pub number_in : ℕ → LevelPassSeen → ℕ
number_in stripe pass = slice_index_or (numbers_of pass) stripe 0

abbrev pub seen_in : ℕ → LevelPassSeen → List Posting
seen_in stripe pass = slice_index_or (map (λ p. p.seen) pass) stripe []

abbrev pub own_in : ℕ → LevelPassSeen → List Posting
own_in stripe pass = slice_index_or (map (λ p. p.own) pass) stripe []

-- its number in the first stripe
abbrev pub number_of : LevelPassSeen → ℕ
number_of pass = number_in 0 pass

-- the logs that it has seen of all stripes, stripe 0 first
abbrev pub seen_of : LevelPassSeen → List Posting
seen_of pass = flat_map (λ p. p.seen) pass

-- its own entries in all stripes, stripe 0 first
abbrev pub own_of : LevelPassSeen → List Posting
own_of pass = flat_map (λ p. p.own) pass

-- what a post of the tile leaves as the log that was seen: before it that log had grown, by others alone
abbrev pub HasSeen : Posted → ℕ → ℕ → List Posting → List Posting → Type 0
HasSeen answer number tile seen now = (before : List Posting) × IsPrefix seen before × IsPosted answer number tile before now

-- and as the own entries: the posting is added exactly where the answer is Added
abbrev pub IsOwned : Posted → ℕ → ℕ → List Posting → List Posting → Type 0
IsOwned Added number tile old new = new ≡ old ++ posting number tile ∷ []
IsOwned Repeat number tile old new = new ≡ old

-- both of a pass, in the stripe of the tile
abbrev pub SawPost : Posted → ℕ → ℕ → LevelPassSeen → LevelPassSeen → Type 0
SawPost answer stripe tile pass new = HasSeen answer (number_in stripe pass) tile (seen_in stripe pass) (seen_in stripe new)

abbrev pub OwnsPost : Posted → ℕ → ℕ → LevelPassSeen → LevelPassSeen → Type 0
OwnsPost answer stripe tile pass new = IsOwned answer (number_in stripe pass) tile (own_in stripe pass) (own_in stripe new)

-- in the other stripes it has seen what it had seen, and has the same own entries
abbrev pub SameElsewhere : ℕ → LevelPassSeen → LevelPassSeen → Type 0
SameElsewhere stripe pass new = (other : ℕ) → other ≢ stripe → (seen_in other new ≡ seen_in other pass) × (own_in other new ≡ own_in other pass)

-- the log has each tile at least as often as what was seen of it
abbrev pub Has : List Posting → List Posting → Type 0
Has seen log = (k : ℕ) → posts k seen ≤ posts k log

-- the last log of a stripe, from what each pass knows of that stripe: it has tiles of the stripe alone, what each pass has seen begins it, each pass's own
-- entries are those of its number, the numbers are those below the count of passes, each once, and each entry has one of them
pub record IsStripeLog (plan : Plan) (stripe : ℕ) (known : List (PassSeen StripePlan Posting)) (log : List Posting) : Type 0 where
  pub tiles : AreOfStripe plan stripe log
  pub seen : AllByRecursion (λ p. IsPrefix p.seen log) known
  pub own : AllByRecursion (λ p. p.own ≡ entries_of (λ e. e.number) p.number log) known
  pub numbers : NumberedOnce (λ p. p.number) known
  pub entries : AllByRecursion (λ e. e.number < length known) log

-- the last logs of the stripes from this one on, in order, where each pass's knowledge begins with that of this stripe
abbrev pub AreStripeLogs : Plan → ℕ → List LevelPassSeen → List (List Posting) → Type 0
AreStripeLogs plan stripe passes [] = Unit
AreStripeLogs plan stripe passes (log ∷ logs) = IsStripeLog plan stripe (heads passes) log × AreStripeLogs plan (stripe + 1) (tails passes) logs

-- a log that is the last logs of all stripes of the plan, stripe 0 first
pub record FromStripes (plan : Plan) (passes : List LevelPassSeen) (log : List Posting) : Type 0 where
  pub logs : List (List Posting)
  pub count : length logs ≡ stripes_of plan
  pub are : AreStripeLogs plan 0 passes logs
  pub joined : log ≡ flat_map (λ l. l) logs
