-- What follows a level of which each candidate has a total.
use Rattle.std.specs.Prelude.{◌≡◌, ℕ, ◌+◌, ◌*◌, ◌==◌, if◌then◌else◌, List, [], ◌∷◌, length}
use Rattle.walk_definitions.specs.Walk.{Heavy, survivors, children, goes_on}
use Rattle.frontier_walk.specs.Frontiers.{Frontier}
use Rattle.frontier_walk.specs.declared.outcomes.Next.{Next}
use Rattle.frontier_walk.specs.declared.outcomes.Next.TheVariants.{Level, Done}
use Rattle.frontier_walk.specs.declared.outcomes.PruneError.{PruneError}
use Rattle.frontier_walk.specs.declared.outcomes.PruneError.TheVariants.{Cap, Memory}

pub data Outcome : Type 0 where
  -- the next level's frontier
  further : Frontier → Outcome
  -- the answer
  answered : List Heavy → Outcome
  -- the level, and twice the number of its survivors, which is more than the cap
  too_many : ℕ → ℕ → Outcome

-- the frontier of the next level, where these survived
abbrev pub following : Frontier → List Heavy → Frontier
following frontier heavy =
    record { bits = frontier.bits; cap = frontier.cap; level = frontier.level + 1; candidates = children heavy }

-- a level that does not go on: no survivors are the answer, and too many have no next level
abbrev pub halted : Frontier → List Heavy → Outcome
halted frontier [] = answered []
halted frontier (h ∷ hs) = too_many frontier.level (2 * length (h ∷ hs))

-- at the last level the survivors are the answer
abbrev pub pruned : Frontier → List ℕ → ℕ → Outcome
pruned frontier totals threshold =
    let heavy = survivors threshold frontier.candidates totals in
    if frontier.level == frontier.bits then answered heavy
    else if goes_on frontier.cap heavy then further (following frontier heavy)
    else halted frontier heavy

-- what the program's answer says
abbrev pub outcome_of : Next → Outcome
outcome_of (Level frontier) = further frontier
outcome_of (Done heavy) = answered heavy.items

abbrev pub IsNoCap : Outcome → Type 0
IsNoCap (further frontier) = Unit {0}
IsNoCap (answered heavy) = Unit {0}
IsNoCap (too_many level wanted) = ⊥

-- a refusal by the cap names it; want of memory is no such refusal
abbrev pub IsCause : Outcome → PruneError → Type 0
IsCause outcome (Cap level wanted) = outcome ≡ too_many level wanted
IsCause outcome Memory = IsNoCap outcome
