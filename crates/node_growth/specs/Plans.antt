-- Steps that are planned for the prefixes of a list, whose fronts are known by their places in a list of nodes.
use Rattle.std.specs.Prelude.{ℕ, ◌+◌, ◌<◌, ◌≤◌, ◌≡◌, ◌≢◌, Bool, false, List, [], length, slice_index, slice_index_or}
use Rattle.node_growth.specs.Steps.{Step, no_step}

-- each prefix has more bits than this
abbrev pub AreLonger : ℕ → List (List Bool) → Type 0
AreLonger depth prefixes = (k : ℕ) → k < length prefixes → depth < length (slice_index_or prefixes k [])

-- each of the places is one of so many
abbrev pub AreBelow : ℕ → List ℕ → Type 0
AreBelow count places = (k : ℕ) → k < length places → slice_index places k < count

-- the step of the prefix at a place of its list, along its bit at a depth, where its front stands at its place before
abbrev pub step_at : List (List Bool) → ℕ → List ℕ → ℕ → Step
step_at prefixes depth places k = record { from = slice_index places k; bit = slice_index_or (slice_index_or prefixes k []) depth false }

-- What is planned for the first prefixes of a list: steps, each from one of the nodes that are there, and at each
-- prefix's place which of them is its own.
pub record IsPlanned (prefixes : List (List Bool)) (depth parents : ℕ) (before places : List ℕ) (steps : List Step) (made upto : ℕ) : Type 0 where
  -- there are no more steps than prefixes
  pub few : made ≤ upto
  -- there are as many places as before
  pub long : length places ≡ length before
  -- each prefix's place is one of the steps
  pub below : (k : ℕ) → k < upto → slice_index places k < made
  -- the step there is its own
  pub own : (k : ℕ) → k < upto → slice_index_or steps (slice_index places k) no_step ≡ step_at prefixes depth before k
  -- the places of the other prefixes are as before
  pub rest : (k : ℕ) → upto ≤ k → slice_index places k ≡ slice_index before k
  -- no two steps that follow one another are equal: prefixes that stand together and share a step have it once
  pub apart : (i : ℕ) → i + 1 < made → slice_index_or steps i no_step ≢ slice_index_or steps (i + 1) no_step
  -- each step goes from one of the nodes
  pub within : (i : ℕ) → i < made → (slice_index_or steps i no_step).from < parents
