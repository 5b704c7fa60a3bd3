-- Where the fronts of prefixes stand in a list, and where their nodes do.
use Rattle.std.specs.Prelude.{ℕ, ◌+◌, ◌<◌, ◌≡◌, ◌≢◌, Bool, List, [], length, take, slice_index, slice_index_or, Option, None, IfSome}
use Rattle.definitions.specs.declared.Side.{Side}
use Rattle.definitions.specs.Evaluation.{Share, Node, node}
use Rattle.node_growth.specs.Steps.{no_node}

-- each prefix has this many bits
abbrev pub AreLong : ℕ → List (List Bool) → Type 0
AreLong level prefixes = (k : ℕ) → k < length prefixes → length (slice_index_or prefixes k []) ≡ level

-- the node of each prefix's front of a depth stands in a list of nodes at the prefix's place
pub record Stand (share : Share) (side : Side) (depth : ℕ) (prefixes : List (List Bool)) (nodes : List Node) (places : List ℕ) : Type 0 where
  -- each place is one of the nodes
  pub below : (k : ℕ) → k < length prefixes → slice_index places k < length nodes
  -- the node there is that of the prefix's front
  pub own : (k : ℕ) → k < length prefixes
      → slice_index_or nodes (slice_index places k) no_node ≡ node share side (take depth (slice_index_or prefixes k []))

-- the front of each prefix, of so many bits, is the one at its place in a list of fronts
pub record AreFronts (depth : ℕ) (prefixes fronts : List (List Bool)) (places : List ℕ) : Type 0 where
  -- each place is one of the fronts
  pub below : (k : ℕ) → k < length prefixes → slice_index places k < length fronts
  -- the front there is the first bits of the prefix
  pub own : (k : ℕ) → k < length prefixes → slice_index_or fronts (slice_index places k) [] ≡ take depth (slice_index_or prefixes k [])
  -- all fronts have so many bits, those too at which no prefix stands
  pub long : AreLong depth fronts

-- no two of the first fronts that follow one another are equal
abbrev pub AreApart : ℕ → List (List Bool) → Type 0
AreApart count fronts = (i : ℕ) → i + 1 < count → slice_index_or fronts i [] ≢ slice_index_or fronts (i + 1) []

-- each node that was found is that of its prefix
abbrev pub AreFound : Share → Side → List (List Bool) → List (Option Node) → Type 0
AreFound share side prefixes found = (k : ℕ) → k < length found → IfSome (slice_index_or found k None) (λ n. n ≡ node share side (slice_index_or prefixes k []))
