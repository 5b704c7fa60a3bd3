-- One step down for many nodes at once: which children are made, and what they are.
use Rattle.std.specs.Prelude.{ℕ, ◌<◌, Bool, false, List, [], length, slice_index_or}
use Rattle.definitions.specs.declared.Side.{Side}
use Rattle.definitions.specs.Evaluation.{LevelWord, Node, child, child_seed}

-- a child to be made: that of the node at a place, along a bit
pub record Step : Type 0 where
  pub from : ℕ
  pub bit : Bool

-- what stands behind the last step of a list
abbrev pub no_step : Step
no_step = record { from = 0; bit = false }

-- what stands behind the last node of a list
abbrev pub no_node : Node
no_node = record { seed = []; bit = false; d = 0; e = 0 }

-- the node from which a step goes
abbrev pub parent_of : List Node → Step → Node
parent_of nodes step = slice_index_or nodes step.from no_node

-- the corrected seed of a step's child
abbrev pub seed_of : LevelWord → List Node → Step → List ℕ
seed_of word nodes step = child_seed word (parent_of nodes step).seed (parent_of nodes step).bit step.bit

-- the child that a step makes
abbrev pub child_of : LevelWord → Side → List Node → Step → Node
child_of word side nodes step = child word side (parent_of nodes step) step.bit

-- each step goes from one of so many nodes
abbrev pub AreWithin : ℕ → List Step → Type 0
AreWithin count steps = (i : ℕ) → i < length steps → (slice_index_or steps i no_step).from < count
