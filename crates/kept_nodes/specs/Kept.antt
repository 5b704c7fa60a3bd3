-- The nodes that are kept of a side's live reports.
use Rattle.std.specs.Prelude.{ℕ, Bool, List, [], ◌∷◌, ◌++◌, map, slice_index_or}
use Rattle.definitions.specs.declared.Side.{Side}
use Rattle.definitions.specs.Evaluation.{Share, Node, node}
use Rattle.core_definitions.specs.Phase.{no_share}

-- the share of a report, by its place
abbrev pub share_at : List Share → ℕ → Share
share_at shares report = slice_index_or shares report no_share

-- a report's node at a prefix, evaluated from its own share
abbrev pub node_at : List Share → Side → ℕ → List Bool → Node
node_at shares side report prefix = node (share_at shares report) side prefix

-- a report's nodes at these prefixes
abbrev pub report_nodes : List Share → Side → List (List Bool) → ℕ → List Node
report_nodes shares side prefixes report = map (node (share_at shares report) side) prefixes

-- those of reports, report by report, prefix by prefix
abbrev pub nodes_of : List Share → Side → List (List Bool) → List ℕ → List Node
nodes_of shares side prefixes [] = []
nodes_of shares side prefixes (report ∷ reports) = report_nodes shares side prefixes report ++ nodes_of shares side prefixes reports

-- a side and its shares, of which nodes are kept
pub record KeptSeen : Type 0 where
  pub shares : List Share
  pub side : Side

-- one part of them: the places of the reports of which nodes are kept, and the prefixes at which they are
pub record PartSeen : Type 0 where
  pub shares : List Share
  pub side : Side
  pub places : List ℕ
  pub prefixes : List (List Bool)
