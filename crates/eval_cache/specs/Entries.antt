-- The entries of a cache of nodes, and what a look-up and an offer make of them.
use Rattle.std.specs.Prelude.{ℕ, ◌≡◌, ◌-◌, Bool, nat_eq, ◌&&◌, List, ◌∷◌, take, Contains, Option}
use Rattle.std.specs.Option.{option_map_or}
use Rattle.std.specs.Map.{lookup, remove_entry}
use Rattle.definitions.specs.declared.Side.{Side}
use Rattle.definitions.specs.Evaluation.{Share, Node}
use Rattle.prefix_bits.specs.Bits.{bits_eq}
use Rattle.kept_nodes.specs.Kept.{node_at}
use Rattle.eval_cache.specs.declared.key.Key.{Key}

-- the shares of one side, the nodes that are kept, the one used last first, and how many there may be
pub record CacheSeen : Type 0 where
  pub shares : List Share
  pub side : Side
  pub entries : List (Key × Node)
  pub most : ℕ

-- each entry's node is the evaluated one of its own report at its own prefix
abbrev pub AreNodes : List Share → Side → List (Key × Node) → Type 0
AreNodes shares side entries = (e : Key × Node) → Contains entries e → e.1 ≡ node_at shares side e.0.report e.0.prefix

module _ (report : ℕ) (prefix : List Bool) where
  -- whether an entry is of that report and that prefix
  abbrev pub is_key : Key → Bool
  is_key key = nat_eq report key.report && bits_eq prefix key.prefix

  -- the node of that report at that prefix, where there is an entry
  abbrev pub found_in : List (Key × Node) → Option Node
  found_in entries = lookup is_key entries

  -- an entry of that report and that prefix, with this node
  abbrev pub entry_of : Node → Key × Node
  entry_of found = (record { report = report; prefix = prefix }, found)

  -- that entry is the first, and all others stay in their order
  abbrev pub with_first : Node → List (Key × Node) → List (Key × Node)
  with_first found entries = entry_of found ∷ remove_entry is_key entries

  -- it was looked up: its entry goes first, and without one nothing changes
  abbrev pub used : CacheSeen → CacheSeen
  used c = record c { entries = option_map_or (λ found. with_first found c.entries) (found_in c.entries) c.entries }

  -- its node was kept: its entry is the first, and where it had none, a full cache has dropped its last
  abbrev pub kept : Node → CacheSeen → CacheSeen
  kept found c =
      record c { entries = option_map_or (λ _. with_first found c.entries) (found_in c.entries) (entry_of found ∷ take (c.most - 1) c.entries) }
