-- The parts in which nodes are kept.
use Rattle.std.specs.Prelude.{ℕ, ◌≡◌, ◌<◌, ◌≤◌, Bool, List, length}
use Rattle.std.specs.List.{All}
use Rattle.definitions.specs.declared.Side.{Side}
use Rattle.definitions.specs.Evaluation.{Share}
use Rattle.idpf_lanes.specs.Stands.{AreLong}
use Rattle.kept_nodes.specs.Kept.{KeptSeen, PartSeen}

-- a part is of that side and its shares
pub record IsPartOf (shares : List Share) (side : Side) (part : PartSeen) : Type 0 where
  pub over : part.shares ≡ shares
  pub on : part.side ≡ side

-- all parts are
abbrev pub AreParts : List Share → Side → List PartSeen → Type 0
AreParts shares side parts = All (IsPartOf shares side) parts

-- a part's reports have shares, and these have levels for prefixes of that many bits
pub record IsReady (before : KeptSeen) (level : ℕ) (prefixes : List (List Bool)) (part : PartSeen) : Type 0 where
  pub own : IsPartOf before.shares before.side part
  pub reports : All (λ i. i < length before.shares) part.places
  pub first : 1 ≤ level
  pub bits : AreLong level prefixes
  pub levels : All (λ s. level ≤ length s.levels) before.shares
