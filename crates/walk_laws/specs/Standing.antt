-- Which reports a batch has, by which ids stand.
use Rattle.std.specs.Prelude.{◌≡◌, ℕ, List}
use Rattle.std.specs.List.{All, Contains}
use Rattle.definitions.specs.Evaluation.{Share}
use Rattle.walk_definitions.specs.Reports.{Report, batch}
use Rattle.walk_definitions.specs.Laws.{IsAmong, IdsAscend}

-- an id stands with a share: the share has the id, and all shares with the id are equal to it
pub record StandsWith (shares : List Share) (id : List ℕ) (share : Share) : Type 0 where
  pub there : IsAmong share shares
  pub named : share.id ≡ id
  pub alone : (other : Share) → IsAmong other shares → other.id ≡ id → other ≡ share

-- the ids that stand on both sides ascend, each once, and each has its two shares
pub record IsBatch (shares0 shares1 : List Share) (reports : List Report) : Type 0 where
  pub ascend : IdsAscend reports
  pub each : All (λ r. StandsWith shares0 r.id r.held0 × StandsWith shares1 r.id r.held1) reports
  pub all : (id : List ℕ) (share0 share1 : Share) → StandsWith shares0 id share0 → StandsWith shares1 id share1
      → Contains reports (record { id = id; held0 = share0; held1 = share1 })

abbrev pub BatchIsExact : Type 0
BatchIsExact = (shares0 shares1 : List Share) → IsBatch shares0 shares1 (batch shares0 shares1)
