-- What a tile is over, and what is made for its reports.
use Rattle.std.specs.Prelude.{◌≡◌, ℕ, ◌+◌, ◌-◌, ◌<◌, ◌≤◌, ◌^◌, Bool, List, map, length}
use Rattle.std.specs.List.{All}
use Rattle.definitions.specs.declared.Side.{Side}
use Rattle.definitions.specs.Evaluation.{Share}
use Rattle.definitions.specs.Field.{total_by}
use Rattle.definitions.specs.Sketch.{Sums, partial_sums_from}
use Rattle.idpf_lanes.specs.Stands.{AreFronts}
use Rattle.phase_state.specs.Sums.{nodes_of, coins_of, share_at}
use Rattle.tile_filling.specs.declared.block.Block.{Block}

-- the shares reach the level, the live reports are there, and each candidate has as many bits as the level, and from level 2 on a front
pub record IsBlock (b : Block) : Type 0 where
  pub levels : All (λ s. b.level ≤ length s.levels) b.shares.now
  pub bits : All (λ q. length q ≡ b.level) b.candidates.now
  pub live_places : All (λ i. i < length b.shares.now) b.live.now
  pub few : b.first + length b.candidates.now ≤ 2 ^ 20
  pub fewer : length b.fronts.now ≤ length b.candidates.now
  pub same : length b.places.now ≡ length b.candidates.now
  pub parted : 2 ≤ b.level → AreFronts (b.level - 1) b.candidates.now b.fronts.now b.places.now

-- a share's sums over candidates of which the first stands at the place `first` of the whole list
abbrev pub sums_over : Side → List ℕ → ℕ → ℕ → List (List Bool) → Share → Sums
sums_over side verify level first qs s = partial_sums_from (coins_of verify level s) first (map (λ q. (nodes_of side s q).d) qs) (map (λ q. (nodes_of side s q).e) qs)

-- those of the shares of some reports, by their places
abbrev pub report_sums : Side → List ℕ → ℕ → ℕ → List (List Bool) → List Share → List ℕ → List Sums
report_sums side verify level first qs shares live = map (sums_over side verify level first qs) (map (share_at shares) live)

-- the total at a prefix over the shares of some reports, by their places
abbrev pub total_over : Side → List Share → List ℕ → List Bool → ℕ
total_over side shares live q = total_by (λ s. (nodes_of side s q).d) (map (share_at shares) live)

-- those of candidates
abbrev pub report_totals : Side → List (List Bool) → List Share → List ℕ → List ℕ
report_totals side qs shares live = map (total_over side shares live) qs
