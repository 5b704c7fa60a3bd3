-- What the tiles of a phase add up to, by the definitions of tiles.
use Rattle.std.specs.Prelude.{◌≡◌, ℕ, ◌<◌, ◌≤◌, ◌^◌, Bool, List, [], map, length, get_or, slice_range}
use Rattle.std.specs.List.{All}
use Rattle.definitions.specs.declared.Side.{Side}
use Rattle.definitions.specs.Evaluation.{Share, Node, node}
use Rattle.definitions.specs.Sketch.{Sums, coin}
use Rattle.tile_claims.specs.Plans.{Plan}
use Rattle.core_definitions.specs.Phase.{no_share}
use Rattle.core_definitions.specs.Tiles as tiles
use Rattle.phase_state.specs.declared.kind.Kind.{Kind}
use Rattle.phase_state.specs.declared.kind.Kind.TheVariants.{Sketch, Totals}
use Rattle.phase_state.specs.declared.phase_plan.PlanSeen.{PlanSeen}

-- the plan of tiles, in the words of the definitions
abbrev pub cut : Plan → tiles.TilePlan
cut p = record { reports = p.reports; candidates = p.candidates; by_reports = p.by_reports; by_candidates = p.by_candidates }

-- the share of a report's place
abbrev pub share_at : List Share → ℕ → Share
share_at shares place = get_or shares place no_share

-- the shares of the live reports, in order
abbrev pub live_shares : PlanSeen → List Share
live_shares plan = map (share_at plan.shares) plan.live

-- the value of a share at a prefix, from the root
abbrev pub nodes_of : Side → Share → List Bool → Node
nodes_of side share prefix = node share side prefix

-- the coin of a share's report for the candidate at a place of the whole list
abbrev pub coins_of : List ℕ → ℕ → Share → ℕ → ℕ
coins_of verify level share place = coin verify share.id level place

-- these tiles where the phase is of that kind, and else none
abbrev pub in_sketch : Kind → List ℕ → List ℕ
in_sketch Sketch ks = ks
in_sketch Totals ks = []

abbrev pub in_totals : Kind → List ℕ → List ℕ
in_totals Sketch ks = []
in_totals Totals ks = ks

-- the sums of these tiles, for each live report; in a phase of totals no tile adds to them
abbrev pub sums_of : PlanSeen → List ℕ → List Sums
sums_of plan ks =
    tiles.sums_of_tiles (cut plan.tiles) (coins_of plan.verify plan.level) (nodes_of plan.side) (live_shares plan) plan.candidates (in_sketch plan.kind ks)

-- the totals of these tiles, for each candidate; in a phase of sketches no tile adds to them
abbrev pub totals_of : PlanSeen → List ℕ → List ℕ
totals_of plan ks = tiles.totals_of_tiles (cut plan.tiles) (nodes_of plan.side) (live_shares plan) plan.candidates (in_totals plan.kind ks)

-- the same over all live reports and all candidates
abbrev pub plain_sums : PlanSeen → List Sums
plain_sums plan =
    tiles.plain_sums (cut plan.tiles) (coins_of plan.verify plan.level) (nodes_of plan.side) (live_shares plan) plan.candidates

abbrev pub plain_totals : PlanSeen → List ℕ
plain_totals plan = tiles.plain_totals (cut plan.tiles) (nodes_of plan.side) (live_shares plan) plan.candidates

-- tile k
abbrev pub range_of : PlanSeen → ℕ → tiles.Tile
range_of plan k = tiles.tile (cut plan.tiles) k

-- what tile k adds for each report of its range
abbrev pub part_sums : PlanSeen → ℕ → List Sums
part_sums plan k =
    map (λ share. tiles.sums_within (tiles.has_candidate (cut plan.tiles) k) (coins_of plan.verify plan.level share) (nodes_of plan.side share) plan.candidates)
    (slice_range (live_shares plan) (range_of plan k).r0 (range_of plan k).r1)

-- what tile k adds for each candidate of its range
abbrev pub part_totals : PlanSeen → ℕ → List ℕ
part_totals plan k =
    map (λ q. tiles.part_by (tiles.has_report (cut plan.tiles) k) (λ r. (nodes_of plan.side r.item q).d) (tiles.numbered 0 (live_shares plan)))
    (slice_range plan.candidates (range_of plan k).c0 (range_of plan k).c1)

-- a plan that a phase can be of: its shares reach the level, its live reports are there, and its tiles are of its two lists
pub record IsPhasePlan (plan : PlanSeen) : Type 0 where
  pub levels : All (λ s. plan.level ≤ length s.levels) plan.shares
  pub bits : All (λ q. length q ≡ plan.level) plan.candidates
  pub places : All (λ i. i < length plan.shares) plan.live
  pub few : length plan.candidates < 2 ^ 20
  pub sizes : (0 < plan.tiles.by_reports) × (0 < plan.tiles.by_candidates)
  pub reports : plan.tiles.reports ≡ length plan.live
  pub candidates : plan.tiles.candidates ≡ length plan.candidates
