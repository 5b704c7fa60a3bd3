-- What was made for a tile is the tile's part.
use Rattle.std.proofs.Common.{◌≡◌, ℕ, ◌≤◌, Bool, true, false, List, map, ap, sym, ◌∙◌, subst, true≢false, arith}
use Rattle.std.specs.Prelude.{slice_range}
use Rattle.definitions.specs.Evaluation.{Share}
use Rattle.definitions.specs.Field.{total_by}
use Rattle.definitions.specs.Sketch.{Sums, partial_sums_from}
use Rattle.tile_claims.specs.Plans.{tile_of, IsPartOf}
use Rattle.tile_claims.specs.declared.tiles.Tile.{Tile}
use Rattle.core_definitions.specs.Tiles as tiles
use Rattle.core_definitions.proofs.Values.{map-same}
use Rattle.phase_state.specs.declared.kind.Kind.{Kind}
use Rattle.phase_state.specs.declared.kind.Kind.TheVariants.{Sketch, Totals}
use Rattle.phase_state.specs.declared.phase_plan.PlanSeen.{PlanSeen}
use Rattle.phase_state.specs.Sums.{cut, range_of, share_at, live_shares, nodes_of, coins_of, part_sums, part_totals, IsPhasePlan}
use Rattle.phase_state.specs.Rooms.{RoomSeen, Holds}
use Rattle.phase_state.proofs.Lists.{map_slice}
use Rattle.phase_state.proofs.Growing.{part, part_is, count_is}
use Rattle.phase_state.proofs.Posts.{ends}

abbrev is_sketch : Kind → Bool
is_sketch Sketch = true
is_sketch Totals = false

pub holds_sums : (plan : PlanSeen) (k : ℕ) (room : RoomSeen) → plan.kind ≡ Sketch → room.sums ≡ part_sums plan k → Holds plan k room
holds_sums plan k room kind is = record { sums = λ e. is; totals = λ e. absurd (true≢false (ap is_sketch (sym kind ∙ e))) }

pub holds_totals : (plan : PlanSeen) (k : ℕ) (room : RoomSeen) → plan.kind ≡ Totals → room.totals ≡ part_totals plan k → Holds plan k room
holds_totals plan k room kind is = record { sums = λ e. absurd (true≢false (ap is_sketch (sym e ∙ kind))); totals = λ e. is }

module _ (plan : PlanSeen) (k : ℕ) (t : Tile) (fits : IsPhasePlan plan) (is : t ≡ tile_of plan.tiles k) (inside : IsPartOf plan.tiles.reports plan.tiles.candidates t)
    (live : List ℕ) (candidates : List (List Bool)) (same_live : live ≡ plan.live) (same_candidates : candidates ≡ plan.candidates) where
  abbrev one : List (List Bool) → ℕ → ℕ → Share → Sums
  one qs c0 c1 s = partial_sums_from (coins_of plan.verify plan.level s) c0 (map (λ q. (nodes_of plan.side s q).d) (slice_range qs c0 c1)) (map (λ q. (nodes_of plan.side s q).e) (slice_range qs c0 c1))

  abbrev made_sums : tiles.Tile → List Sums
  made_sums e = map (one plan.candidates e.c0 e.c1) (map (share_at plan.shares) (slice_range plan.live e.r0 e.r1))

  abbrev made_totals : tiles.Tile → List ℕ
  made_totals e = map (λ q. total_by (λ s. (nodes_of plan.side s q).d) (map (share_at plan.shares) (slice_range plan.live e.r0 e.r1))) (slice_range plan.candidates e.c0 e.c1)

  rising : ((range_of plan k).r0 ≤ (range_of plan k).r1) × ((range_of plan k).c0 ≤ (range_of plan k).c1)
  rising =
      let e = ends plan k t fits is inside in
      subst (λ (e : tiles.Tile). (e.r0 ≤ e.r1) × (e.c0 ≤ e.c1)) (sym e) (omega (arith, inside.0), omega (arith, inside.2))

  pub sums_filled : (items : List Sums) → items ≡ map (one candidates t.c0 t.c1) (map (share_at plan.shares) (slice_range live t.r0 t.r1)) → items ≡ part_sums plan k
  sums_filled items before =
      let e = range_of plan k in
      let nodes = nodes_of plan.side in
      let coins = coins_of plan.verify plan.level in
      before
      ∙ ap (λ xs. map (one candidates t.c0 t.c1) (map (share_at plan.shares) (slice_range xs t.r0 t.r1))) same_live
      ∙ ap (λ qs. map (one qs t.c0 t.c1) (map (share_at plan.shares) (slice_range plan.live t.r0 t.r1))) same_candidates
      ∙ ap made_sums (sym (ends plan k t fits is inside))
      ∙ map-same _ _ (λ s. part_is (cut plan.tiles) coins nodes (live_shares plan) plan.candidates k s rising.1) (map (share_at plan.shares) (slice_range plan.live e.r0 e.r1))
      ∙ ap (map (part (cut plan.tiles) coins nodes (live_shares plan) plan.candidates k)) (sym (map_slice (share_at plan.shares) plan.live e.r0 e.r1))

  pub totals_filled : (items : List ℕ) → items ≡ map (λ q. total_by (λ s. (nodes_of plan.side s q).d) (map (share_at plan.shares) (slice_range live t.r0 t.r1))) (slice_range candidates t.c0 t.c1)
      → items ≡ part_totals plan k
  totals_filled items before =
      let e = range_of plan k in
      let nodes = nodes_of plan.side in
      before
      ∙ ap (λ xs. map (λ q. total_by (λ s. (nodes_of plan.side s q).d) (map (share_at plan.shares) (slice_range xs t.r0 t.r1))) (slice_range candidates t.c0 t.c1)) same_live
      ∙ ap (λ qs. map (λ q. total_by (λ s. (nodes_of plan.side s q).d) (map (share_at plan.shares) (slice_range plan.live t.r0 t.r1))) (slice_range qs t.c0 t.c1)) same_candidates
      ∙ ap made_totals (sym (ends plan k t fits is inside))
      ∙ map-same _ _ (λ q. ap (total_by (λ s. (nodes s q).d)) (sym (map_slice (share_at plan.shares) plan.live e.r0 e.r1))
      ∙ count_is (cut plan.tiles) nodes (live_shares plan) plan.candidates k q rising.0) (slice_range plan.candidates e.c0 e.c1)
