-- What a post keeps of a phase's state, and what the state tells.
use Rattle.std.proofs.Common.{◌≡◌, ℕ, ◌+◌, ◌<◌, ◌≤◌, Bool, true, false, cond, List, [], ◌∷◌, ◌++◌, length, map, count_by, set, replicate, slice_index_or, refl, ap, sym, ◌∙◌, subst, arith, inl, inr}
use Rattle.std.specs.Prelude.{nat_eq, slice_range}
use Rattle.std.proofs.lemmas.List.{length-map, length-set, length-replicate, length-append}
use Rattle.std.proofs.lemmas.Bool.{cases_lt}
use Rattle.definitions.specs.Field.{add}
use Rattle.definitions.specs.Evaluation.{Share, Node}
use Rattle.definitions.proofs.FieldLaws.{total_by-nil}
use Rattle.core_definitions.proofs.Values.{map-same}
use Rattle.definitions.specs.Sketch.{Sums, sums_added}
use Rattle.tile_claims.specs.Lists.{once_below}
use Rattle.tile_claims.specs.Plans.{tiles_of, tile_of, IsPartOf}
use Rattle.tile_claims.specs.declared.tiles.Tile.{Tile}
use Rattle.core_definitions.specs.Phase.{Posting}
use Rattle.core_definitions.specs.Tiles as tiles
use Rattle.core_definitions.proofs.Plan.{covers_is, tile_of-below}
use Rattle.core_definitions.proofs.Sums.{same_sums, CoverOnce, count_by-same, sums_whole as all_sums, totals_whole as all_totals}
use Rattle.phase_state.specs.declared.kind.Kind.{Kind}
use Rattle.phase_state.specs.declared.kind.Kind.TheVariants.{Sketch, Totals}
use Rattle.phase_state.specs.declared.part.Part.{Part}
use Rattle.phase_state.specs.declared.part.Part.TheVariants.{Sketch as OfSketch, Totals as OfTotals}
use Rattle.phase_state.specs.declared.phase_plan.PlanSeen.{PlanSeen}
use Rattle.phase_state.specs.Sums.{cut, range_of, share_at, live_shares, nodes_of, coins_of, in_sketch, in_totals, sums_of, totals_of, plain_sums, plain_totals, part_sums, part_totals, IsPhasePlan}
use Rattle.phase_state.specs.Logs.{tiles_in, posting, EachAtMostOnce, EachOnce}
use Rattle.phase_state.specs.Loops.{grown, sums_with, totals_with, FitsTile}
use Rattle.phase_state.specs.Phases.{IsPhase, IsPart}
use Rattle.phase_state.proofs.Lists.{map_push, slice_length}
use Rattle.phase_state.proofs.Cutting.{count_is, tile_is}
use Rattle.phase_state.proofs.Growing.{sums_length, sums_grown, totals_length, totals_grown}
use Rattle.phase_state.proofs.Marks.{below_is, below_not, mark_none, count_none, count_less, count_set, mark_set, mark_below, past_none, full_marks, marks_full}

pub sums_count : (plan : PlanSeen) (ks : List ℕ) → length (sums_of plan ks) ≡ length plan.live
sums_count plan ks = sums_length (cut plan.tiles) (coins_of plan.verify plan.level) (nodes_of plan.side) (live_shares plan) plan.candidates (in_sketch plan.kind ks) ∙ length-map plan.live _

pub totals_count : (plan : PlanSeen) (ks : List ℕ) → length (totals_of plan ks) ≡ length plan.candidates
totals_count plan ks = totals_length (cut plan.tiles) (nodes_of plan.side) (live_shares plan) plan.candidates (in_totals plan.kind ks)

-- ---- a tile's part fits the tile

module _ (plan : PlanSeen) (k : ℕ) (t : Tile) (fits : IsPhasePlan plan) (is : t ≡ tile_of plan.tiles k) (inside : IsPartOf plan.tiles.reports plan.tiles.candidates t) where
  pub ends : range_of plan k ≡ record { r0 = t.r0; r1 = t.r1; c0 = t.c0; c1 = t.c1 }
  ends = tile_is plan.tiles k t fits.sizes.1 is

  r0_is : (range_of plan k).r0 ≡ t.r0
  r0_is = ap (λ (e : tiles.Tile). e.r0) ends

  r1_is : (range_of plan k).r1 ≡ t.r1
  r1_is = ap (λ (e : tiles.Tile). e.r1) ends

  c0_is : (range_of plan k).c0 ≡ t.c0
  c0_is = ap (λ (e : tiles.Tile). e.c0) ends

  c1_is : (range_of plan k).c1 ≡ t.c1
  c1_is = ap (λ (e : tiles.Tile). e.c1) ends

  part_reports : t.r0 + length (part_sums plan k) ≡ t.r1
  part_reports =
      let shares = length-map plan.live (λ i. i) in
      let long : length (live_shares plan) ≡ plan.tiles.reports = length-map plan.live _ ∙ sym fits.reports in
      let made = length-map (slice_range (live_shares plan) (range_of plan k).r0 (range_of plan k).r1) (λ share. tiles.sums_within (tiles.has_candidate (cut plan.tiles) k) (coins_of plan.verify plan.level share) (nodes_of plan.side share) plan.candidates) in
      let cutting = slice_length (live_shares plan) (range_of plan k).r0 (range_of plan k).r1 (omega (arith, r0_is, r1_is, inside.0)) (omega (arith, r1_is, inside.1, long)) in
      omega (arith, made, cutting, r0_is, r1_is)

  part_candidates : t.c0 + length (part_totals plan k) ≡ t.c1
  part_candidates =
      let made = length-map (slice_range plan.candidates (range_of plan k).c0 (range_of plan k).c1) (λ q. tiles.part_by (tiles.has_report (cut plan.tiles) k) (λ r. (nodes_of plan.side r.item q).d) (tiles.numbered 0 (live_shares plan))) in
      let cutting = slice_length plan.candidates (range_of plan k).c0 (range_of plan k).c1 (omega (arith, c0_is, c1_is, inside.2)) (omega (arith, c1_is, inside.3, fits.candidates)) in
      omega (arith, made, cutting, c0_is, c1_is)

  pub part_fits : (part : Part) (reports candidates : ℕ) → IsPart plan k part → reports ≡ length plan.live → candidates ≡ length plan.candidates → FitsTile t part reports candidates
  part_fits (OfSketch sums) reports candidates h r c =
      let long = ap length h.1 in
      (omega (arith, inside.0), omega (arith, inside.1, r, fits.reports), omega (arith, long, part_reports))
  part_fits (OfTotals totals) reports candidates h r c =
      let long = ap length h.1 in
      (omega (arith, inside.2), omega (arith, inside.3, c, fits.candidates), omega (arith, long, part_candidates))

  -- the sums and the totals after a post
  pub sums_posted : (part : Part) (ks : List ℕ) (old : List Sums) → IsPart plan k part → old ≡ sums_of plan ks → sums_with t part old ≡ sums_of plan (ks ++ k ∷ [])
  sums_posted (OfSketch sums) ks old h before =
      let kind = ap (λ kind. in_sketch kind ks) h.0 in
      let kind_more = ap (λ kind. in_sketch kind (ks ++ k ∷ [])) h.0 in
      let all = tiles.sums_of_tiles (cut plan.tiles) (coins_of plan.verify plan.level) (nodes_of plan.side) (live_shares plan) plan.candidates in
      let rise : (range_of plan k).r0 ≤ (range_of plan k).r1 = omega (arith, r0_is, r1_is, inside.0) in
      ap (λ xs. grown sums_added xs t.r0 t.r1 sums.now) (before ∙ ap all kind)
      ∙ ap (grown sums_added (all ks) t.r0 t.r1) h.1
      ∙ ap (λ a. grown sums_added (all ks) a t.r1 (part_sums plan k)) (sym r0_is)
      ∙ ap (λ b. grown sums_added (all ks) (range_of plan k).r0 b (part_sums plan k)) (sym r1_is)
      ∙ sums_grown (cut plan.tiles) (coins_of plan.verify plan.level) (nodes_of plan.side) (live_shares plan) plan.candidates ks k rise
      ∙ sym (ap all kind_more)
  sums_posted (OfTotals totals) ks old h before =
      let all = tiles.sums_of_tiles (cut plan.tiles) (coins_of plan.verify plan.level) (nodes_of plan.side) (live_shares plan) plan.candidates in
      before ∙ ap all (ap (λ kind. in_sketch kind ks) h.0) ∙ sym (ap all (ap (λ kind. in_sketch kind (ks ++ k ∷ [])) h.0))

  pub totals_posted : (part : Part) (ks : List ℕ) (old : List ℕ) → IsPart plan k part → old ≡ totals_of plan ks → totals_with t part old ≡ totals_of plan (ks ++ k ∷ [])
  totals_posted (OfSketch sums) ks old h before =
      let all = tiles.totals_of_tiles (cut plan.tiles) (nodes_of plan.side) (live_shares plan) plan.candidates in
      before ∙ ap all (ap (λ kind. in_totals kind ks) h.0) ∙ sym (ap all (ap (λ kind. in_totals kind (ks ++ k ∷ [])) h.0))
  totals_posted (OfTotals totals) ks old h before =
      let kind = ap (λ kind. in_totals kind ks) h.0 in
      let kind_more = ap (λ kind. in_totals kind (ks ++ k ∷ [])) h.0 in
      let all = tiles.totals_of_tiles (cut plan.tiles) (nodes_of plan.side) (live_shares plan) plan.candidates in
      let rise : (range_of plan k).c0 ≤ (range_of plan k).c1 = omega (arith, c0_is, c1_is, inside.2) in
      ap (λ xs. grown add xs t.c0 t.c1 totals.now) (before ∙ ap all kind)
      ∙ ap (grown add (all ks) t.c0 t.c1) h.1
      ∙ ap (λ a. grown add (all ks) a t.c1 (part_totals plan k)) (sym c0_is)
      ∙ ap (λ b. grown add (all ks) (range_of plan k).c0 b (part_totals plan k)) (sym c1_is)
      ∙ totals_grown (cut plan.tiles) (nodes_of plan.side) (live_shares plan) plan.candidates ks k rise
      ∙ sym (ap all kind_more)

-- ---- the state

module _ (plan : PlanSeen) (log : List Posting) (room : ℕ) (marks : List Bool) (sums : List Sums) (totals : List ℕ) (h : IsPhase plan log room marks sums totals) where
  -- there is room for one entry more, where a tile is not marked
  pub room_left : (k : ℕ) → k < tiles_of plan.tiles → slice_index_or marks k false ≡ false → length log < room
  room_left k less is = omega (arith, count_less marks k (omega (arith, less, h.long)) is, h.long, h.count, h.has_room)

  pub fits_here : (k : ℕ) (t : Tile) (part : Part) → t ≡ tile_of plan.tiles k → IsPartOf plan.tiles.reports plan.tiles.candidates t → IsPart plan k part → FitsTile t part (length sums) (length totals)
  fits_here k t part is inside p =
      part_fits plan k t h.fits is inside part (length sums) (length totals) p
      (ap length h.sums_are ∙ sums_count plan (tiles_in log)) (ap length h.totals_are ∙ totals_count plan (tiles_in log))

  pub posted : (number k : ℕ) (t : Tile) (part : Part) (new_sums : List Sums) (new_totals : List ℕ) → k < tiles_of plan.tiles → slice_index_or marks k false ≡ false
      → t ≡ tile_of plan.tiles k → IsPartOf plan.tiles.reports plan.tiles.candidates t → IsPart plan k part
      → new_sums ≡ sums_with t part sums → new_totals ≡ totals_with t part totals
      → IsPhase plan (log ++ posting number k ∷ []) room (set marks k true) new_sums new_totals
  posted number k t part new_sums new_totals less is tile_is inside p s r =
      let here : k < length marks = omega (arith, less, h.long) in
      let more = sym (map_push (λ e. e.tile) log (posting number k)) in
      record {
        fits = h.fits;
        sums_are = s ∙ sums_posted plan k t h.fits tile_is inside part (tiles_in log) sums p h.sums_are ∙ ap (sums_of plan) more;
        totals_are = r ∙ totals_posted plan k t h.fits tile_is inside part (tiles_in log) totals p h.totals_are ∙ ap (totals_of plan) more;
        once = mark_set log marks number k here is h.once;
        long = length-set marks k true ∙ h.long;
        count = length-append log (posting number k ∷ []) ∙ ap (λ m. m + 1) h.count ∙ sym (count_set marks k here is);
        has_room = h.has_room;
      }

  pub at_most_once : EachAtMostOnce (tiles_of plan.tiles) log
  at_most_once k =
      subst (λ n. n ≤ once_below k (tiles_of plan.tiles)) (sym (h.once k))
      (subst (λ n. cond {A = ℕ} (slice_index_or marks k false) 1 0 ≤ once_below k n) h.long (mark_below marks k))

  pub all_there : length log ≡ length marks → EachOnce (tiles_of plan.tiles) log
  all_there full k = elim (cases_lt k (length marks)) [
    | inl less ↦
        let marked = full_marks marks (sym h.count ∙ full) k less in
        let one : ◌≡◌ {A = ℕ} (cond (slice_index_or marks k false) 1 0) 1 = ap (λ b. cond b 1 0) marked in
        h.once k ∙ one ∙ sym (below_is k (tiles_of plan.tiles) (omega (arith, less, h.long)))
    | inr le ↦ h.once k ∙ past_none marks k le ∙ sym (below_not k (tiles_of plan.tiles) (omega (arith, le, h.long)))
  ]

  pub there_all : EachOnce (tiles_of plan.tiles) log → length log ≡ length marks
  there_all each = h.count ∙ marks_full marks (λ k less. sym (h.once k) ∙ each k ∙ below_is k (tiles_of plan.tiles) (omega (arith, less, h.long)))

  counted : EachOnce (tiles_of plan.tiles) log → (k : ℕ) → k < tiles.tiles (cut plan.tiles) → count_by (λ n. nat_eq n k) (tiles_in log) ≡ 1
  counted each k less = each k ∙ below_is k (tiles_of plan.tiles) (subst (λ n. k < n) (count_is plan.tiles h.fits.sizes.0 h.fits.sizes.1) less)

  covered : EachOnce (tiles_of plan.tiles) log → CoverOnce (cut plan.tiles) (length (live_shares plan)) (length plan.candidates) (tiles_in log)
  covered each i j o q =
      let row : i < plan.tiles.reports = omega (arith, o, h.fits.reports, length-map plan.live (share_at plan.shares)) in
      let column : j < plan.tiles.candidates = omega (arith, q, h.fits.candidates) in
      let p = cut plan.tiles in
      count_by-same _ _ (λ k. covers_is p k i j h.fits.sizes.0 h.fits.sizes.1 row column) (tiles_in log)
      ∙ counted each (tiles.tile_of p i j) (tile_of-below p i j h.fits.sizes.0 h.fits.sizes.1 row column)

  pub sums_whole : EachOnce (tiles_of plan.tiles) log → plan.kind ≡ Sketch → sums ≡ plain_sums plan
  sums_whole each kind =
      h.sums_are ∙ ap (tiles.sums_of_tiles (cut plan.tiles) (coins_of plan.verify plan.level) (nodes_of plan.side) (live_shares plan) plan.candidates) (ap (λ kind. in_sketch kind (tiles_in log)) kind)
      ∙ all_sums (cut plan.tiles) (coins_of plan.verify plan.level) (nodes_of plan.side) (live_shares plan) plan.candidates (tiles_in log) (covered each)

  pub totals_whole : EachOnce (tiles_of plan.tiles) log → plan.kind ≡ Totals → totals ≡ plain_totals plan
  totals_whole each kind =
      h.totals_are ∙ ap (tiles.totals_of_tiles (cut plan.tiles) (nodes_of plan.side) (live_shares plan) plan.candidates) (ap (λ kind. in_totals kind (tiles_in log)) kind)
      ∙ all_totals (cut plan.tiles) (coins_of plan.verify plan.level) (nodes_of plan.side) (live_shares plan) plan.candidates (tiles_in log) (covered each)

zeros : (shares : List Share) (at : ℕ) → replicate (length shares) tiles.no_sums ≡ map (λ (r : tiles.Placed Share). tiles.no_sums) (tiles.numbered at shares)
zeros [] at = refl
zeros (x ∷ xs) at = ap (λ l. tiles.no_sums ∷ l) (zeros xs (at + 1))

zero_counts : (candidates : List (List Bool)) (at : ℕ) → replicate {A = ℕ} (length candidates) 0 ≡ map (λ (q : tiles.Placed (List Bool)). 0) (tiles.numbered at candidates)
zero_counts [] at = refl
zero_counts (x ∷ xs) at = ap (λ l. 0 ∷ l) (zero_counts xs (at + 1))

none_in_sketch : (kind : Kind) → in_sketch kind [] ≡ []
none_in_sketch Sketch = refl
none_in_sketch Totals = refl

none_in_totals : (kind : Kind) → in_totals kind [] ≡ []
none_in_totals Sketch = refl
none_in_totals Totals = refl

sums_zero : {R C : Type 0} (p : tiles.TilePlan) (coins : R → ℕ → ℕ) (nodes : R → C → Node) (live : List R) (candidates : List C)
    → tiles.sums_of_tiles p coins nodes live candidates [] ≡ map (λ (r : tiles.Placed R). tiles.no_sums) (tiles.numbered 0 live)
unfolding tiles.sums_of_tiles
sums_zero p coins nodes live candidates = map-same _ _ (λ r. same_sums _ _ _ _ _ _ (total_by-nil _) (total_by-nil _) (total_by-nil _)) (tiles.numbered 0 live)

totals_zero : {R C : Type 0} (p : tiles.TilePlan) (nodes : R → C → Node) (live : List R) (candidates : List C)
    → tiles.totals_of_tiles p nodes live candidates [] ≡ map (λ (q : tiles.Placed C). 0) (tiles.numbered 0 candidates)
unfolding tiles.totals_of_tiles
totals_zero p nodes live candidates = map-same _ _ (λ q. total_by-nil _) (tiles.numbered 0 candidates)

no_sums_yet : (plan : PlanSeen) → replicate (length (live_shares plan)) tiles.no_sums ≡ sums_of plan []
no_sums_yet plan =
    zeros (live_shares plan) 0
    ∙ sym (sums_zero (cut plan.tiles) (coins_of plan.verify plan.level) (nodes_of plan.side) (live_shares plan) plan.candidates)
    ∙ sym (ap (tiles.sums_of_tiles (cut plan.tiles) (coins_of plan.verify plan.level) (nodes_of plan.side) (live_shares plan) plan.candidates) (none_in_sketch plan.kind))

no_totals_yet : (plan : PlanSeen) → replicate {A = ℕ} (length plan.candidates) 0 ≡ totals_of plan []
no_totals_yet plan =
    zero_counts plan.candidates 0
    ∙ sym (totals_zero (cut plan.tiles) (nodes_of plan.side) (live_shares plan) plan.candidates)
    ∙ sym (ap (tiles.totals_of_tiles (cut plan.tiles) (nodes_of plan.side) (live_shares plan) plan.candidates) (none_in_totals plan.kind))

-- nothing is posted
pub fresh : (plan : PlanSeen) (room : ℕ) (log : List Posting) (marks : List Bool) (sums : List Sums) (totals : List ℕ) → IsPhasePlan plan → log ≡ [] → marks ≡ replicate (tiles_of plan.tiles) false
    → sums ≡ replicate (length plan.live) tiles.no_sums → totals ≡ replicate (length plan.candidates) 0 → tiles_of plan.tiles ≤ room
    → IsPhase plan log room marks sums totals
fresh plan room log marks sums totals fits l m s t r = record {
  fits = fits;
  sums_are = s ∙ ap (λ n. replicate n tiles.no_sums) (sym (length-map plan.live _)) ∙ no_sums_yet plan ∙ ap (λ l. sums_of plan (tiles_in l)) (sym l);
  totals_are = t ∙ no_totals_yet plan ∙ ap (λ l. totals_of plan (tiles_in l)) (sym l);
  once = λ k. rw (l, m) (mark_none (tiles_of plan.tiles) k);
  long = rw m (length-replicate (tiles_of plan.tiles) false);
  count = rw (l, m) (count_none (tiles_of plan.tiles));
  has_room = r;
}
