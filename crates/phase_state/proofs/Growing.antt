-- What adding a tile's part makes of the sums, and what all parts add up to.
use Rattle.std.proofs.Common.{◌≡◌, ℕ, suc, ◌+◌, ◌≤◌, ◌%◌, List, [], ◌∷◌, ◌++◌, length, map, refl, sym, ◌∙◌, ap, arith}
use Rattle.std.specs.Prelude.{slice_range}
use Rattle.std.proofs.Math.Nat.{mod-mod}
use Rattle.std.proofs.lemmas.List.{length-map}
use Rattle.definitions.specs.Field.{modulus, add, total_by}
use Rattle.definitions.specs.Evaluation.{Node}
use Rattle.definitions.specs.Sketch.{Sums, sums_added, squared, partial_sums_from}
use Rattle.definitions.proofs.FieldLaws.{total_by-append}
use Rattle.walk_definitions.specs.Heard.{paired}
use Rattle.core_definitions.specs.Tiles.{TilePlan, numbered, no_sums, tile, has_report, has_candidate, part_by, sums_within, sums_at, tile_sums, sums_of_tiles, total_at, tile_totals, totals_of_tiles}
use Rattle.core_definitions.proofs.Sums.{same_sums, numbered-total}
use Rattle.core_definitions.proofs.Values.{map-same, paired-map}
use Rattle.core_definitions.proofs.Slices.{part-slice, weighted-slice}
use Rattle.core_definitions.proofs.Posts.{added-range}
use Rattle.phase_state.specs.Loops.{grown}
use Rattle.phase_state.proofs.Steps.{total_push}

length-numbered : {X : Type 0} (at : ℕ) (xs : List X) → length (numbered at xs) ≡ length xs
length-numbered at [] = refl
length-numbered at (x ∷ xs) = ap suc (length-numbered (at + 1) xs)

reduced : {X : Type 0} (f : X → ℕ) (xs : List X) → add (total_by f xs) 0 ≡ total_by f xs
unfolding add total_by
reduced f xs = let e : total_by f xs + 0 ≡ total_by f xs = omega arith in ap (λ n. n % modulus) e ∙ mod-mod _ modulus

-- adding nothing changes no item
abbrev Stay : {Y : Type 0} → (Y → Y → Y) → Y → List Y → Type 0
Stay plus nothing [] = Unit {0}
Stay plus nothing (y ∷ ys) = (plus y nothing ≡ y) × Stay plus nothing ys

all_stay : {X Y : Type 0} (plus : Y → Y → Y) (nothing : Y) (f : X → Y) → ((x : X) → plus (f x) nothing ≡ f x) → (xs : List X) → Stay plus nothing (map f xs)
all_stay plus nothing f h [] = tt
all_stay plus nothing f h (x ∷ xs) = (h x, all_stay plus nothing f h xs)

module _ {R C : Type 0} (plan : TilePlan) (coins : R → ℕ → ℕ) (nodes : R → C → Node) (live : List R) (candidates : List C) where
  abbrev pub part : ℕ → R → Sums
  part k s = sums_within (has_candidate plan k) (coins s) (nodes s) candidates

  sums_more : (ks : List ℕ) (k : ℕ)
      → paired sums_added (sums_of_tiles plan coins nodes live candidates ks) (tile_sums plan coins nodes live candidates k)
      ≡ sums_of_tiles plan coins nodes live candidates (ks ++ k ∷ [])
  unfolding sums_of_tiles tile_sums
  sums_more ks k =
      paired-map sums_added _ _ (numbered 0 live)
      ∙ map-same _ _ (λ r. same_sums _ _ _ _ _ _
      (sym (total_push (λ k. (sums_at plan coins nodes live candidates r k).x) ks k))
      (sym (total_push (λ k. (sums_at plan coins nodes live candidates r k).y) ks k))
      (sym (total_push (λ k. (sums_at plan coins nodes live candidates r k).z) ks k))) (numbered 0 live)

  -- the sums of two lists of tiles, place by place
  pub sums_joined : (ks js : List ℕ)
      → paired sums_added (sums_of_tiles plan coins nodes live candidates ks) (sums_of_tiles plan coins nodes live candidates js)
      ≡ sums_of_tiles plan coins nodes live candidates (ks ++ js)
  unfolding sums_of_tiles
  sums_joined ks js =
      paired-map sums_added _ _ (numbered 0 live)
      ∙ map-same _ _ (λ r. same_sums _ _ _ _ _ _
      (sym (total_by-append (λ k. (sums_at plan coins nodes live candidates r k).x) ks js))
      (sym (total_by-append (λ k. (sums_at plan coins nodes live candidates r k).y) ks js))
      (sym (total_by-append (λ k. (sums_at plan coins nodes live candidates r k).z) ks js))) (numbered 0 live)

  pub sums_length : (ks : List ℕ) → length (sums_of_tiles plan coins nodes live candidates ks) ≡ length live
  unfolding sums_of_tiles
  sums_length ks = length-map (numbered 0 live) _ ∙ length-numbered 0 live

  pub sums_grown : (ks : List ℕ) (k : ℕ) → (tile plan k).r0 ≤ (tile plan k).r1
      → grown sums_added (sums_of_tiles plan coins nodes live candidates ks) (tile plan k).r0 (tile plan k).r1 (map (part k) (slice_range live (tile plan k).r0 (tile plan k).r1))
      ≡ sums_of_tiles plan coins nodes live candidates (ks ++ k ∷ [])
  unfolding sums_of_tiles tile_sums sums_at
  sums_grown ks k h =
      sym (added-range sums_added no_sums (part k) (tile plan k).r0 (tile plan k).r1 (sums_of_tiles plan coins nodes live candidates ks) live h (sums_length ks)
      (all_stay sums_added no_sums _ (λ r. same_sums _ _ _ _ _ _
      (reduced (λ k. (sums_at plan coins nodes live candidates r k).x) ks)
      (reduced (λ k. (sums_at plan coins nodes live candidates r k).y) ks)
      (reduced (λ k. (sums_at plan coins nodes live candidates r k).z) ks)) (numbered 0 live)))
      ∙ sums_more ks k

  -- the part of a tile, over the range of its candidates alone
  pub part_is : (k : ℕ) (s : R) → (tile plan k).c0 ≤ (tile plan k).c1
      → partial_sums_from (coins s) (tile plan k).c0 (map (λ q. (nodes s q).d) (slice_range candidates (tile plan k).c0 (tile plan k).c1))
      (map (λ q. (nodes s q).e) (slice_range candidates (tile plan k).c0 (tile plan k).c1)) ≡ part k s
  part_is k s h = same_sums _ _ _ _ _ _
      (sym (weighted-slice (coins s) (λ q. (nodes s q).d) (tile plan k).c0 (tile plan k).c1 candidates h))
      (sym (weighted-slice (squared (coins s)) (λ q. (nodes s q).d) (tile plan k).c0 (tile plan k).c1 candidates h))
      (sym (weighted-slice (coins s) (λ q. (nodes s q).e) (tile plan k).c0 (tile plan k).c1 candidates h))

module _ {R C : Type 0} (plan : TilePlan) (nodes : R → C → Node) (live : List R) (candidates : List C) where
  abbrev pub count : ℕ → C → ℕ
  count k q = part_by (has_report plan k) (λ r. (nodes r.item q).d) (numbered 0 live)

  totals_more : (ks : List ℕ) (k : ℕ)
      → paired add (totals_of_tiles plan nodes live candidates ks) (tile_totals plan nodes live candidates k)
      ≡ totals_of_tiles plan nodes live candidates (ks ++ k ∷ [])
  unfolding totals_of_tiles tile_totals
  totals_more ks k =
      paired-map add _ _ (numbered 0 candidates)
      ∙ map-same _ _ (λ q. sym (total_push (total_at plan nodes live candidates q) ks k)) (numbered 0 candidates)

  -- the totals of two lists of tiles, place by place
  pub totals_joined : (ks js : List ℕ)
      → paired add (totals_of_tiles plan nodes live candidates ks) (totals_of_tiles plan nodes live candidates js)
      ≡ totals_of_tiles plan nodes live candidates (ks ++ js)
  unfolding totals_of_tiles
  totals_joined ks js =
      paired-map add _ _ (numbered 0 candidates)
      ∙ map-same _ _ (λ q. sym (total_by-append (total_at plan nodes live candidates q) ks js)) (numbered 0 candidates)

  pub totals_length : (ks : List ℕ) → length (totals_of_tiles plan nodes live candidates ks) ≡ length candidates
  unfolding totals_of_tiles
  totals_length ks = length-map (numbered 0 candidates) _ ∙ length-numbered 0 candidates

  pub totals_grown : (ks : List ℕ) (k : ℕ) → (tile plan k).c0 ≤ (tile plan k).c1
      → grown add (totals_of_tiles plan nodes live candidates ks) (tile plan k).c0 (tile plan k).c1 (map (count k) (slice_range candidates (tile plan k).c0 (tile plan k).c1))
      ≡ totals_of_tiles plan nodes live candidates (ks ++ k ∷ [])
  unfolding totals_of_tiles tile_totals total_at
  totals_grown ks k h =
      sym (added-range add 0 (count k) (tile plan k).c0 (tile plan k).c1 (totals_of_tiles plan nodes live candidates ks) candidates h (totals_length ks)
      (all_stay add 0 _ (λ q. reduced (total_at plan nodes live candidates q) ks) (numbered 0 candidates)))
      ∙ totals_more ks k

  -- the total of a tile, over the range of its reports alone
  pub count_is : (k : ℕ) (q : C) → (tile plan k).r0 ≤ (tile plan k).r1
      → total_by (λ s. (nodes s q).d) (slice_range live (tile plan k).r0 (tile plan k).r1) ≡ count k q
  count_is k q h =
      sym (part-slice (λ r. (nodes r.item q).d) (tile plan k).r0 (tile plan k).r1 live h
      ∙ numbered-total (λ s. (nodes s q).d) (tile plan k).r0 (slice_range live (tile plan k).r0 (tile plan k).r1))
