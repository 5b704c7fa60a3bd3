-- A row of n things cut into blocks of d: where the blocks lie, and that the tiles of a plan cover each pair once.
use Rattle.std.proofs.Common.{◌≡◌, ℕ, zero, suc, ◌+◌, ◌-◌, ◌*◌, ◌/◌, ◌%◌, ◌<◌, ◌≤◌, ◌⊎◌, min, refl, ap, ◌∙◌, ⊎_elim, arith}
use Rattle.std.specs.Int.{div_ceil}
use Rattle.std.proofs.Math.Nat.{add-mul, zero-mul, mul-zero}
use Rattle.std.proofs.lemmas.Bool.{cases_lt}
use Rattle.std.proofs.lemmas.Nat.{div-add-mod', mod_below, div-mul-add, mod-mul-add, div_below, mul-le}
use Rattle.tile_claims.specs.Plans.{Plan, plan_of, blocks_of, rows_of, tiles_of, block_of, row_of, tile_of, HasPair, CoversEachPairOnce, IsPartOf}

at_zero : (q : ℕ) → q + min 1 0 ≡ q
at_zero q = omega arith

at_more : (q m : ℕ) → q + min 1 (suc m) ≡ q + 1
at_more q m = omega arith

-- the blocks reach to the end
ceil_covers : (n d : ℕ) → 0 < d → n ≤ div_ceil n d * d
ceil_covers n d pos = covers (n / d) (n % d) (div-add-mod' n d) (mod_below n d pos)
  where
    covers : (q m : ℕ) → q * d + m ≡ n → m < d → n ≤ (q + min 1 m) * d
    covers q zero e lt = omega (arith, e, ap (λ t. t * d) (at_zero q))
    covers q (suc m) e lt = omega (arith, e, lt, ap (λ t. t * d) (at_more q m), add-mul q 1 d)

-- each block begins before the end
begins_below : (n d q : ℕ) → 0 < d → q < div_ceil n d → q * d < n
begins_below n d q pos = begins (n / d) (n % d) (div-add-mod' n d)
  where
    begins : (t m : ℕ) → t * d + m ≡ n → q < t + min 1 m → q * d < n
    begins t zero e lt = omega (arith, e, pos, add-mul q 1 d, mul-le (q + 1) d t d (omega (arith, lt)) (omega arith))
    begins t (suc m) e lt = omega (arith, e, mul-le q d t d (omega (arith, lt)) (omega arith))

-- nothing has no block
no_blocks : (n d : ℕ) → 0 < d → n ≡ 0 → div_ceil n d ≡ 0
no_blocks n d pos none = by_count (div_ceil n d) (begins_below n d 0 pos)
  where
    by_count : (k : ℕ) → (0 < k → 0 * d < n) → k ≡ 0
    by_count zero h = refl
    by_count (suc k) h = absurd (omega (arith, h (omega arith), none))

-- fewer things have no more blocks
ceil_mono : (m n d : ℕ) → 0 < d → m ≤ n → div_ceil m d ≤ div_ceil n d
ceil_mono m n d pos le =
    ⊎_elim
    (λ (more : div_ceil n d < div_ceil m d). absurd (omega (arith, begins_below m d (div_ceil n d) pos more, ceil_covers n d pos, le)))
    (λ fewer. fewer)
    (cases_lt (div_ceil n d) (div_ceil m d))

-- a place is in one block alone
block_is : (x d q : ℕ) → q * d ≤ x → x < q * d + d → x / d ≡ q
block_is x d q low high = ap (λ y. y / d) whole ∙ div-mul-add q d (x - q * d) (omega (arith, low, high))
  where
    whole : x ≡ q * d + (x - q * d)
    whole = omega (arith, low)

module _ (p : Plan) (by_reports : 0 < p.by_reports) (by_candidates : 0 < p.by_candidates) where
  -- the number of the tile of a pair
  abbrev number : ℕ → ℕ → ℕ
  number r c = r / p.by_reports * blocks_of p + c / p.by_candidates

  module _ (r c : ℕ) (r_below : r < p.reports) (c_below : c < p.candidates) where
    in_block : c / p.by_candidates < blocks_of p
    in_block = div_below c p.by_candidates (blocks_of p) by_candidates (omega (arith, c_below, ceil_covers p.candidates p.by_candidates by_candidates))

    in_row : r / p.by_reports < rows_of p
    in_row = div_below r p.by_reports (rows_of p) by_reports (omega (arith, r_below, ceil_covers p.reports p.by_reports by_reports))

    is_a_tile : number r c < tiles_of p
    is_a_tile = omega (arith, in_block, add-mul (r / p.by_reports) 1 (blocks_of p), mul-le (r / p.by_reports + 1) (blocks_of p) (rows_of p) (blocks_of p) (omega (arith, in_row)) (omega arith))

    of_row : row_of p (number r c) ≡ r / p.by_reports
    of_row = div-mul-add (r / p.by_reports) (blocks_of p) (c / p.by_candidates) in_block

    of_block : block_of p (number r c) ≡ c / p.by_candidates
    of_block = mod-mul-add (r / p.by_reports) (blocks_of p) (c / p.by_candidates) in_block

    holds : HasPair (tile_of p (number r c)) r c
    holds =
        let r_at = div-add-mod' r p.by_reports in
        let r_in = mod_below r p.by_reports by_reports in
        let c_at = div-add-mod' c p.by_candidates in
        let c_in = mod_below c p.by_candidates by_candidates in
        let row = ap (λ t. t * p.by_reports) of_row in
        let block = ap (λ t. t * p.by_candidates) of_block in
        (omega (arith, row, r_at), omega (arith, row, r_at, r_in, r_below), omega (arith, block, c_at), omega (arith, block, c_at, c_in, c_below))

    alone : (k : ℕ) → HasPair (tile_of p k) r c → k ≡ number r c
    alone k h =
        let row : r / p.by_reports ≡ row_of p k = block_is r p.by_reports (row_of p k) h.0 (omega (arith, h.1)) in
        let block : c / p.by_candidates ≡ block_of p k = block_is c p.by_candidates (block_of p k) h.2 (omega (arith, h.3)) in
        omega (arith, div-add-mod' k (blocks_of p), ap (λ t. t * blocks_of p) row, block)

  -- each pair is in exactly one tile
  pub covers_each_pair_once : CoversEachPairOnce p.reports p.candidates (tiles_of p) (tile_of p)
  covers_each_pair_once r c r_below c_below = (number r c, (is_a_tile r c r_below c_below, holds r c r_below c_below), λ k h. alone r c r_below c_below k h.1)

  -- a tile begins before the end, so it has a pair
  module _ (k : ℕ) (below : k < tiles_of p) where
    pub some_blocks : 0 < blocks_of p
    some_blocks = some (blocks_of p) below
      where
        some : (b : ℕ) → k < rows_of p * b → 0 < b
        some zero h = absurd (omega (arith, h))
        some (suc b) h = omega arith

    pub row_begins : row_of p k * p.by_reports < p.reports
    row_begins = begins_below p.reports p.by_reports (row_of p k) by_reports (div_below k (blocks_of p) (rows_of p) some_blocks below)

    pub block_begins : block_of p k * p.by_candidates < p.candidates
    block_begins = begins_below p.candidates p.by_candidates (block_of p k) by_candidates (mod_below k (blocks_of p) some_blocks)

    pub tile_is_part : IsPartOf p.reports p.candidates (tile_of p k)
    tile_is_part = (omega (arith, row_begins), omega arith, omega (arith, block_begins), omega arith)

  -- an empty plan has no tile
  pub no_tiles : (p.reports ≡ 0) ⊎ (p.candidates ≡ 0) → tiles_of p ≡ 0
  no_tiles none =
      ⊎_elim
      (λ (reports : p.reports ≡ 0). ap (λ k. k * blocks_of p) (no_blocks p.reports p.by_reports by_reports reports) ∙ zero-mul (blocks_of p))
      (λ (candidates : p.candidates ≡ 0). ap (λ k. rows_of p * k) (no_blocks p.candidates p.by_candidates by_candidates candidates) ∙ mul-zero (rows_of p))
      none

-- a plan of fewer reports and fewer candidates has no more tiles
pub fewer_tiles : (reports more_reports candidates more_candidates by_reports by_candidates : ℕ) → 0 < by_reports → 0 < by_candidates
    → reports ≤ more_reports → candidates ≤ more_candidates
    → tiles_of (plan_of reports candidates by_reports by_candidates) ≤ tiles_of (plan_of more_reports more_candidates by_reports by_candidates)
fewer_tiles reports more_reports candidates more_candidates by_reports by_candidates some_reports some_candidates rows blocks =
    mul-le _ _ _ _ (ceil_mono reports more_reports by_reports some_reports rows) (ceil_mono candidates more_candidates by_candidates some_candidates blocks)
