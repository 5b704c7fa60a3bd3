-- The tiles of the code are those of the definitions.
use Rattle.std.proofs.Common.{◌≡◌, ℕ, zero, suc, ◌+◌, ◌-◌, ◌*◌, ◌/◌, ◌%◌, ◌<◌, min, refl, sym, ◌∙◌, ap, arith}
use Rattle.std.specs.Int.{div_ceil}
use Rattle.std.proofs.lemmas.Nat.{div-add-mod', div-mul-add, mod_below}
use Rattle.tile_claims.specs.Plans.{Plan, tiles_of, tile_of}
use Rattle.tile_claims.specs.declared.tiles.Tile.{Tile}
use Rattle.core_definitions.specs.Tiles as tiles
use Rattle.phase_state.specs.Sums.{cut}

ceil_is : (count by : ℕ) → 0 < by → tiles.blocks_of count by ≡ div_ceil count by
ceil_is count by some =
    let whole = div-add-mod' count by in
    let low = mod_below count by some in
    at (count % by) refl whole low
  where
    at : (r : ℕ) → count % by ≡ r → count / by * by + count % by ≡ count → count % by < by → (count + (by - 1)) / by ≡ count / by + min 1 (count % by)
    at zero e whole low =
        let sum : count + (by - 1) ≡ count / by * by + (by - 1) = omega (arith, whole, e) in
        let none : count / by ≡ count / by + min 1 (count % by) = grind (arith, e) in
        ap (λ n. n / by) sum ∙ div-mul-add (count / by) by (by - 1) (omega (arith, some)) ∙ none
    at (suc r) e whole low =
        let next : (count / by + 1) * by ≡ count / by * by + by = omega arith in
        let sum : count + (by - 1) ≡ (count / by + 1) * by + r = omega (arith, whole, e, next, some) in
        let one : count / by + 1 ≡ count / by + min 1 (count % by) = grind (arith, e) in
        ap (λ n. n / by) sum ∙ div-mul-add (count / by + 1) by r (omega (arith, low, e)) ∙ one

min_is : (a b : ℕ) → tiles.at_most a b ≡ min a b
min_is a b = grind arith

pub count_is : (p : Plan) → 0 < p.by_reports → 0 < p.by_candidates → tiles.tiles (cut p) ≡ tiles_of p
unfolding tiles.tiles
count_is p r c =
    ap (λ n. n * tiles.blocks_of p.candidates p.by_candidates) (ceil_is p.reports p.by_reports r)
    ∙ ap (λ n. div_ceil p.reports p.by_reports * n) (ceil_is p.candidates p.by_candidates c)

abbrev same_ends : Tile → tiles.Tile
same_ends t = record { r0 = t.r0; r1 = t.r1; c0 = t.c0; c1 = t.c1 }

abbrev of_ends : ℕ → ℕ → ℕ → ℕ → tiles.Tile
of_ends a b c d = record { r0 = a; r1 = b; c0 = c; c1 = d }

made : (a a' b b' c c' d d' : ℕ) → a ≡ a' → b ≡ b' → c ≡ c' → d ≡ d' → of_ends a b c d ≡ of_ends a' b' c' d'
made a a' b b' c c' d d' e f g h = cc

-- tile k of the definitions, with the ends that the code tells
pub tile_is : (p : Plan) (k : ℕ) (t : Tile) → 0 < p.by_candidates → t ≡ tile_of p k → tiles.tile (cut p) k ≡ same_ends t
unfolding tiles.tile
tile_is p k t some is =
    let blocks : tiles.blocks (cut p) ≡ div_ceil p.candidates p.by_candidates = ceil_is p.candidates p.by_candidates some in
    let row = ap (λ w. k / w * p.by_reports) blocks in
    let column = ap (λ w. k % w * p.by_candidates) blocks in
    let row_end = ap (λ a. tiles.at_most (a + p.by_reports) p.reports) row ∙ min_is _ p.reports in
    let column_end = ap (λ a. tiles.at_most (a + p.by_candidates) p.candidates) column ∙ min_is _ p.candidates in
    made _ _ _ _ _ _ _ _ row row_end column column_end ∙ ap same_ends (sym is)
