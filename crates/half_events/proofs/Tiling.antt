-- Sums over all of a list, and how many tiles there are.
use Rattle.std.proofs.Common.{◌≡◌, ℕ, zero, suc, ◌+◌, ◌*◌, ◌/◌, ◌%◌, ◌≤◌, min, List, map, take, length, ◌∙◌, ap, arith}
use Rattle.std.specs.Int.{div_ceil}
use Rattle.std.proofs.lemmas.List.{take_all}
use Rattle.std.proofs.lemmas.Nat.{div-add-mod', mul-le}
use Rattle.definitions.specs.Sketch.{Sums, squared, weighted, partial_sums_from}
use Rattle.tile_claims.specs.Plans.{Plan, tiles_of}

made : (x y z a b c : ℕ) → x ≡ a → y ≡ b → z ≡ c → ◌≡◌ {A = Sums} (record { x = x; y = y; z = z }) (record { x = a; y = b; z = c })
made x y z a b c e f g = cc

-- the sums over the first of a list, where they are all of it
pub sums-whole : {X : Type 0} (r : ℕ → ℕ) (first : ℕ) (d e : X → ℕ) (n : ℕ) (qs : List X) (sums : Sums) → length qs ≤ n
    → sums.x ≡ weighted r first (map d (take n qs)) → sums.y ≡ weighted (squared r) first (map d (take n qs)) → sums.z ≡ weighted r first (map e (take n qs))
    → sums ≡ partial_sums_from r first (map d qs) (map e qs)
sums-whole r first d e n qs sums h x y z =
    let all = take_all n qs h in
    made sums.x sums.y sums.z _ _ _ (x ∙ ap (λ l. weighted r first (map d l)) all) (y ∙ ap (λ l. weighted (squared r) first (map d l)) all)
    (z ∙ ap (λ l. weighted r first (map e l)) all)

-- ---- how many tiles there are

ceil-most : (n d : ℕ) → 1 ≤ d → div_ceil n d ≤ n
ceil-most n d some = at (n % d) (div-add-mod' n d)
  where
    grows : n / d ≤ n / d * d
    grows = let g = mul-le (n / d) 1 (n / d) d (omega arith) some in omega (arith, g)

    at : (r : ℕ) → n / d * d + r ≡ n → n / d + min 1 r ≤ n
    at zero e = omega (arith, e, grows)
    at (suc r) e = omega (arith, e, grows)

pub tiles-most : (p : Plan) → 1 ≤ p.by_reports → 1 ≤ p.by_candidates → tiles_of p ≤ p.reports * p.candidates
tiles-most p r c =
    mul-le (div_ceil p.reports p.by_reports) (div_ceil p.candidates p.by_candidates) p.reports p.candidates (ceil-most p.reports p.by_reports r)
    (ceil-most p.candidates p.by_candidates c)
