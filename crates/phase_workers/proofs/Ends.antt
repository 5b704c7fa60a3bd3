-- What the final log has, from all drawers and all passes.
use Rattle.std.proofs.Common.{◌≡◌, ℕ, ◌<◌, ◌≤◌, Bool, true, false, nat_lt, if◌then◌else◌, List, [], ◌∷◌, length, sum_by, refl, arith}
use Rattle.std.proofs.lemmas.List.Sums.{sum_by-cons}
use Rattle.std.proofs.lemmas.Bool.Decides.{nat_tests}
use Rattle.std.specs.List.{AllByRecursion}
use Rattle.core_definitions.specs.Phase.{Posting}
use Rattle.phase_state.specs.Logs.{posts}
use Rattle.tile_claims.specs.Lists.{times, once_below}
use Rattle.level_totals.specs.Levels.{Has}
use Rattle.phase_workers.specs.Crews.{Did, IsLast, Pairs}
use Rattle.phase_workers.proofs.Together.{some_pair}
use Rattle.phase_state.proofs.Marks.{below_is}

is_below : (x n : ℕ) → 0 < once_below x n → x < n
is_below x n pos = go (nat_lt x n) refl pos
  where
    go : (b : Bool) → nat_lt x n ≡ b → ◌<◌ 0 (if b then 1 else 0) → x < n
    go true e p = grind (arith, nat_tests)
    go false e p = absurd (omega (arith, p))

module _ {X Y : Type 0} (drawn : X → List ℕ) (seen own : Y → List Posting) (tells : Bool) (rule : ℕ → Bool) (tiles n : ℕ) (log : List Posting) where
  abbrev pub Both : X → Y → Type 0
  Both d p = IsLast tiles (drawn d) × Did tells rule tiles (drawn d) (seen p) (own p)

  drew_all : (ds : List X) (ps : List Y) → Pairs Both ds ps → 0 < length ds → ((x : ℕ) → sum_by (λ d. times x (drawn d)) ds ≡ once_below x n) → tiles ≤ n
  drew_all [] ps pairs some once = absurd (omega (arith, some))
  drew_all (d ∷ ds) [] pairs some once = absurd pairs
  drew_all (d ∷ ds) (p ∷ ps) pairs some once =
      let last = pairs.0.0 in
      let less = is_below last.0 n (omega (arith, once last.0, sum_by-cons (λ (z : X). times last.0 (drawn z)) d ds, last.2)) in
      omega (arith, less, last.1)

  pub each_there : (ds : List X) (ps : List Y) → Pairs Both ds ps → 0 < length ds → ((x : ℕ) → sum_by (λ d. times x (drawn d)) ds ≡ once_below x n)
      → AllByRecursion (λ p. Has (seen p) log) ps → tells ≡ true → (k : ℕ) → k < tiles → rule k ≡ false → 0 < posts k log
  each_there ds ps pairs some once pre t k less not_left =
      let all = drew_all ds ps pairs some once in
      some_pair Both (λ d. times k (drawn d)) (λ p. Has (seen p) log) (0 < posts k log) ds ps pairs pre
      (λ d p pos both has. let there = both.1.went t k less pos not_left in omega (arith, there, has k))
      (omega (arith, once k, below_is k n (omega (arith, all, less))))
