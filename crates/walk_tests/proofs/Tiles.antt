-- A thousand reports and 64 candidates are few tiles, however small.
use Rattle.std.proofs.Common.{ℕ, ◌+◌, ◌*◌, ◌/◌, ◌%◌, ◌<◌, ◌≤◌, ◌^◌, min, arith}
use Rattle.std.specs.Int.{div_ceil}
use Rattle.std.proofs.Math.Nat.{div-le_self}
use Rattle.std.proofs.lemmas.Nat.{mul-le}
use Rattle.tile_claims.specs.Plans.{plan_of, tiles_of}

ceil_most : (n d : ℕ) → div_ceil n d ≤ n + 1
ceil_most n d = omega (arith, div-le_self n d)

pub few_tiles : (reports by_reports by_candidates : ℕ) → reports ≤ 1000 → tiles_of (plan_of reports 64 by_reports by_candidates) < 2 ^ 31
few_tiles reports by_reports by_candidates few =
    omega (
      arith,
      mul-le (div_ceil reports by_reports) (div_ceil 64 by_candidates) 1001 65 (omega (arith, few, ceil_most reports by_reports)) (omega (arith, ceil_most 64 by_candidates)),
    )
