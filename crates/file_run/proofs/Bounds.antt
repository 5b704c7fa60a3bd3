-- The tiles of as many reports as a share file can hold.
use Rattle.std.proofs.Common.{◌≡◌, ℕ, ◌+◌, ◌*◌, ◌<◌, ◌≤◌, ◌^◌, length, refl, arith}
use Rattle.std.proofs.lemmas.Nat.{mul-le}
use Rattle.tile_claims.specs.Plans.{plan_of, tiles_of}
use Rattle.tile_claims.proofs.Cutting.{fewer_tiles}
use Rattle.share_lists.specs.FileLists.{ShareLists}
use Rattle.share_lists.specs.Bounds.{IsWithinAFile}

-- a record has at least 600 bytes, and a file at most 2 ^ 28
pub within_a_file : (lists : ShareLists) → IsWithinAFile lists → length lists.shares ≤ 2 ^ 21
within_a_file lists h =
    let n = length lists.shares + length lists.malformed in
    let many : 128 * n ≤ (80 + 520 * lists.width) * n = mul-le 128 n (80 + 520 * lists.width) n (omega (arith, h.least)) (omega arith) in
    let room = h.room in
    omega (arith, many, room)

-- so many reports by so many candidates are few tiles of 64 by 64
pub few_tiles : (cap reports : ℕ) → cap ≤ 65536 → reports ≤ 2 ^ 21 → tiles_of (plan_of reports cap 64 64) < 2 ^ 31
few_tiles cap reports small few =
    let fewer = fewer_tiles reports 2097152 cap 65536 64 64 (omega arith) (omega arith) (omega (arith, few)) small in
    let most : tiles_of (plan_of 2097152 65536 64 64) ≡ 33554432 = refl in
    omega (arith, fewer, most)
