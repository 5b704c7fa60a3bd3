use Rattle.std.proofs.Common.{◌≡◌, ◌+◌, ◌≤◌, ◌++◌, true, vec_len, vec_capacity}
use Rattle.std.specs.List.{AllByRecursion}
use Rattle.std.specs.List.Sorted.{IsPermutation}
use Rattle.report_intake.specs.Seen.{IntakeId}
use Rattle.report_collection.specs.Uploads.{IsOf, IsTaken, Seated, own_of, own_in, queued_in}
use Rattle.report_collection.proofs.dealing.get_up.Given as goal

abbrev pub invariant-loop-seat : goal.invariant-loop-seat
invariant-loop-seat l =
    AllByRecursion IsTaken l.seats.items
    × IsPermutation (own_in l.fn.seats.items) (own_in l.seats.items ++ own_of l.passes.items)
    × ((lock : IntakeId) → AllByRecursion (Seated lock) l.fn.seats.items → AllByRecursion (Seated lock) l.seats.items × AllByRecursion (IsOf lock) l.passes.items)
    × (l.all ≡ true → queued_in l.fn.seats.items ≡ queued_in l.seats.items)
    × (vec_len l.passes + vec_len l.seats ≡ vec_len l.fn.seats)
    × (vec_len l.fn.seats ≤ vec_capacity l.passes)
    × (vec_capacity l.passes ≡ vec_capacity l.fn.passes)
    × (vec_capacity l.seats ≡ vec_capacity l.fn.seats)

abbrev pub decreases-loop-seat : goal.decreases-loop-seat
decreases-loop-seat l = vec_len l.seats
