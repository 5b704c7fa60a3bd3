use Rattle.std.proofs.Common.{◌≡◌, ◌+◌, ◌≤◌, ◌++◌, vec_len, vec_capacity}
use Rattle.std.specs.Prelude.{flat_map}
use Rattle.std.specs.List.{AllByRecursion}
use Rattle.std.specs.List.Sorted.{IsPermutation}
use Rattle.report_intake.specs.Seen.{IntakeId}
use Rattle.report_collection.specs.Uploads.{IsOf, Seated, own_of, own_in, queued_in}
use Rattle.report_collection.proofs.dealing.sit_down.Given as goal

abbrev pub invariant-loop-pass : goal.invariant-loop-pass
invariant-loop-pass l =
    IsPermutation (own_of l.fn.passes.items) (own_of l.passes.items ++ own_in l.seats.items)
    × IsPermutation (flat_map (λ queue. queue.items) l.fn.queues.items) (flat_map (λ queue. queue.items) l.queues.items ++ queued_in l.seats.items)
    × ((lock : IntakeId) → AllByRecursion (IsOf lock) l.fn.passes.items → AllByRecursion (IsOf lock) l.passes.items × AllByRecursion (Seated lock) l.seats.items)
    × (vec_len l.passes ≡ vec_len l.queues)
    × (vec_len l.seats + vec_len l.passes ≡ vec_len l.fn.passes)
    × (vec_len l.fn.passes ≤ vec_capacity l.seats)
    × (vec_capacity l.passes ≡ vec_capacity l.fn.passes)
    × (vec_capacity l.seats ≡ vec_capacity l.fn.seats)

abbrev pub decreases-loop-pass : goal.decreases-loop-pass
decreases-loop-pass l = vec_len l.passes
