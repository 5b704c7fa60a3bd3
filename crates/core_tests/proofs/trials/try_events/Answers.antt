use Rattle.std.proofs.Common.{◌≤◌, List, [], ◌∷◌, length, arith}
use Rattle.std.proofs.lemmas.Nat.{mul-le}
use Rattle.interleaving_core.specs.declared.events.Event.{Event}
use Rattle.interleaving_core.specs.declared.events.Event.TheVariants.{Upload, Seal, Claim, Abandon, Fill, Evict, Post, Sweep, Carry}
use Rattle.interleaving_core.specs.Events.{one_upload, uploads_in}
use Rattle.core_tests.proofs.trials.try_events.Goals as goal

at-most-one : (event : Event) → one_upload event ≤ 1
at-most-one (Upload side pass share) = omega arith
at-most-one Seal = omega arith
at-most-one (Claim side worker) = omega arith
at-most-one (Abandon side worker) = omega arith
at-most-one (Fill side report prefix) = omega arith
at-most-one (Evict side report prefix) = omega arith
at-most-one (Post side worker) = omega arith
at-most-one (Sweep side) = omega arith
at-most-one Carry = omega arith

uploads-most : (events : List Event) → uploads_in events ≤ length events
uploads-most [] = omega arith
uploads-most (event ∷ events) = let one = at-most-one event in let rest = uploads-most events in omega (arith, one, rest)

pub run_events-requires-clause-small : goal.run_events-requires-clause-small
run_events-requires-clause-small c =
    let count : length c.args.events.items ≤ 10000 = omega (arith, c.if-len-gt10000.false, c.len.ensures) in
    let most = uploads-most c.args.events.items in
    let small = mul-le (uploads_in c.args.events.items) c.args.settings.now.walk.cap 10000 65536 (omega (arith, most, count)) c.requires.usable.small_cap in
    omega (arith, small)
