use Rattle.std.proofs.Common.{◌≡◌, drop}
use Rattle.half_events.specs.Caches.{found_in}
use Rattle.half_events.proofs.cached.find.Given as goal

abbrev pub invariant-loop-entry : goal.invariant-loop-entry
invariant-loop-entry l = found_in (drop l.entry-index l.cache) l.report l.prefix ≡ found_in l.cache l.report l.prefix
