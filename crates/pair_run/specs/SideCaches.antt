-- The caches of a walk.
use Rattle.std.specs.Prelude.{ℕ, List, map}
use Rattle.definitions.specs.declared.Side.TheVariants.{Zero, One}
use Rattle.walk_definitions.specs.Reports.{Report, held}
use Rattle.phase_sums.specs.Caches.{CachesSeen, HoldSeen, AreCaches}

-- the caches are of both sides' shares in a batch, with the passes of a phase of so many workers
abbrev pub HasCaches : List Report → ℕ → CachesSeen → HoldSeen → Type 0
HasCaches batch workers caches hold = AreCaches (map (λ r. held r Zero) batch) (map (λ r. held r One) batch) workers caches hold
