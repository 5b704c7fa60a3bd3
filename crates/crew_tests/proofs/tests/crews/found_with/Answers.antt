use Rattle.std.proofs.Common.{subst}
use Rattle.phase_workers.specs.Seen.{ArePasses}
use Rattle.crew_tests.proofs.Passes.{last_has}
use Rattle.crew_tests.proofs.tests.crews.found_with.Goals as goal

pub gather-requires-clause-this_cache : goal.gather-requires-clause-this_cache
gather-requires-clause-this_cache g c =
    last_has _ _ _ (subst (ArePasses c.args.cache.now.locks) c.in-Some.ensures.items c.requires)
