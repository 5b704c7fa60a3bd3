use Rattle.share_tests.proofs.tests.caches.both_ways_uncounted.Given as goal

abbrev pub ghosts-both_ways_on : goal.ghosts-both_ways_on
ghosts-both_ways_on a = record { name = a.blank.name; parts = a.blank.parts }
