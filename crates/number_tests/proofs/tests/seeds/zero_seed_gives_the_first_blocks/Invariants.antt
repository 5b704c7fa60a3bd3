use Rattle.number_tests.proofs.tests.seeds.zero_seed_gives_the_first_blocks.Given as goal

abbrev pub ghosts-extend_on : goal.ghosts-extend_on
ghosts-extend_on g a = record { name = a.blank.name; parts = a.blank.parts }
