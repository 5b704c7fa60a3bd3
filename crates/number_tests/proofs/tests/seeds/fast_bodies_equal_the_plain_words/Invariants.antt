use Rattle.number_tests.proofs.tests.seeds.fast_bodies_equal_the_plain_words.Given as goal

abbrev pub ghosts-extend_on : goal.ghosts-extend_on
ghosts-extend_on g a = record { name = a.blank.name; parts = a.blank.parts }
