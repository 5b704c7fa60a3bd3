use Rattle.lane_tests.proofs.tests.seeds.expands.Given as goal

abbrev pub ghosts-are_children : goal.ghosts-are_children
ghosts-are_children a = record { name = a.blank.name; parts = a.blank.parts }
