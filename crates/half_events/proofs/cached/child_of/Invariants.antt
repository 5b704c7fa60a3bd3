use Rattle.half_events.proofs.cached.child_of.Given as goal

abbrev pub ghosts-child_on : goal.ghosts-child_on
ghosts-child_on a = record { name = a.blank.name; parts = a.blank.parts }
