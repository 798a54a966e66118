use Rattle.redl_resolve.proofs.stories.into_passed.Given as goal

abbrev pub ghosts-into_passed_by : goal.ghosts-into_passed_by
ghosts-into_passed_by a = record { name = a.blank.name; parts = a.blank.parts }
