use Rattle.ring_table.proofs.tests.rows_that_are_reached_are_counted.Given as goal

abbrev pub ghosts-reach_and_take : goal.ghosts-reach_and_take
ghosts-reach_and_take g a = record { name = a.blank.name; parts = a.blank.parts }
