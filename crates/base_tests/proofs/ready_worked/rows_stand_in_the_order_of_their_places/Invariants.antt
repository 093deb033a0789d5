use Rattle.base_tests.proofs.ready_worked.rows_stand_in_the_order_of_their_places.Given as goal

abbrev pub ghosts-check_each : goal.ghosts-check_each
ghosts-check_each g a = record { name = a.blank.name; parts = a.blank.parts }
