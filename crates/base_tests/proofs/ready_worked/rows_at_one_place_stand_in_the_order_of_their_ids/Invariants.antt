use Rattle.base_tests.proofs.ready_worked.rows_at_one_place_stand_in_the_order_of_their_ids.Given as goal

abbrev pub ghosts-check_more : goal.ghosts-check_more
ghosts-check_more g a = record { name = a.blank.name; parts = a.blank.parts }
