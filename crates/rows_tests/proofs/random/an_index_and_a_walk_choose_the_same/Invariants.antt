use Rattle.rows_tests.proofs.random.an_index_and_a_walk_choose_the_same.Given as goal

abbrev pub ghosts-run_alike : goal.ghosts-run_alike
ghosts-run_alike g a = record { name = a.blank.name; parts = a.blank.parts }
