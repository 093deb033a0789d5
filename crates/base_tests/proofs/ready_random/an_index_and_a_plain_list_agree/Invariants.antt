use Rattle.base_tests.proofs.ready_random.an_index_and_a_plain_list_agree.Given as goal

abbrev pub ghosts-run_alike : goal.ghosts-run_alike
ghosts-run_alike g a = record { name = a.blank.name; parts = a.blank.parts }
