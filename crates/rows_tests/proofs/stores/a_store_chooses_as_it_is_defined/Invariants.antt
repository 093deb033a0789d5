use Rattle.rows_tests.proofs.stores.a_store_chooses_as_it_is_defined.Given as goal

abbrev pub ghosts-run_alike : goal.ghosts-run_alike
ghosts-run_alike g a = record { name = a.blank.name; parts = a.blank.parts }
