use Rattle.dequeue_ops.proofs.by_request.give_chosen.Given as goal

abbrev pub ghosts-choose : goal.ghosts-choose
ghosts-choose g a = record { name = a.blank.name; parts = a.blank.parts }
