use Rattle.remote_slots.proofs.rows.least_by_rows.Given as goal

abbrev pub ghosts-least_counted : goal.ghosts-least_counted
ghosts-least_counted g a = record { name = a.blank.name; parts = a.blank.parts }
