use Rattle.listen_ops.proofs.serving.has_message.Given as goal

abbrev pub ghosts-has_message_by : goal.ghosts-has_message_by
ghosts-has_message_by g a = record { name = a.blank.name; parts = a.blank.parts }
