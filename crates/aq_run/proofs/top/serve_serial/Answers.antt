use Rattle.std.proofs.Common.{Some, ap, sym, ◌∙◌}
use Rattle.aq_run.specs.Words.{command_of}
use Rattle.aq_run.proofs.Commands.{not_audit, not_compact, not_dump, not_generate, not_none}
use Rattle.aq_run.proofs.top.serve_serial.Goals as goal

pub returns-in-Some-Dump-clause-serial_run : goal.returns-in-Some-Dump-clause-serial_run
returns-in-Some-Dump-clause-serial_run g c = not_dump (command_of c.args.words.now) (sym c.command_of.ensures ∙ c.in-Some-Dump.is ∙ ap Some c.in-Some-Dump.field-0-is)

pub returns-in-Some-Compact-clause-serial_run : goal.returns-in-Some-Compact-clause-serial_run
returns-in-Some-Compact-clause-serial_run g c = not_compact (command_of c.args.words.now) (sym c.command_of.ensures ∙ c.in-Some-Compact.is ∙ ap Some c.in-Some-Compact.field-0-is)

pub returns-in-Some-Generate-clause-serial_run : goal.returns-in-Some-Generate-clause-serial_run
returns-in-Some-Generate-clause-serial_run g c = not_generate (command_of c.args.words.now) _ _ _ (sym c.command_of.ensures ∙ c.in-Some-Generate.is ∙ ap Some c.in-Some-Generate.field-0-is)

pub returns-in-Some-Audit-clause-serial_run : goal.returns-in-Some-Audit-clause-serial_run
returns-in-Some-Audit-clause-serial_run g c = not_audit (command_of c.args.words.now) (sym c.command_of.ensures ∙ c.in-Some-Audit.is ∙ ap Some c.in-Some-Audit.field-0-is)

pub returns-in-None-clause-serial_run : goal.returns-in-None-clause-serial_run
returns-in-None-clause-serial_run g c = not_none (command_of c.args.words.now) (sym c.command_of.ensures ∙ c.in-None.is)
