-- The name of a session is a name.
use Rattle.work_gen.proofs.Names.{is_a_name}
use Rattle.work_gen.proofs.script.session_name.Goals as goal

pub name_of-requires : goal.name_of-requires
name_of-requires c = rw (c.as_str.ensures.value, c.in_ok-text.ensures.ok) (is_a_name c.args.session c.requires)
