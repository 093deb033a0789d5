use Rattle.std.proofs.Common.{◌++◌, append_assoc}
use Rattle.std.specs.Prelude.{codes, decimal}
use Rattle.transcript.specs.Rows.{database_tail}
use Rattle.transcript.proofs.Written.{in_two}
use Rattle.transcript.proofs.rows.put_database_tail.Goals as goal

pub returns : goal.returns
returns c =
    in_two c.write.result _ _ _ (codes " transaction ") (decimal c.args.transaction ++ (codes " latest " ++ (decimal c.args.latest ++ codes "\n")))
    (database_tail c.args.transaction c.args.latest) (simp append_assoc) c.in_ok-push_str.ensures.bytes c.write.ensures.bytes
