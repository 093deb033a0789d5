use Rattle.std.proofs.Common.{◌++◌, append_assoc}
use Rattle.std.specs.Prelude.{codes}
use Rattle.transcript.specs.Rows.{sub_head}
use Rattle.transcript.proofs.Written.{in_two}
use Rattle.transcript.proofs.rows.put_subscriber_head.Goals as goal

pub returns : goal.returns
returns c =
    in_two c.write.result _ _ _ (codes "subscriber ") (c.args.row.now.queue ++ (codes " " ++ c.args.row.now.name)) (sub_head c.args.row.now)
    (simp append_assoc) c.in_ok-push_str.ensures.bytes (rw (c.as_str-queue.ensures, c.as_str-name.ensures) at c.write.ensures.bytes)
