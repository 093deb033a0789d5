use Rattle.std.proofs.Common.{◌++◌, string_bytes}
use Rattle.std.specs.Prelude.{codes}
use Rattle.transcript.specs.Reply.{message_start}
use Rattle.transcript.specs.Text.{json_or_null, spaced_id_text}
use Rattle.transcript.proofs.Usual.{usual_parts}
use Rattle.transcript.proofs.Written.{in_two, on_ok}
use Rattle.transcript.proofs.reply.put_usual_parts.Goals as goal

pub returns : goal.returns
returns c =
    let m = c.args.message.now in
    let id = spaced_id_text m.id.db m.id.number in
    in_two c.push_str.result (string_bytes c.args.out.now) (string_bytes c.put_spaced_id.new.out) (string_bytes c.push_str.new.self)
    id (codes " priority 1 retries 0 corr null") (message_start m ++ codes " corr " ++ json_or_null m.corr)
    (usual_parts id m.priority m.retries m.corr c.requires.0 c.requires.1 c.requires.2)
    c.in_ok-put_spaced_id.ensures (on_ok c.push_str.result _ _ _ c.push_str.ensures.bytes)
