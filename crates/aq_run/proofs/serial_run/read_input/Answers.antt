use Rattle.aq_run.proofs.Completing.{reads_so}
use Rattle.aq_run.proofs.serial_run.read_input.Goals as goal

pub returns-clause-bytes : goal.returns-clause-bytes
returns-clause-bytes g c =
    reads_so g.I.Source.left g.I.Source.read_gives c.args.input.now c.read_up_to.new.input (λ v. v.items) c.read_up_to.result c.read_up_to.ensures.bytes c.read_up_to.ensures.rest c.read_up_to.ensures.most c.read_up_to.ensures.end
