use Rattle.propagation.specs.Sent.{parcel_meant}
use Rattle.propagation.proofs.Arrivals.{taken_is}
use Rattle.propagation.proofs.taking.taken_at.Goals as goal

pub returns : goal.returns
returns c =
    taken_is c.args.there.now c.args.table.now c.args.at.now (parcel_meant c.args.parcel) c.args.next c.args.moment c.taken_in.result c.requires.table c.taken_in.ensures
