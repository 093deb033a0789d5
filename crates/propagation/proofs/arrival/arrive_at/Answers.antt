use Rattle.std.proofs.Common.{◌∙◌, ap, sym}
use Rattle.queue_rows.specs.declared.history.Arrival.TheVariants.{Copied, Seen}
use Rattle.propagation.specs.Sent.{dispatch_by, parcel_meant}
use Rattle.propagation.specs.Taking.{known, refused, takes, meant}
use Rattle.propagation.proofs.Arrivals.{arrives_as, failed_is}
use Rattle.propagation.proofs.arrival.arrive_at.Goals as goal

pub returns-in-Known : goal.returns-in-Known
returns-in-Known c =
    arrives_as c.args.there.now c.args.at.now (dispatch_by c.args.sent) (parcel_meant c.parcel.result) c.args.next c.args.moment known c.parcel.ensures
    (ap meant (sym c.in-Known.is) ∙ c.in_ok-take_in.ensures)
    ∙ (λ i. record { outcome = Seen; origin = sym c.new.ensures i; there = sym c.new-in-Known.ensures i })

pub returns-in-Refused : goal.returns-in-Refused
returns-in-Refused c =
    failed_is c.args.there.now c.args.at.now (dispatch_by c.args.sent) c.args.next c.args.moment c.in-Refused.cause c.failed.result
    (arrives_as c.args.there.now c.args.at.now (dispatch_by c.args.sent) (parcel_meant c.parcel.result) c.args.next c.args.moment (refused c.in-Refused.cause) c.parcel.ensures
    (ap meant (sym c.in-Refused.is) ∙ c.in_ok-take_in.ensures))
    c.failed.ensures

pub returns-in-Takes : goal.returns-in-Takes
returns-in-Takes c =
    arrives_as c.args.there.now c.args.at.now (dispatch_by c.args.sent) (parcel_meant c.parcel.result) c.args.next c.args.moment (takes c.in-Takes.changes) c.parcel.ensures
    (ap meant (sym c.in-Takes.is) ∙ c.in_ok-take_in.ensures)
    ∙ (λ i. record { outcome = Copied c.args.next; origin = sym c.new-in-Takes.ensures i; there = c.in-Takes.changes })
