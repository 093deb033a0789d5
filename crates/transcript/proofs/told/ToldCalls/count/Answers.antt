use Rattle.std.specs.HashSet.{contains_by}
use Rattle.std.specs.Prelude.{◌&&◌, ◌==◌}
use Rattle.transcript.proofs.Counts.{goes_on, next_within}
use Rattle.transcript.proofs.told.ToldCalls.count.Goals as goal

pub set-requires : goal.set-requires
set-requires c = next_within c.args.self.now.counts c.args.session c.args.number c.requires

pub returns : goal.returns
returns c = λ s n.
    rw c.set.ensures
    (goes_on c.args.self.now.counts c.args.session c.args.number s n (contains_by (λ call. (s == call.session) && (n == call.number)) c.args.self.now.others) c.requires)
