use Rattle.std.proofs.Common.{subst}
use Rattle.database_recovery.specs.Recovering.{frames_from, IsFaultOf}
use Rattle.database_recovery.proofs.Keeping.{sound_at_first}
use Rattle.database_recovery.proofs.frames.recover.Goals as goal

pub make_frames-requires-clause-sound : goal.make_frames-requires-clause-sound
make_frames-requires-clause-sound c = sound_at_first c.new-store.result.tables c.new-store.ensures

pub returns-in-Err-clause-damaged : goal.returns-in-Err-clause-damaged
returns-in-Err-clause-damaged c = subst (λ t. IsFaultOf (frames_from c.args.version t c.args.frames) c.in-Err.fault) c.new-store.ensures c.in-Err.ensures.damaged
