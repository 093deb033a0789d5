-- A store is prepared for changes that can be made one after another.
use Rattle.std.proofs.Common.{List}
use Rattle.queue_rows.specs.declared.change.Change.{Change}
use Rattle.message_store.specs.Prepared.{AreReady}
use Rattle.message_store.specs.Stored.{Stored, IsPreparedFor}

pub prepared_for : (s : Stored) (cs : List Change) → AreReady s.tables s.room cs → IsPreparedFor s cs
unfolding IsPreparedFor
prepared_for s cs h = h
