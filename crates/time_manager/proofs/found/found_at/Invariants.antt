-- What was found so far, and what is found at the places that are left, is what is found at all.
use Rattle.std.proofs.Common.{◌≡◌, ◌++◌, drop}
use Rattle.std.specs.Prelude.{flat_map, slice_get}
use Rattle.queue_rows.specs.Due.{due_purge, due_slots}
use Rattle.time_manager.specs.Own.{own_settling}
use Rattle.time_manager.specs.Ranks.{given}
use Rattle.time_manager.specs.Watching.{watch_of}
use Rattle.time_manager.proofs.found.found_at.Given as goal

abbrev pub invariant-loop-rank : goal.invariant-loop-rank
invariant-loop-rank g l =
    let w = watch_of l.watching in
    let left = drop l.rank-index l.ranks in
    record {
      slots : l.found.slots.items ++ flat_map (λ rank. given (due_slots w) (slice_get w.tables.messages rank)) left
          ≡ flat_map (λ rank. given (due_slots w) (slice_get w.tables.messages rank)) l.ranks;
      purges : l.found.purges.items ++ flat_map (λ rank. given (due_purge w) (slice_get w.tables.messages rank)) left
          ≡ flat_map (λ rank. given (due_purge w) (slice_get w.tables.messages rank)) l.ranks;
      settled : l.found.settled.items ++ flat_map (λ rank. given (own_settling w) (slice_get w.tables.messages rank)) left
          ≡ flat_map (λ rank. given (own_settling w) (slice_get w.tables.messages rank)) l.ranks;
    }
