use Rattle.std.proofs.Common.{◌≡◌, ◌++◌, true, sym, ◌∙◌, subst, List, ℕ}
use Rattle.std.specs.Prelude.{flat_map, slice_get, IfOk}
use Rattle.queue_rows.specs.Distinct.{are_distinct}
use Rattle.queue_rows.specs.Due.{due_slots, due_purge}
use Rattle.queue_rows.specs.Valid.{is_same_message}
use Rattle.queue_rows.specs.declared.change.Change.{Change}
use Rattle.queue_rows.specs.declared.tables.Tables.{Tables}
use Rattle.time_manager.specs.Own.{own_settling}
use Rattle.time_manager.specs.Ranks.{given}
use Rattle.time_manager.specs.Watching.{watch_of}
use Rattle.time_manager.proofs.Naming.{watched_is}
use Rattle.time_manager.proofs.manager.watched.Goals as goal

pub returns : goal.returns
returns g c =
    let w = watch_of c.args.watching.now in
    let ms = w.tables.messages in
    let at = λ (ranks : List ℕ).
    (flat_map (λ rank. given (due_slots w) (slice_get ms rank)) ranks ++ flat_map (λ rank. given (due_purge w) (slice_get ms rank)) ranks)
    ++ flat_map (λ rank. given (own_settling w) (slice_get ms rank)) ranks in
    let distinct = subst (λ (u : Tables). are_distinct is_same_message u.messages ≡ true) (sym c.requires.tables) c.requires.distinct in
    let all = watched_is w c.in_ok-ranks.ranks.items distinct c.in_ok-ranks.ensures in
    subst (λ (cs : List Change). IfOk c.changes_at.result (λ changes. changes ≡ cs)) ((λ i. at (c.deref.ensures.value i)) ∙ all) c.changes_at.ensures
