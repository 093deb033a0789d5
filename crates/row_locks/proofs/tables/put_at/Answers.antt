use Rattle.std.proofs.Common.{◌≡◌, ℕ, List, length, Option, Some, None, slice_index_or, slice_set, cond, sym, ◌∙◌, ap, subst}
use Rattle.row_locks.specs.Entries.{SessionEntries, no_entries, is_same_slot, with_mark}
use Rattle.row_locks.specs.Slots.{hold_of}
use Rattle.row_locks.specs.Groups.{group_in, group_at, rank_at, count_of, DiffersAt}
use Rattle.row_locks.proofs.GroupedLemmas.{ranked_put}
use Rattle.row_locks.proofs.PlaceLemmas.{groups_changed, rank_put}
use Rattle.row_locks.proofs.TableLemmas.{table_with_room, pushed_at, past_end, index_written}
use Rattle.row_locks.proofs.tables.put_at.Goals as goal

pub len_at-at-requires : goal.len_at-at-requires
len_at-at-requires c = table_with_room c.args.tables.now.items c.args.session c.requires.spare

pub put_last_at-requires-clause-there : goal.put_last_at-requires-clause-there
put_last_at-requires-clause-there c = table_with_room c.args.tables.now.items c.args.session c.requires.spare

pub returns-clause-put : goal.returns-clause-put
returns-clause-put c =
    let tables = c.args.tables.now.items in
    c.put_last_at.ensures.put ∙ ap (λ rank. slice_set tables c.args.session (with_mark (slice_index_or tables c.args.session no_entries) c.args.mark rank)) c.enter_group-rank.ensures.rank

pub returns-clause-index : goal.returns-clause-index
returns-clause-index c =
    let tables = c.args.tables.now.items in
    let there = table_with_room tables c.args.session c.requires.spare in
    let at = length (slice_index_or tables c.args.session no_entries).entries in
    rw c.put_last_at.ensures.put (
    index_written tables _ (hold_of c.args.slots.now) (hold_of c.put.new.self) c.args.session at c.args.mark c.requires.index
    (pushed_at tables c.args.session c.args.mark c.enter_group-rank.result there)
    (λ x is. absurd (let e : None ≡ Some x = sym (past_end tables c.args.session) ∙ is in cc e))
    (λ it is. absurd (let e : None ≡ Some it = sym c.requires.free ∙ is in cc e))
    (λ id slot. c.put.ensures.holds id slot ∙ ap (λ n. cond (is_same_slot (c.args.mark.id, c.args.mark.slot) (id, slot)) (Some (record { session = c.args.session; at = n; removed = c.args.mark.removed })) (hold_of c.args.slots.now id slot)) c.len_at-at.ensures)
    )

pub enter_group-rank-requires-clause-vacant : goal.enter_group-rank-requires-clause-vacant
enter_group-rank-requires-clause-vacant c =
    let tables = c.args.tables.now.items in
    ap (λ n. group_at tables (record { session = c.args.session; at = n })) c.len_at-at.ensures ∙ ap group_in (past_end tables c.args.session)

pub returns-clause-grouped : goal.returns-clause-grouped
returns-clause-grouped c =
    let tables = c.args.tables.now.items in
    let new = c.put_last_at.new.tables.items in
    let rank = c.enter_group-rank.result in
    let there = table_with_room tables c.args.session c.requires.spare in
    let entries = slice_index_or tables c.args.session no_entries in
    let made : List SessionEntries = slice_set tables c.args.session (with_mark entries c.args.mark rank) in
    let G : ℕ → List SessionEntries → Type 0 = λ n ts. DiffersAt (group_at tables) (group_at ts) (record { session = c.args.session; at = n }) c.args.mark.group in
    let R : ℕ → List SessionEntries → Type 0 = λ n ts. DiffersAt (rank_at tables) (rank_at ts) (record { session = c.args.session; at = n }) rank in
    let groups = subst (λ ts. G c.len_at-at.result ts) (sym c.put_last_at.ensures.put) (subst (λ n. G n made) (sym c.len_at-at.ensures) (groups_changed tables made c.args.session (length entries.entries) (Some c.args.mark) (pushed_at tables c.args.session c.args.mark rank there))) in
    let ranks = subst (λ ts. R c.len_at-at.result ts) (sym c.put_last_at.ensures.put) (subst (λ n. R n made) (sym c.len_at-at.ensures) (rank_put tables c.args.session c.args.mark rank there c.put_last_at.ensures.whole)) in
    c.enter_group-rank.ensures.grouped new groups ranks

pub returns-clause-ranked : goal.returns-clause-ranked
returns-clause-ranked c =
    let tables = c.args.tables.now.items in
    let new = c.put_last_at.new.tables.items in
    let rank = c.enter_group-rank.result in
    let there = table_with_room tables c.args.session c.requires.spare in
    let entries = slice_index_or tables c.args.session no_entries in
    let made : List SessionEntries = slice_set tables c.args.session (with_mark entries c.args.mark rank) in
    let G : ℕ → List SessionEntries → Type 0 = λ n ts. DiffersAt (group_at tables) (group_at ts) (record { session = c.args.session; at = n }) c.args.mark.group in
    let R : ℕ → List SessionEntries → Type 0 = λ n ts. DiffersAt (rank_at tables) (rank_at ts) (record { session = c.args.session; at = n }) rank in
    let groups = subst (λ ts. G c.len_at-at.result ts) (sym c.put_last_at.ensures.put) (subst (λ n. G n made) (sym c.len_at-at.ensures) (groups_changed tables made c.args.session (length entries.entries) (Some c.args.mark) (pushed_at tables c.args.session c.args.mark rank there))) in
    let ranks = subst (λ ts. R c.len_at-at.result ts) (sym c.put_last_at.ensures.put) (subst (λ n. R n made) (sym c.len_at-at.ensures) (rank_put tables c.args.session c.args.mark rank there c.put_last_at.ensures.whole)) in
    let Q : Option ℕ → Type 0 = λ o. DiffersAt (rank_at tables) (rank_at new) (record { session = c.args.session; at = c.len_at-at.result }) o in
    ranked_put tables new (record { session = c.args.session; at = c.len_at-at.result }) c.args.mark (count_of c.args.groups.now.classes) groups (subst Q c.enter_group-rank.ensures.rank ranks)
