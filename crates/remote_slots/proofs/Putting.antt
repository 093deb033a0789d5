-- What a message that comes or goes makes of the rows of each queue and destination.
use Rattle.std.proofs.Common.{◌≡◌, ℕ, Bool, true, false, List, [], ◌∷◌, Some, None, refl, sym, ap, ◌∙◌, ◌&&◌}
use Rattle.std.proofs.lemmas.Bool.{and_parts, false_from_ne_true}
use Rattle.std.specs.List.{list_any}
use Rattle.std.specs.Str.{bytes_eq}
use Rattle.row_tree.specs.Order.{put_in_order}
use Rattle.queue_rows.specs.Propagating.{goes_to}
use Rattle.queue_rows.specs.Settling.{is_ready}
use Rattle.queue_rows.specs.declared.rows.MsgRow.{MsgRow}
use Rattle.queue_rows.specs.declared.rows.SlotRow.{SlotRow}
use Rattle.sort_index.specs.Ready.{is_of, key}
use Rattle.sort_index.specs.declared.group.Group.{Group}
use Rattle.choice_laws.specs.EditLaws.{IsFree}
use Rattle.choice_laws.specs.Entries.{Row, row_cmp, with_row, without_row}
use Rattle.ready_slots.specs.Edits.{entry}
use Rattle.ready_slots.specs.Putting.{PutsRow, put_where}
use Rattle.ready_slots.specs.Taking.{TakesRow, row_at, taken_where, told}
use Rattle.ready_slots.proofs.Putting.{put_both}
use Rattle.ready_slots.proofs.Standing.{any_weaker}
use Rattle.ready_slots.proofs.Taking.{none_gone, taken_both}
use Rattle.remote_slots.specs.Edits.{Puts, Removes}
use Rattle.remote_slots.specs.Putting.{PutsEach, TakesEach, is_any_for, sent_to}
use Rattle.remote_slots.specs.Remote.{is_any_to, is_ready_to, rows_to, stands_to}
use Rattle.remote_slots.proofs.Names.{for_none, for_one, to_none, to_one}
use Rattle.remote_slots.proofs.Turned.{after_insert, after_removal, inserted_free, missing_is_free}

-- ---- one slot after the other

module _ (m : MsgRow) (stamp : ℕ) (s : SlotRow) (rest : List SlotRow) (queue to : List ℕ) where
  pub takes_one : (address : List ℕ) (before after : List Group) → s.address ≡ Some address → TakesRow m.queue (Some address) m.place stamp before after
      → taken_where (is_any_for m.queue queue to rest) (row_at stamp m) (told queue (Some to) after)
      ≡ taken_where (is_any_for m.queue queue to (s ∷ rest)) (row_at stamp m) (told queue (Some to) before)
  takes_one address before after is takes =
      let row = row_at stamp m in
      let own = is_of queue (Some to) (key m.queue (Some address)) in
      let others = is_any_for m.queue queue to rest in
      ap (taken_where others row) (takes queue (Some to))
      ∙ taken_both own others row (told queue (Some to) before)
      ∙ ap (λ b. taken_where b row (told queue (Some to) before)) (for_one queue to m.queue s rest address is)

  pub takes_none : (groups : List Group) → s.address ≡ None
      → taken_where (is_any_for m.queue queue to rest) (row_at stamp m) (told queue (Some to) groups)
      ≡ taken_where (is_any_for m.queue queue to (s ∷ rest)) (row_at stamp m) (told queue (Some to) groups)
  takes_none groups is = ap (λ b. taken_where b (row_at stamp m) (told queue (Some to) groups)) (for_none queue to m.queue s rest is)

  pub puts_one : (address : List ℕ) (before after : List Group) → sent_to s ≡ Some address → PutsRow m (Some address) stamp before after
      → put_where (is_any_to m.queue queue to rest) (row_at stamp m) (told queue (Some to) after)
      ≡ put_where (is_any_to m.queue queue to (s ∷ rest)) (row_at stamp m) (told queue (Some to) before)
  puts_one address before after is puts =
      let row = row_at stamp m in
      let own = is_of queue (Some to) (key m.queue (Some address)) in
      let others = is_any_to m.queue queue to rest in
      ap (put_where others row) (puts queue (Some to))
      ∙ put_both own others row (told queue (Some to) before)
      ∙ ap (λ b. put_where b row (told queue (Some to) before)) (to_one queue to m.queue s rest address is)

  pub puts_none : (groups : List Group) → sent_to s ≡ None
      → put_where (is_any_to m.queue queue to rest) (row_at stamp m) (told queue (Some to) groups)
      ≡ put_where (is_any_to m.queue queue to (s ∷ rest)) (row_at stamp m) (told queue (Some to) groups)
  puts_none groups is = ap (λ b. put_where b (row_at stamp m) (told queue (Some to) groups)) (to_none queue to m.queue s rest is)

-- without slots nothing goes, and nothing comes
none_here : (a : Bool) → (a && false) ≡ false
none_here true = refl
none_here false = refl

pub takes_nothing : (m : MsgRow) (stamp : ℕ) (queue to : List ℕ) (groups : List Group)
    → taken_where (is_any_for m.queue queue to []) (row_at stamp m) (told queue (Some to) groups) ≡ told queue (Some to) groups
takes_nothing m stamp queue to groups = ap (λ b. taken_where b (row_at stamp m) (told queue (Some to) groups)) (none_here (bytes_eq m.queue queue))

pub puts_nothing : (m : MsgRow) (stamp : ℕ) (queue to : List ℕ) (groups : List Group)
    → put_where (is_any_to m.queue queue to []) (row_at stamp m) (told queue (Some to) groups) ≡ told queue (Some to) groups
puts_nothing m stamp queue to groups = ap (λ b. put_where b (row_at stamp m) (told queue (Some to) groups)) (none_here (bytes_eq m.queue queue))

-- ---- all slots of a message

all_gone : (goes : Bool) (row : Row) (rows : List Row) → (goes ≡ false → IsFree row rows) → taken_where goes row rows ≡ without_row row rows
all_gone true row rows free = refl
all_gone false row rows free = sym (none_gone row rows (free refl))

both : (a b : Bool) → a ≡ true → b ≡ true → (a && b) ≡ true
both true b e f = f
both false b e f = e

-- a message that stands for a destination has a slot that goes there
for_where_standing : (queue to : List ℕ) (m : MsgRow) → stands_to queue to m ≡ true → is_any_for m.queue queue to m.slots ≡ true
for_where_standing queue to m stands =
    let parts = and_parts (bytes_eq m.queue queue) (list_any (is_ready_to to) m.slots) stands in
    both (bytes_eq m.queue queue) (list_any (goes_to to) m.slots) parts.0
    (any_weaker (is_ready_to to) (goes_to to) (λ (s : SlotRow) e. (and_parts (goes_to to s) (is_ready s.state) e).0) m.slots parts.1)

pub removes : (stamp : ℕ) (m : MsgRow) (before after : List Group) → TakesEach m stamp before after → Removes stamp m before after
removes stamp m before after each entries at rising there indexed queue to =
    let row = row_at stamp m in
    let goes = is_any_for m.queue queue to m.slots in
    let free : goes ≡ false → IsFree row (rows_to queue to entries) =
    λ none. missing_is_free queue to entries at (entry stamp m) rising there
    (false_from_ne_true (stands_to queue to m) (λ stands. let no : true ≡ false = sym (for_where_standing queue to m stands) ∙ none in cc no)) in
    each queue to
    ∙ ap (taken_where goes row) (indexed queue to)
    ∙ all_gone goes row (rows_to queue to entries) free
    ∙ sym (after_removal queue to entries at (entry stamp m) rising there)

new_put : (b : Bool) (row : Row) (rows : List Row) → IsFree row rows → put_where b row rows ≡ with_row b row rows
new_put true row rows free = ap (put_in_order row_cmp row) (none_gone row rows free)
new_put false row rows free = refl

pub puts : (stamp : ℕ) (m : MsgRow) (before after : List Group) → PutsEach m stamp before after → Puts stamp m before after
puts stamp m before after each entries at rising indexed queue to =
    let row = row_at stamp m in
    each queue to
    ∙ ap (put_where (stands_to queue to m) row) (indexed queue to)
    ∙ new_put (stands_to queue to m) row (rows_to queue to entries) (inserted_free queue to entries at (entry stamp m) rising)
    ∙ sym (after_insert queue to entries at (entry stamp m) rising)
