-- The checkpoint of valid tables has a spelling where each of their rows has one.
use Rattle.std.proofs.Common.{◌≡◌, true, List, [], ◌∷◌, ◌++◌, map, arith}
use Rattle.std.specs.Prelude.{nat_le}
use Rattle.std.specs.List.{AllByRecursion}
use Rattle.std.proofs.lemmas.Bool.{leb-true}
use Rattle.aq_base.specs.declared.limits.TheConstants.{MOMENT_LIMIT}
use Rattle.redo_journal.specs.Journal.{written_version}
use Rattle.redo_records.specs.Spelled.{IsMsgRow, IsNumber, IsQueueRow, IsScheduleRow, IsSeenRow, IsSpelled, IsSubRow, IsTableRow}
use Rattle.queue_rows.specs.Valid.{has_right_numbers, is_valid}
use Rattle.queue_rows.specs.declared.change.Change.{Change}
use Rattle.queue_rows.specs.declared.change.Change.TheVariants as changes
use Rattle.queue_rows.specs.declared.tables.Tables.{Tables}
use Rattle.database_recovery.specs.Sound.{HasSpelledRows}
use Rattle.valid_laws.proofs.Lowering.{numbers_of}
use Rattle.valid_laws.proofs.Parts.{and_l, and_r, parts_of}
use Rattle.checkpoint_commit.specs.Checkpoint.{checkpoint_of, puts_of}
use Rattle.checkpoint_commit.specs.Laws.{CheckpointIsSpelled}

-- ---- lists

all_put : {A B : Type 0} (P : A → Type 0) (Q : B → Type 0) (f : A → B) → ((x : A) → P x → Q (f x)) → (xs : List A) → AllByRecursion P xs → AllByRecursion Q (map f xs)
all_put P Q f made [] h = tt
all_put P Q f made (x ∷ xs) h = (made x h.0, all_put P Q f made xs h.1)

all_joined : {A : Type 0} (P : A → Type 0) (xs ys : List A) → AllByRecursion P xs → AllByRecursion P ys → AllByRecursion P (xs ++ ys)
all_joined P [] ys h k = k
all_joined P (x ∷ xs) ys h k = (h.0, all_joined P xs ys h.1 k)

-- ---- rows

puts_spelled : (t : Tables) → HasSpelledRows t → AllByRecursion (IsSpelled written_version) (puts_of t)
puts_spelled t rows =
    let Q : Change → Type 0 = IsSpelled written_version in
    let tables = map changes.PutTable t.tables in
    let queues = map changes.PutQueue t.queues in
    let subs = map changes.PutSub t.subs in
    let schedules = map changes.PutSchedule t.schedules in
    let messages = map changes.Enqueued t.messages in
    let seen = map changes.Seen t.seen in
    all_joined Q (tables ++ queues ++ subs ++ schedules ++ messages) seen
    (all_joined Q (tables ++ queues ++ subs ++ schedules) messages
    (all_joined Q (tables ++ queues ++ subs) schedules
    (all_joined Q (tables ++ queues) subs
    (all_joined Q tables queues (all_put IsTableRow Q changes.PutTable (λ row h. h) t.tables rows.tables) (all_put IsQueueRow Q changes.PutQueue (λ row h. h) t.queues rows.queues))
    (all_put IsSubRow Q changes.PutSub (λ row h. h) t.subs rows.subs))
    (all_put IsScheduleRow Q changes.PutSchedule (λ row h. h) t.schedules rows.schedules))
    (all_put (IsMsgRow written_version) Q changes.Enqueued (λ row h. h) t.messages rows.messages))
    (all_put IsSeenRow Q changes.Seen (λ row h. h) t.seen rows.seen)

-- ---- numbers

latest_part : (t : Tables) → has_right_numbers t ≡ true → nat_le t.latest MOMENT_LIMIT ≡ true
latest_part t h = search (and_l, and_r)

latest_is_number : (t : Tables) → is_valid t ≡ true → IsNumber t.latest
latest_is_number t v = let le = leb-true t.latest MOMENT_LIMIT (latest_part t (parts_of t v).numbers) in omega (arith, le)

next_is_number : (t : Tables) → is_valid t ≡ true → IsNumber t.next
next_is_number t v = let le = (numbers_of t v).within in omega (arith, le)

transaction_is_number : (t : Tables) → is_valid t ≡ true → IsNumber t.transaction
transaction_is_number t v = let n = numbers_of t v in let below = n.below in let le = n.within in omega (arith, below, le)

-- ---- the law

pub checkpoint_is_spelled : CheckpointIsSpelled
unfolding checkpoint_of
checkpoint_is_spelled t v rows = record {
  moment = latest_is_number t v;
  at_least_one = omega arith;
  changes = ((next_is_number t v, (transaction_is_number t v, latest_is_number t v)), puts_spelled t rows);
}
