-- The changes of a checkpoint lead from empty tables to its tables.
use Rattle.std.proofs.Common.{◌≡◌, ℕ, true, max, [], ◌∷◌, ◌++◌, map, refl, ap, ◌∙◌, arith}
use Rattle.std.proofs.lemmas.Bool.{and_from}
use Rattle.queue_rows.specs.Fits.{all_name_what_is_there, fits}
use Rattle.queue_rows.specs.Tables.{after, empty_tables}
use Rattle.queue_rows.specs.Valid.{is_valid}
use Rattle.queue_rows.specs.declared.change.Change.TheVariants as changes
use Rattle.queue_rows.specs.declared.tables.Tables.{Tables}
use Rattle.checkpoint_commit.specs.Checkpoint.{checkpoint_of, puts_of}
use Rattle.checkpoint_commit.specs.Laws.{CheckpointLeads}
use Rattle.checkpoint_commit.proofs.Puts.{arrival_goes, message_goes, queue_goes, schedule_goes, sub_goes, table_goes, with_messages, with_numbers, with_queues, with_schedules, with_seen, with_subs, with_tables}
use Rattle.checkpoint_commit.proofs.Steps.{Leads, all_go, joined}

puts_lead : (t : Tables) → is_valid t ≡ true → Leads (with_numbers t) (puts_of t) t
puts_lead t v =
    let begun = with_numbers t in
    let tables = map changes.PutTable t.tables in
    let queues = map changes.PutQueue t.queues in
    let subs = map changes.PutSub t.subs in
    let schedules = map changes.PutSchedule t.schedules in
    let messages = map changes.Enqueued t.messages in
    let seen = map changes.Seen t.seen in
    let to_tables : Leads begun tables (with_tables t t.tables) = all_go changes.PutTable (with_tables t) t.tables (table_goes t v) in
    let to_queues : Leads begun (tables ++ queues) (with_queues t t.queues) =
    joined begun (with_tables t t.tables) (with_queues t t.queues) tables queues to_tables (all_go changes.PutQueue (with_queues t) t.queues (queue_goes t v)) in
    let to_subs : Leads begun (tables ++ queues ++ subs) (with_subs t t.subs) =
    joined begun (with_queues t t.queues) (with_subs t t.subs) (tables ++ queues) subs to_queues (all_go changes.PutSub (with_subs t) t.subs (sub_goes t v)) in
    let to_schedules : Leads begun (tables ++ queues ++ subs ++ schedules) (with_schedules t t.schedules) =
    joined begun (with_subs t t.subs) (with_schedules t t.schedules) (tables ++ queues ++ subs) schedules to_subs (all_go changes.PutSchedule (with_schedules t) t.schedules (schedule_goes t v)) in
    let to_messages : Leads begun (tables ++ queues ++ subs ++ schedules ++ messages) (with_messages t t.messages) =
    joined begun (with_schedules t t.schedules) (with_messages t t.messages) (tables ++ queues ++ subs ++ schedules) messages to_schedules
    (all_go changes.Enqueued (with_messages t) t.messages (message_goes t v)) in
    joined begun (with_messages t t.messages) t (tables ++ queues ++ subs ++ schedules ++ messages) seen to_messages (all_go changes.Seen (with_seen t) t.seen (arrival_goes t v))

changes_lead : (t : Tables) → is_valid t ≡ true → Leads empty_tables (changes.Counters t.next t.transaction t.latest ∷ puts_of t) t
changes_lead t v =
    joined empty_tables (with_numbers t) t (changes.Counters t.next t.transaction t.latest ∷ []) (puts_of t) (record { names = refl; leads = refl }) (puts_lead t v)

max_same : (n : ℕ) → max n n ≡ n
max_same n = omega arith

pub checkpoint_leads : CheckpointLeads
unfolding fits after checkpoint_of
checkpoint_leads t v =
    let l = changes_lead t v in
    let is : after empty_tables (checkpoint_of t) ≡ t =
    ap (λ (u : Tables). record u { latest = max u.latest t.latest }) l.leads ∙ ap (λ (n : ℕ). record t { latest = n }) (max_same t.latest) in
    record {
      fitting = and_from (all_name_what_is_there empty_tables (changes.Counters t.next t.transaction t.latest ∷ puts_of t)) (is_valid (after empty_tables (checkpoint_of t))) l.names (ap is_valid is ∙ v);
      after_is = is;
    }
