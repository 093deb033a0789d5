-- What an object is about, and which members it may have.
use Rattle.std.specs.Prelude.{ℕ, ◌||◌, ◌&&◌, List, codes, Bool, true, false, Option, Some, None, is_some, option_and_then, if◌then◌else◌}
use Rattle.std.specs.Option.{option_or}
use Rattle.std.specs.Str.{bytes_eq}
use Rattle.serde_json.specs.Data.{Data, Members, no_members, member}
use Rattle.serde_json.specs.Find.{as_object}
use Rattle.script_text.specs.declared.form.Form.{Form}
use Rattle.script_text.specs.declared.form.Form.TheVariants as forms
use Rattle.script_text.specs.declared.form.Verb.{Verb}
use Rattle.script_text.specs.declared.form.Verb.TheVariants as verbs

-- ---- words

-- what the statements of that word do, of those on messages and transactions
abbrev pub message_verb_of : List ℕ → Option Verb
message_verb_of word = if bytes_eq word (codes "enqueue") then Some verbs.Enqueue
    else (if bytes_eq word (codes "dequeue") then Some verbs.Dequeue
    else (if bytes_eq word (codes "listen") then Some verbs.Listen
    else (if bytes_eq word (codes "commit") then Some verbs.Commit
    else (if bytes_eq word (codes "rollback") then Some verbs.Rollback else None))))

-- of those that administer tables and queues
abbrev pub queue_verb_of : List ℕ → Option Verb
queue_verb_of word = if bytes_eq word (codes "create-table") then Some verbs.CreateTable
    else (if bytes_eq word (codes "drop-table") then Some verbs.DropTable
    else (if bytes_eq word (codes "create-queue") then Some verbs.CreateQueue
    else (if bytes_eq word (codes "drop-queue") then Some verbs.DropQueue
    else (if bytes_eq word (codes "start-queue") then Some verbs.StartQueue
    else (if bytes_eq word (codes "stop-queue") then Some verbs.StopQueue else None)))))

-- and of those that administer subscribers and schedules
abbrev pub route_verb_of : List ℕ → Option Verb
route_verb_of word = if bytes_eq word (codes "add-subscriber") then Some verbs.AddSubscriber
    else (if bytes_eq word (codes "remove-subscriber") then Some verbs.RemoveSubscriber
    else (if bytes_eq word (codes "schedule") then Some verbs.Schedule
    else (if bytes_eq word (codes "unschedule") then Some verbs.Unschedule
    else (if bytes_eq word (codes "enable-schedule") then Some verbs.EnableSchedule
    else (if bytes_eq word (codes "disable-schedule") then Some verbs.DisableSchedule else None)))))

abbrev pub admin_verb_of : List ℕ → Option Verb
admin_verb_of word = option_or (queue_verb_of word) (route_verb_of word)

-- what the statements of that word do
abbrev pub verb_of : List ℕ → Option Verb
verb_of word = option_or (message_verb_of word) (admin_verb_of word)

-- ---- the members that say what a statement does, and to what

abbrev pub is_key_of_create_table : List ℕ → Bool
is_key_of_create_table key =
    bytes_eq key (codes "table") || bytes_eq key (codes "fields") || bytes_eq key (codes "sort")
    || bytes_eq key (codes "multi") || bytes_eq key (codes "grouping")

abbrev pub is_key_of_create_queue : List ℕ → Bool
is_key_of_create_queue key =
    bytes_eq key (codes "queue") || bytes_eq key (codes "table") || bytes_eq key (codes "kind")
    || bytes_eq key (codes "max_retries") || bytes_eq key (codes "retry_delay") || bytes_eq key (codes "retention")

-- of what turns a queue on or off
abbrev pub is_key_of_switch : List ℕ → Bool
is_key_of_switch key =
    bytes_eq key (codes "queue") || bytes_eq key (codes "enqueue") || bytes_eq key (codes "dequeue")

abbrev pub is_key_of_add_subscriber : List ℕ → Bool
is_key_of_add_subscriber key =
    bytes_eq key (codes "queue") || bytes_eq key (codes "name") || bytes_eq key (codes "address")
    || bytes_eq key (codes "rule")

abbrev pub is_key_of_schedule : List ℕ → Bool
is_key_of_schedule key =
    bytes_eq key (codes "queue") || bytes_eq key (codes "to") || bytes_eq key (codes "start")
    || bytes_eq key (codes "duration") || bytes_eq key (codes "period") || bytes_eq key (codes "latency")

-- of what names a schedule
abbrev pub is_key_of_route : List ℕ → Bool
is_key_of_route key = bytes_eq key (codes "queue") || bytes_eq key (codes "to")

-- of what a message is, and for whom
abbrev pub is_key_of_message : List ℕ → Bool
is_key_of_message key =
    bytes_eq key (codes "payload") || bytes_eq key (codes "priority") || bytes_eq key (codes "corr")
    || bytes_eq key (codes "recipients") || bytes_eq key (codes "exception_queue") || bytes_eq key (codes "props")

-- of where it is put, and when
abbrev pub is_key_of_placing : List ℕ → Bool
is_key_of_placing key =
    bytes_eq key (codes "queue") || bytes_eq key (codes "visibility") || bytes_eq key (codes "delay")
    || bytes_eq key (codes "expiration") || bytes_eq key (codes "before") || bytes_eq key (codes "top")

abbrev pub is_key_of_enqueue : List ℕ → Bool
is_key_of_enqueue key = is_key_of_message key || is_key_of_placing key

-- of which message is wanted
abbrev pub is_key_of_choice : List ℕ → Bool
is_key_of_choice key =
    bytes_eq key (codes "consumer") || bytes_eq key (codes "navigation") || bytes_eq key (codes "msgid")
    || bytes_eq key (codes "corr") || bytes_eq key (codes "condition")

-- of where it is taken, and how
abbrev pub is_key_of_taking : List ℕ → Bool
is_key_of_taking key =
    bytes_eq key (codes "queue") || bytes_eq key (codes "mode") || bytes_eq key (codes "visibility")
    || bytes_eq key (codes "wait")

abbrev pub is_key_of_dequeue : List ℕ → Bool
is_key_of_dequeue key = is_key_of_choice key || is_key_of_taking key

abbrev pub is_key_of_verb : Verb → List ℕ → Bool
is_key_of_verb verbs.CreateTable key = is_key_of_create_table key
is_key_of_verb verbs.DropTable key = bytes_eq key (codes "table")
is_key_of_verb verbs.CreateQueue key = is_key_of_create_queue key
is_key_of_verb verbs.DropQueue key = bytes_eq key (codes "queue")
is_key_of_verb verbs.StartQueue key = is_key_of_switch key
is_key_of_verb verbs.StopQueue key = is_key_of_switch key
is_key_of_verb verbs.AddSubscriber key = is_key_of_add_subscriber key
is_key_of_verb verbs.RemoveSubscriber key = bytes_eq key (codes "queue") || bytes_eq key (codes "name")
is_key_of_verb verbs.Schedule key = is_key_of_schedule key
is_key_of_verb verbs.Unschedule key = is_key_of_route key
is_key_of_verb verbs.EnableSchedule key = is_key_of_route key
is_key_of_verb verbs.DisableSchedule key = is_key_of_route key
is_key_of_verb verbs.Enqueue key = is_key_of_enqueue key
is_key_of_verb verbs.Dequeue key = is_key_of_dequeue key
is_key_of_verb verbs.Listen key = bytes_eq key (codes "agents") || bytes_eq key (codes "wait")
is_key_of_verb verbs.Commit key = false
is_key_of_verb verbs.Rollback key = false

-- ---- forms

-- the members of a dequeue that are not mostly left out
abbrev pub is_key_of_plain_dequeue : List ℕ → Bool
is_key_of_plain_dequeue key =
    bytes_eq key (codes "s") || bytes_eq key (codes "do") || bytes_eq key (codes "queue") || bytes_eq key (codes "visibility")

-- the members that an object of that form may have
abbrev pub is_key_of : Form → List ℕ → Bool
is_key_of forms.Declaration key = bytes_eq key (codes "session") || bytes_eq key (codes "at")
is_key_of (forms.Asking verb) key = bytes_eq key (codes "s") || bytes_eq key (codes "do") || is_key_of_verb verb key
is_key_of forms.PlainDequeue key = is_key_of_plain_dequeue key
is_key_of forms.Recipient key = bytes_eq key (codes "name") || bytes_eq key (codes "address")
is_key_of forms.Agent key = bytes_eq key (codes "queue") || bytes_eq key (codes "consumer")

abbrev pub only_keys : Form → Members → Bool
only_keys form no_members = true
only_keys form (member key d ms) = is_key_of form key && only_keys form ms

abbrev pub some_if : {A : Type 0} → Bool → A → Option A
some_if b a = if b then Some a else None

-- an object with no members but those of the form
abbrev pub has_form : Form → Data → Bool
has_form form d = is_some (option_and_then (λ ms. some_if (only_keys form ms) ms) (as_object d))
