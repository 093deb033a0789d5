-- Where a choice finds a message, an agent has one to take.
use Rattle.std.proofs.Common.{◌≡◌, ℕ, List, [], ◌∷◌, Bool, true, false, Some, refl, sym, ap, ◌∙◌, ◌&&◌, ◌||◌, inl, inr}
use Rattle.std.specs.Prelude.{filter, fold, if◌then◌else◌}
use Rattle.std.specs.List.{list_any}
use Rattle.std.proofs.lemmas.Bool.{cases_Bool}
use Rattle.place_keys.specs.Place.{stands_before}
use Rattle.slot_marks.specs.Marks.{SessionMarks}
use Rattle.queue_rows.specs.Session.{Session}
use Rattle.queue_rows.specs.Dequeueing.{Look, chosen, found_or, is_available, least, meets, nearer, nothing}
use Rattle.queue_rows.specs.Listening.{has_message, look_of}
use Rattle.queue_rows.specs.declared.tables.Tables.{Tables}
use Rattle.queue_rows.specs.declared.rows.TableRow.{TableRow}
use Rattle.queue_rows.specs.declared.rows.QueueRow.{QueueRow}
use Rattle.queue_rows.specs.declared.rows.MsgRow.{MsgRow}
use Rattle.queue_rows.specs.declared.statement.Listener.{Listener}
use Rattle.message_choice.specs.Asking.{IsLookOf}
use Rattle.message_choice.specs.declared.asking.Pick.{Pick}
use Rattle.listen_ops.specs.Listened.{IsFound, IsPickOf, IsShown, is_found}

and-true : (a : Bool) → (a && true) ≡ a
and-true true = refl
and-true false = refl

or-true : (a : Bool) → (true || a) ≡ true
or-true a = refl

nearer_by : (b : Bool) (x y : MsgRow) (xs : List MsgRow) → ((z : MsgRow) → is_found (found_or nothing (fold nearer (Some z) xs)) ≡ true) → is_found (found_or nothing (fold nearer (if b then Some x else Some y) xs)) ≡ true
nearer_by true x y xs h = h x
nearer_by false x y xs h = h y

-- what is nearest once is some message to the end
fold-found : (xs : List MsgRow) (best : MsgRow) → is_found (found_or nothing (fold nearer (Some best) xs)) ≡ true
fold-found [] best = refl
fold-found (x ∷ xs) best = nearer_by (stands_before x.place best.place) x best xs (λ z. fold-found xs z)

-- of messages that pass one is least where there is any
least-found : (p : MsgRow → Bool) (ms : List MsgRow) → is_found (found_or nothing (least (filter p ms))) ≡ list_any p ms
least-found p [] = refl
least-found p (m ∷ ms) = elim (cases_Bool (p m)) [
  | inl passes ↦ rw passes (fold-found (filter p ms) m)
  | inr fails ↦ rw fails (least-found p ms)
]

any-same : (p q : MsgRow → Bool) (ms : List MsgRow) → ((m : MsgRow) → p m ≡ q m) → list_any p ms ≡ list_any q ms
any-same p q [] same = refl
any-same p q (m ∷ ms) same = ap (λ b. b || list_any p ms) (same m) ∙ ap (λ b. q m || b) (any-same p q ms same)

module _ (t : Tables) (locks : List SessionMarks) (actor : ℕ) (sessions : List Session) (s : Session) (is : IsShown locks actor sessions s) (agent : Listener) (queue : QueueRow) (table : TableRow) where
  -- the session as it would stand nowhere
  abbrev pub nowhere : Session
  nowhere = record s { positions = [] }

  abbrev pub l : Look
  l = look_of t sessions actor nowhere agent queue table

  asks : (pick : Pick) → IsPickOf queue table agent pick → IsLookOf pick actor locks t.messages l
  asks pick of = record {
    messages = refl;
    marks = is.marks;
    own = is.own;
    actor = refl;
    queue = sym of.queue_is;
    table = sym of.table_is;
    consumer = sym of.consumer;
    mode = sym of.mode;
    navigation = sym of.navigation;
    position = sym of.position;
    corr = sym of.corr;
    condition = sym of.condition;
  }

  any-found : is_found (chosen l) ≡ has_message l
  any-found =
      least-found (λ m. is_available l m && meets l m) t.messages
      ∙ any-same (λ m. is_available l m && meets l m) (is_available l) t.messages (λ m. and-true (is_available l m))

  -- the choice finds a message where the agent has one
  pub has-found : (pick : Pick) (it : Bool) → IsPickOf queue table agent pick → IsFound t locks actor pick it → has_message (look_of t sessions actor s agent queue table) ≡ it
  has-found pick it of finds = sym any-found ∙ finds l (asks pick of)
