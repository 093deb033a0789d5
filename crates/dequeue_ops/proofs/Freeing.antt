-- The message that is chosen is free for the session, unless it is only browsed.
use Rattle.std.proofs.Common.{◌≡◌, ℕ, List, [], ◌∷◌, Bool, true, false, not, Option, Some, None, refl, sym, subst, All, IfSome, ◌&&◌, ◌||◌, inl, inr}
use Rattle.std.specs.Prelude.{◌==◌, find, fold, int_lt, pos, if◌then◌else◌}
use Rattle.std.specs.Str.{bytes_eq}
use Rattle.std.proofs.lemmas.Bool.{and_parts, both_ways, cases_Bool, not-true, false≢true}
use Rattle.std.proofs.lemmas.List.Elements.{All-filter, All-head, All-tail, filter_passes}
use Rattle.aq_base.specs.declared.DbId.{DbId}
use Rattle.aq_base.specs.declared.DbId.TheVariants.{Home}
use Rattle.place_keys.specs.Place.{stands_before}
use Rattle.slot_marks.specs.Marks.{marks_of}
use Rattle.queue_rows.specs.Rows.{find_message, slot_of}
use Rattle.queue_rows.specs.Groups.{group_of}
use Rattle.queue_rows.specs.Session.{Session, fresh_at, has_removed, is_held, is_same_db, message_named, position_in}
use Rattle.queue_rows.specs.Dequeueing as def
use Rattle.queue_rows.specs.Dequeueing.{Look, Choice, choice, chosen, end_of_group, found_or, is_available, is_available_slot, is_browse, is_free, is_past, is_ready_slot, least, meets, nearer, next_or_first, nothing, past, past_group, of_group, slot_in}
use Rattle.queue_rows.specs.Tables.{lane_of}
use Rattle.queue_rows.specs.declared.tables.Tables.{Tables}
use Rattle.queue_rows.specs.declared.rows.MsgRow.{MsgRow}
use Rattle.queue_rows.specs.declared.session.Position.{Position}
use Rattle.queue_rows.specs.declared.statement.MsgId.{MsgId}
use Rattle.queue_rows.specs.declared.statement.Mode.{Mode}
use Rattle.queue_rows.specs.declared.statement.Navigation.{Navigation}
use Rattle.queue_rows.specs.declared.statement.Navigation.TheVariants as navigations
use Rattle.message_choice.specs.Asking.{sessions_of}
use Rattle.message_choice.proofs.Claiming.{free-for}
use Rattle.message_choice.proofs.Holding.{are_plain, held-from}
use Rattle.dequeue_ops.specs.Asked.{IsFreeToGive, IsShown, look_of}
use Rattle.dequeue_ops.specs.declared.request.Asked.{Asked}

-- ---- what holds of all holds of the one that is chosen

module _ (P : MsgRow → Type 0) where
  abbrev pub IfFound : Choice → Type 0
  IfFound (def.found m) = P m
  IfFound def.end_of_group = Unit {0}
  IfFound def.nothing = Unit {0}

  nearer-by : (b : Bool) (x y : MsgRow) → P x → P y → IfSome (if b then Some x else Some y) P
  nearer-by true x y hx hy = hx
  nearer-by false x y hx hy = hy

  nearer-each : (best : Option MsgRow) (m : MsgRow) → IfSome best P → P m → IfSome (nearer best m) P
  nearer-each None m h here = here
  nearer-each (Some best) m h here = nearer-by (stands_before m.place best.place) m best here h

  fold-each : (best : Option MsgRow) (ms : List MsgRow) → IfSome best P → All P ms → IfSome (fold nearer best ms) P
  fold-each best [] h all = h
  fold-each best (m ∷ ms) h all = fold-each (nearer best m) ms (nearer-each best m h (All-head P m ms all)) (All-tail P m ms all)

  least-each : (ms : List MsgRow) → All P ms → IfSome (least ms) P
  least-each ms all = fold-each None ms tt all

  found-each : (otherwise : Choice) (o : Option MsgRow) → IfFound otherwise → IfSome o P → IfFound (found_or otherwise o)
  found-each otherwise None h found = h
  found-each otherwise (Some m) h found = found

  first-each : (ms : List MsgRow) → All P ms → IfFound (found_or nothing (least ms))
  first-each ms all = found-each nothing (least ms) tt (least-each ms all)

  browse-each : (b : Bool) (ms : List MsgRow) → All P ms → IfFound (if b then nothing else found_or nothing (least ms))
  browse-each true ms all = tt
  browse-each false ms all = first-each ms all

  next-each : (mode : Mode) (p : Position) (ms : List MsgRow) → All P ms → IfFound (next_or_first mode p ms)
  next-each mode p ms all = found-each (if is_browse mode then nothing else found_or nothing (least ms)) (least (past p ms)) (browse-each (is_browse mode) ms all) (least-each (past p ms) (All-filter (is_past p) P ms all))

  group-each : (p : Position) (ms : List MsgRow) → All P ms → IfFound (found_or end_of_group (least (past p (of_group p ms))))
  group-each p ms all = found-each end_of_group (least (past p (of_group p ms))) tt (least-each (past p (of_group p ms)) (All-filter (is_past p) P (of_group p ms) (All-filter (λ m. m.group == p.group) P ms all)))

  next-by : (grouped : Bool) (mode : Mode) (p : Position) (ms : List MsgRow) → All P ms → IfFound (choice navigations.Next (Some p) grouped mode ms)
  next-by true mode p ms all = group-each p ms all
  next-by false mode p ms all = next-each mode p ms all

  choice-each : (n : Navigation) (p : Option Position) (grouped : Bool) (mode : Mode) (ms : List MsgRow) → All P ms → IfFound (choice n p grouped mode ms)
  choice-each navigations.First p grouped mode ms all = first-each ms all
  choice-each navigations.Next None grouped mode ms all = first-each ms all
  choice-each navigations.Next (Some p) grouped mode ms all = next-by grouped mode p ms all
  choice-each navigations.NextTransaction None grouped mode ms all = first-each ms all
  choice-each navigations.NextTransaction (Some p) grouped mode ms all = found-each nothing (least (past_group p ms)) tt (least-each (past_group p ms) (All-filter (λ m. int_lt (pos p.group) (lane_of m.place)) P ms all))

  find-each : (test : MsgRow → Bool) (ms : List MsgRow) → All P ms → IfSome (find test ms) P
  find-each test [] all = tt
  find-each test (m ∷ ms) all = elim (cases_Bool (test m)) [
    | inl here ↦ rw here (All-head P m ms all)
    | inr elsewhere ↦ rw elsewhere (find-each test ms (All-tail P m ms all))
  ]

  named-by : (b : Bool) (t : Tables) (number : ℕ) → All P t.messages → IfSome (if b then find_message t number else None) P
  named-by true t number all = find-each (λ m. m.id == number) t.messages all
  named-by false t number all = tt

  -- and of the one that is named
  pub named-each : (t : Tables) (db : DbId) (id : MsgId) → All P t.messages → IfSome (message_named t db id) P
  named-each t db id all = named-by (is_same_db id.db db) t id.number all

-- so it may be given
chosen-given : (l : Look) (m : MsgRow) → chosen l ≡ def.found m → (is_available l m && meets l m) ≡ true
chosen-given l m e =
    let P : MsgRow → Type 0 = λ x. (is_available l x && meets l x) ≡ true in
    subst (λ (c : Choice). IfFound P c) e
    (choice-each P l.ask.navigation (position_in l.session l.ask.queue l.ask.consumer) l.table.grouped l.ask.mode (def.candidates l) (filter_passes (λ m. is_available l m && meets l m) l.tables.messages))

-- ---- free for the session

unbrowsed : (b : Bool) (h : Bool) → b ≡ false → (b || not h) ≡ true → h ≡ false
unbrowsed true h e f = absurd (false≢true (sym e))
unbrowsed false h e f = not-true h f

unheld : (l : Look) (m : MsgRow) (slot : ℕ) → chosen l ≡ def.found m → slot_in l m ≡ Some slot → is_browse l.ask.mode ≡ false → is_held l.sessions l.actor l.session.at m.id slot (group_of l.table m slot) ≡ false
unheld l m slot e here mode =
    let available = (and_parts (is_available l m) (meets l m) (chosen-given l m e)).0 in
    let there : is_available_slot l m (slot_in l m) ≡ true = (and_parts (bytes_eq m.queue l.queue.name) (is_available_slot l m (slot_in l m)) available).1 in
    let of_slot : is_available_slot l m (Some slot) ≡ true = subst (λ (o : Option ℕ). is_available_slot l m o ≡ true) here there in
    let free : is_free l m slot ≡ true = (and_parts (is_ready_slot (slot_of m slot) && not (has_removed l.session m.id slot)) (is_free l m slot) of_slot).1 in
    unbrowsed (is_browse l.ask.mode) (is_held l.sessions l.actor l.session.at m.id slot (group_of l.table m slot)) mode free

-- the plainest session with these marks and positions, beside others with their marks
abbrev pub plain_session : Asked → Session
plain_session a = record (fresh_at Home) { marks = marks_of a.request.now.locks.now a.request.now.actor; positions = a.request.now.session.now.positions }

pub plain-shown : (a : Asked) → IsShown a (sessions_of a.request.now.locks.now) (plain_session a)
plain-shown a = record { marks = are_plain a.request.now.locks.now; own = refl; positions = refl }

pub chosen-free : (t : Tables) (a : Asked) (m : MsgRow) (slot : ℕ)
    → chosen (look_of t a (sessions_of a.request.now.locks.now) (plain_session a)) ≡ def.found m
    → slot_in (look_of t a (sessions_of a.request.now.locks.now) (plain_session a)) m ≡ Some slot → IsFreeToGive a m slot
chosen-free t a m slot e here mode removed =
    let locks = a.request.now.locks.now in
    let l : Look = look_of t a (sessions_of locks) (plain_session a) in
    let free : is_held l.sessions l.actor l.session.at m.id slot (group_of l.table m slot) ≡ false = unheld l m slot e here mode in
    free-for locks a.request.now.actor m.id slot (group_of a.table.now m slot) removed
    (λ r. both_ways (is_held l.sessions l.actor l.session.at m.id slot (group_of l.table m slot)) free
    (held-from Home (sessions_of locks) locks (are_plain locks) a.request.now.actor m.id slot (group_of a.table.now m slot) r))
