-- What holds of the numbers of a legal world: of what is to be told, of what is durable, and of what came.
use Rattle.std.proofs.Common.{◌≡◌, ◌≢◌, ℕ, zero, suc, ◌+◌, ◌<◌, ◌≤◌, ◌⊎◌, inl, inr, List, [], ◌∷◌, ◌++◌, Bool, true, false, not, Option, Some, None, refl, sym, ap, subst, ◌∙◌, arith, length, append_assoc, append-nil}
use Rattle.std.specs.Prelude.{slice_get, slice_set, map, is_some, if◌then◌else◌, ◌==◌, ◌||◌}
use Rattle.std.specs.List.{list_any, position_or_len}
use Rattle.std.proofs.lemmas.Bool.{or_cases, or_left, or_right, eq-eqb, and_from, false≢true, true≢false}
use Rattle.std.proofs.lemmas.Option.{none-some, slice_get_within}
use Rattle.aq_base.specs.declared.DbId.{DbId}
use Rattle.aq_base.specs.declared.DbId.TheVariants.{Home, Away}
use Rattle.queue_rows.specs.Rows.{find_message, find_queue, find_table}
use Rattle.queue_rows.specs.Tables.{after_change, after_all, after, drop_queue, drop_table, move_in, move_some}
use Rattle.queue_rows.specs.Session.{Session, Untold}
use Rattle.queue_rows.specs.Propagating.{Dispatch, Arriving, has_seen, is_pair, copy_of, taken_in}
use Rattle.queue_rows.specs.World.{fresh, at_home, at_away, committed_tables, commits_in, other_db, World, Stage, on_its_way, came, Transit, database_at, opened, read_clock, stepped, with_session, entry_of}
use Rattle.queue_rows.specs.Turns.{ids_taken, due_at, timed, untold_in, having_called, called_in, standing, called, all_durable}
use Rattle.queue_rows.specs.Legal.{last_entry, MayStep, IsLegal, opens, reads, steps}
use Rattle.queue_rows.specs.declared.tables.Tables.{Tables}
use Rattle.queue_rows.specs.declared.rows.MsgRow.{MsgRow}
use Rattle.queue_rows.specs.declared.rows.SeenRow.{SeenRow}
use Rattle.queue_rows.specs.declared.change.Change.{Change}
use Rattle.queue_rows.specs.declared.change.Change.TheVariants as changes
use Rattle.queue_rows.specs.declared.reply.Reply.{Reply}
use Rattle.queue_rows.specs.declared.history.Entry.{Entry}
use Rattle.queue_rows.specs.declared.history.SlotRef.{SlotRef}
use Rattle.queue_rows.specs.declared.history.SessionScript.{SessionScript}
use Rattle.queue_rows.specs.declared.history.Arrival.{Arrival}
use Rattle.queue_rows.specs.declared.history.Arrival.TheVariants.{Copied, Seen, Failed}
use Rattle.queue_rows.specs.declared.history.Step.{Step}
use Rattle.queue_rows.specs.declared.history.Step.TheVariants.{Call, Park, Timer, Offer, Arrive, Confirm, Told, Flush, End}
use Rattle.queue_rows.proofs.Sessions.{get_set-cases}
use Rattle.run_laws.proofs.Commits.{empty_if}
use Rattle.queue_rows.specs.Sending.{taking_ids, with_transit, sent, offers, arrives, confirms, next_sending, ids_copied, home_of, away_of, pair_number, transit_after, came_to}
use Rattle.run_laws.specs.ValidRun.{IsValidWorld}
use Rattle.run_laws.proofs.Arriving.{ArrivesAs, as_seen, as_failed, as_copied}
use Rattle.run_laws.proofs.Committing.{arrives_here}
use Rattle.run_laws.proofs.Positions.{was_at}
use Rattle.run_laws.proofs.Stepping.{Leads, no_changes, no_ids, at_both, only_at, ids_at, world_at, called_at, call_leads, call_sessions, call_transit, step_leads, step_sessions, step_transit, leads_with_session, leads_with_transit, leads_durable}
use Rattle.run_laws.proofs.Working.{taken_is}
use Rattle.run_turns.proofs.Adding.{Adds, step_adds, last-snoc}
use Rattle.run_laws.proofs.Worlds.{quiet_leads, timed_leads, due_changes, arrival_changes, arrival_leads, arrival_sessions, arrival_transit, other_of, confirm_leads, reading_keeps_valid, step_keeps_valid}

-- ---- what was seen only grows

-- the one list begins the other
abbrev pub GrowsTo : List SeenRow → List SeenRow → Type 0
GrowsTo xs ys = (more : List SeenRow) × (ys ≡ xs ++ more)

grows_same : (xs ys : List SeenRow) → ys ≡ xs → GrowsTo xs ys
grows_same xs ys e = ([], e ∙ sym (append-nil xs))

pub grows_on : (xs ys zs : List SeenRow) → GrowsTo xs ys → GrowsTo ys zs → GrowsTo xs zs
grows_on xs ys zs a b = (a.0 ++ b.0, b.1 ∙ ap (λ l. l ++ b.0) a.1 ∙ append_assoc xs a.0 b.0)

queue_seen : (t : Tables) (name : List ℕ) (b : Bool) → (if b then drop_queue t name else t).seen ≡ t.seen
queue_seen t name true = refl
queue_seen t name false = refl

table_seen : (t : Tables) (name : List ℕ) (b : Bool) → (if b then drop_table t name else t).seen ≡ t.seen
table_seen t name true = refl
table_seen t name false = refl

move_in_seen : (t : Tables) (m : MsgRow) (to : List ℕ) (at : ℕ) (b : Bool) → (if b then move_in t m to at else t).seen ≡ t.seen
move_in_seen t m to at true = refl
move_in_seen t m to at false = refl

move_seen : (t : Tables) (to : List ℕ) (at : ℕ) (o : Option MsgRow) → (move_some t o to at).seen ≡ t.seen
move_seen t to at None = refl
move_seen t to at (Some m) = move_in_seen t m to at (is_some (find_queue t to))

one_seen : (t : Tables) (c : Change) → GrowsTo t.seen (after_change t c).seen
one_seen t (changes.Seen row) = (row ∷ [], refl)
one_seen t (changes.DropQueue name) = grows_same t.seen (after_change t (changes.DropQueue name)).seen (queue_seen t name (is_some (find_queue t name)))
one_seen t (changes.DropTable name) = grows_same t.seen (after_change t (changes.DropTable name)).seen (table_seen t name (is_some (find_table t name)))
one_seen t (changes.Moved id to at) = grows_same t.seen (after_change t (changes.Moved id to at)).seen (move_seen t to at (find_message t id))
one_seen t (changes.PutTable row) = ([], sym (append-nil t.seen))
one_seen t _ = ([], sym (append-nil t.seen))

all_seen : (cs : List Change) (t : Tables) → GrowsTo t.seen (after_all t cs).seen
all_seen [] t = ([], sym (append-nil t.seen))
all_seen (c ∷ cs) t = grows_on t.seen (after_change t c).seen (after_all (after_change t c) cs).seen (one_seen t c) (all_seen cs (after_change t c))

seen_by : (t : Tables) (moment : ℕ) (cs : List Change) (b : Bool) → GrowsTo t.seen (if b then t else after t (record { moment = moment; changes = cs })).seen
unfolding after
seen_by t moment cs true = ([], sym (append-nil t.seen))
seen_by t moment cs false = all_seen cs t

pub committed_seen : (t : Tables) (moment : ℕ) (cs : List Change) → GrowsTo t.seen (committed_tables t cs moment).seen
committed_seen t moment cs = seen_by t moment cs (length cs == 0)

-- ---- what came

-- the pair of the slot has that number, from 1, among those that were seen
pub record HasCome (there : Tables) (at : SlotRef) (number : ℕ) : Type 0 where
  pub index : ℕ
  pub row : SeenRow
  pub number_is : number ≡ index + 1
  pub there_is : slice_get there.seen index ≡ Some row
  pub pair : is_pair at.id at.slot row ≡ true

in_front : (xs ys : List SeenRow) (i : ℕ) (r : SeenRow) → slice_get xs i ≡ Some r → slice_get (xs ++ ys) i ≡ Some r
in_front [] ys i r e = absurd (none-some r e)
in_front (x ∷ xs) ys zero r e = e
in_front (x ∷ xs) ys (suc i) r e = in_front xs ys i r e

pub come_on : (t u : Tables) (at : SlotRef) (number : ℕ) → GrowsTo t.seen u.seen → HasCome t at number → HasCome u at number
come_on t u at number g k = record {
  index = k.index;
  row = k.row;
  number_is = k.number_is;
  there_is = ap (λ xs. slice_get xs k.index) g.1 ∙ in_front t.seen g.0 k.index k.row k.there_is;
  pair = k.pair;
}

pub come_within : (t : Tables) (at : SlotRef) (number : ℕ) → HasCome t at number → number ≤ length t.seen
come_within t at number k = let lt = slice_get_within t.seen k.index k.row k.there_is in let e = k.number_is in omega (arith, lt, e)

-- the first pair that passes a test has its place
first_at : (p : SeenRow → Bool) (xs : List SeenRow) → list_any p xs ≡ true → (row : SeenRow) × (slice_get xs (position_or_len p xs) ≡ Some row) × (p row ≡ true)
first_at p [] h = absurd (false≢true h)
first_at p (x ∷ xs) h = by (p x) refl (first_at p xs)
  where
    by : (b : Bool) → p x ≡ b → (list_any p xs ≡ true → (row : SeenRow) × (slice_get xs (position_or_len p xs) ≡ Some row) × (p row ≡ true)) → (row : SeenRow) × (slice_get (x ∷ xs) (if not b then 1 + position_or_len p xs else 0) ≡ Some row) × (p row ≡ true)
    by true e ih = (x, refl, e)
    by false e ih =
        let r = ih (sym (ap (λ b. b || list_any p xs) e) ∙ h) in
        let one : (if not false then 1 + position_or_len p xs else 0) ≡ suc (position_or_len p xs) = omega arith in
        (r.0, ap (slice_get (x ∷ xs)) one ∙ r.1, r.2)

come_if_seen : (there : Tables) (at : SlotRef) → has_seen there at ≡ true → HasCome there at (pair_number there at)
come_if_seen there at h =
    let x = first_at (is_pair at.id at.slot) there.seen h in
    record { index = position_or_len (is_pair at.id at.slot) there.seen; row = x.0; number_is = refl; there_is = x.1; pair = x.2 }

-- ---- what is to be told was called at commits that were made

pub record IsCounted (w : World) (untold : Untold) : Type 0 where
  pub home : untold.home ≤ w.home.made
  pub away : untold.away ≤ w.away.made

abbrev pub AreCounted : World → Type 0
AreCounted w = (j : ℕ) (s : Session) (untold : Untold) → slice_get w.sessions j ≡ Some s → s.untold ≡ Some untold → IsCounted w untold

still_counted : (w new : World) (cs : DbId → List Change) (taken : DbId → ℕ) (untold : Untold) → Leads w new cs taken → IsCounted w untold → IsCounted new untold
still_counted w new cs taken untold b c = record { home = let a = b.count Home in let x = c.home in omega (arith, a, x); away = let a = b.count Away in let x = c.away in omega (arith, a, x) }

counted_same : (w new : World) (cs : DbId → List Change) (taken : DbId → ℕ) → Leads w new cs taken → new.sessions ≡ w.sessions → AreCounted w → AreCounted new
counted_same w new cs taken b e c j s u there told = still_counted w new cs taken u b (c j s u (ap (λ xs. slice_get xs j) (sym e) ∙ there) told)

counted_set : (w new : World) (cs : DbId → List Change) (taken : DbId → ℕ) (xs : List Session) (i : ℕ) (s : Session) → Leads w new cs taken → i < length w.sessions → xs ≡ slice_set w.sessions i s → ((u : Untold) → s.untold ≡ Some u → IsCounted new u) → AreCounted w
    → (j : ℕ) (y : Session) (u : Untold) → slice_get xs j ≡ Some y → y.untold ≡ Some u → IsCounted new u
counted_set w new cs taken xs i s b lt e own c j y u there told = by (get_set-cases w.sessions i j s y lt (ap (λ zs. slice_get zs j) (sym e) ∙ there))
  where
    by : ((j ≡ i) × (Some s ≡ Some y)) ⊎ ((j ≢ i) × (slice_get w.sessions j ≡ Some y)) → IsCounted new u
    by (inl p) = own u (let same : s ≡ y = (let a : Some s ≡ Some y = p.1 in cc) in ap (λ x. x.untold) same ∙ told)
    by (inr p) = still_counted w new cs taken u b (c j y u p.1 told)

-- ---- what is durable

-- a step leaves what is durable
pub record StaysDurable (w new : World) : Type 0 where
  pub durable : (db : DbId) → (database_at db new).durable ≡ (database_at db w).durable
  pub seen : (db : DbId) → (database_at db new).durable_seen ≡ (database_at db w).durable_seen

pub stays_stepped : (actor : ℕ) (w : World) (home away : List Change) (step : Step) → StaysDurable w (stepped actor w home away step)
unfolding stepped
stays_stepped actor w home away step = record { durable = durable_by; seen = seen_of }
  where
    durable_by : (db : DbId) → (database_at db (stepped actor w home away step)).durable ≡ (database_at db w).durable
    durable_by Home = refl
    durable_by Away = refl

    seen_of : (db : DbId) → (database_at db (stepped actor w home away step)).durable_seen ≡ (database_at db w).durable_seen
    seen_of Home = refl
    seen_of Away = refl

pub stays_session : (w new : World) (i : ℕ) (s : Session) → StaysDurable w new → StaysDurable w (with_session i s new)
stays_session w new i s k = record { durable = durable_by; seen = seen_of }
  where
    durable_by : (db : DbId) → (database_at db (with_session i s new)).durable ≡ (database_at db w).durable
    durable_by Home = k.durable Home
    durable_by Away = k.durable Away

    seen_of : (db : DbId) → (database_at db (with_session i s new)).durable_seen ≡ (database_at db w).durable_seen
    seen_of Home = k.seen Home
    seen_of Away = k.seen Away

pub stays_transit : (w new : World) (t : Option Transit) → StaysDurable w new → StaysDurable w (with_transit t new)
stays_transit w new t k = record { durable = durable_by; seen = seen_of }
  where
    durable_by : (db : DbId) → (database_at db (with_transit t new)).durable ≡ (database_at db w).durable
    durable_by Home = k.durable Home
    durable_by Away = k.durable Away

    seen_of : (db : DbId) → (database_at db (with_transit t new)).durable_seen ≡ (database_at db w).durable_seen
    seen_of Home = k.seen Home
    seen_of Away = k.seen Away

pub stays_standing : (w new : World) (at : DbId) (cs : List Change) → StaysDurable w new → StaysDurable w (standing at cs new)
stays_standing w new at cs k = record { durable = durable_by; seen = seen_of }
  where
    durable_by : (db : DbId) → (database_at db (standing at cs new)).durable ≡ (database_at db w).durable
    durable_by Home = k.durable Home
    durable_by Away = k.durable Away

    seen_of : (db : DbId) → (database_at db (standing at cs new)).durable_seen ≡ (database_at db w).durable_seen
    seen_of Home = k.seen Home
    seen_of Away = k.seen Away

pub stays_taking : (w new : World) (at : DbId) (n : ℕ) → StaysDurable w new → StaysDurable w (taking_ids at n new)
stays_taking w new Home n k = record { durable = durable_by; seen = seen_of }
  where
    durable_by : (db : DbId) → (database_at db (taking_ids Home n new)).durable ≡ (database_at db w).durable
    durable_by Home = k.durable Home
    durable_by Away = k.durable Away

    seen_of : (db : DbId) → (database_at db (taking_ids Home n new)).durable_seen ≡ (database_at db w).durable_seen
    seen_of Home = k.seen Home
    seen_of Away = k.seen Away
stays_taking w new Away n k = record { durable = durable_by; seen = seen_of }
  where
    durable_by : (db : DbId) → (database_at db (taking_ids Away n new)).durable ≡ (database_at db w).durable
    durable_by Home = k.durable Home
    durable_by Away = k.durable Away

    seen_of : (db : DbId) → (database_at db (taking_ids Away n new)).durable_seen ≡ (database_at db w).durable_seen
    seen_of Home = k.seen Home
    seen_of Away = k.seen Away

-- ---- what holds of the numbers

-- What is to be told was called at commits that were made; no more is durable than was made, and where all is, all seen pairs are; and what
-- came to its destination has its number there.
pub record IsSound (w : World) : Type 0 where
  pub counted : AreCounted w
  pub most : (db : DbId) → (database_at db w).durable ≤ (database_at db w).made
  pub seen : (db : DbId) → (database_at db w).made ≤ (database_at db w).durable → (database_at db w).durable_seen ≡ length (database_at db w).tables.seen
  pub come : (at : SlotRef) (n : ℕ) → w.transit ≡ Some (record { slot = at; stage = came n }) → HasCome (database_at (other_db at.db) w).tables at n

module _ (w new : World) (cs : DbId → List Change) (taken : DbId → ℕ) (b : Leads w new cs taken) (k : IsSound w) where
  -- all that was seen is there
  pub grown : (db : DbId) → GrowsTo (database_at db w).tables.seen (database_at db new).tables.seen
  grown db = subst (λ t. GrowsTo (database_at db w).tables.seen t.seen) (sym (b.tables db)) (committed_seen (database_at db w).tables w.moment (cs db))

  seen_if : (db : DbId) (c : Bool) → StaysDurable w new → (length (cs db) == 0) ≡ c → (database_at db new).made ≤ (database_at db new).durable → (database_at db new).durable_seen ≡ length (database_at db new).tables.seen
  seen_if db true s e le =
      let none : cs db ≡ [] = empty_if (cs db) e in
      let t : (database_at db new).tables ≡ (database_at db w).tables = b.tables db ∙ ap (λ ds. committed_tables (database_at db w).tables ds w.moment) none in
      let count : (database_at db new).made ≡ (database_at db w).made + 0 = b.count db ∙ ap (λ ds. (database_at db w).made + commits_in ds) none in
      let d = s.durable db in
      s.seen db ∙ k.seen db (omega (arith, le, count, d)) ∙ ap (λ x. length x.seen) (sym t)
  seen_if db false s e le =
      let one : commits_in (cs db) ≡ 1 = ap (λ x. if x then 0 else 1) e in
      absurd (let count = b.count db in let d = s.durable db in let m = k.most db in omega (arith, le, one, count, d, m))

  pub sound_behind : StaysDurable w new → AreCounted new → ((at : SlotRef) (n : ℕ) → new.transit ≡ Some (record { slot = at; stage = came n }) → HasCome (database_at (other_db at.db) new).tables at n) → IsSound new
  sound_behind s c come = record {
    counted = c;
    most = λ db. let d = s.durable db in let count = b.count db in let m = k.most db in omega (arith, d, count, m);
    seen = λ db le. seen_if db (length (cs db) == 0) s refl le;
    come = come;
  }

  -- what came stays so
  pub same_come : new.transit ≡ w.transit → (at : SlotRef) (n : ℕ) → new.transit ≡ Some (record { slot = at; stage = came n }) → HasCome (database_at (other_db at.db) new).tables at n
  same_come e at n t = let o = other_db at.db in come_on (database_at o w).tables (database_at o new).tables at n (grown o) (k.come at n (sym e ∙ t))

-- ---- each step

none_told : {A : Type 0} (s : Session) (u : Untold) → s.untold ≡ None → s.untold ≡ Some u → A
none_told s u n e = absurd (none-some u (sym n ∙ e))

-- a session is replaced by one whose own call is none, or the one that it had
session_sound : (w : World) (actor i : ℕ) (step : Step) (s behind : Session) → IsSound w → slice_get w.sessions i ≡ Some s → ((u : Untold) → behind.untold ≡ Some u → IsCounted w u) → IsSound (with_session i behind (stepped actor w [] [] step))
session_sound w actor i step s behind k there own =
    let new = with_session i behind (stepped actor w [] [] step) in
    let b = leads_with_session w (stepped actor w [] [] step) no_changes no_ids i behind (quiet_leads actor w step) in
    sound_behind w new no_changes no_ids b k (stays_session w (stepped actor w [] [] step) i behind (stays_stepped actor w [] [] step))
    (counted_set w new no_changes no_ids new.sessions i behind b (slice_get_within w.sessions i s there) (ap (λ xs. slice_set xs i behind) (step_sessions actor w [] [] step)) (λ u told. still_counted w new no_changes no_ids u b (own u told)) k.counted)
    (same_come w new no_changes no_ids b k (step_transit actor w [] [] step))

call_sound : (w : World) (i : ℕ) (s after : Session) (reply : Reply) (cs : List Change) → IsSound w → slice_get w.sessions i ≡ Some s → IsSound (called i s reply cs after w)
call_sound w i s after reply cs k there =
    let at = s.at in
    let new = called_at w i s reply cs after at in
    let b = call_leads w i s reply cs after at in
    let x = having_called (world_at w i s reply cs after at) s after in
    let stayed = stays_standing w (called_in (world_at w i s reply cs after at) i s after) at cs (stays_session w (world_at w i s reply cs after at) i x (stays_taking w (stepped i w (at_home at cs) (at_away at cs) (Call (s.next + 1) reply)) at (ids_taken reply) (stays_stepped i w (at_home at cs) (at_away at cs) (Call (s.next + 1) reply)))) in
    let set = slice_set w.sessions i x in
    let counted_in = counted_set w new (only_at at cs) (ids_at at (ids_taken reply)) set i x b (slice_get_within w.sessions i s there) refl
    (λ u told. let same : untold_in (world_at w i s reply cs after at) s ≡ u = (let h : Some (untold_in (world_at w i s reply cs after at) s) ≡ Some u = told in cc) in
    subst (IsCounted new) same (record { home = omega arith; away = omega arith })) k.counted in
    sound_behind w new (only_at at cs) (ids_at at (ids_taken reply)) b k stayed
    (λ j y u e told. let z = was_at at cs set j y (ap (λ xs. slice_get xs j) (sym (call_sessions w i s reply cs after at)) ∙ e) in
    counted_in j z.before u z.there (ap (λ q. q.untold) (sym z.now) ∙ told))
    (same_come w new (only_at at cs) (ids_at at (ids_taken reply)) b k (call_transit w i s reply cs after at))

-- a step at which all stays but what is committed
quiet_sound : (w new : World) (cs : DbId → List Change) (taken : DbId → ℕ) → IsSound w → Leads w new cs taken → StaysDurable w new → new.sessions ≡ w.sessions → ((at : SlotRef) (n : ℕ) → new.transit ≡ Some (record { slot = at; stage = came n }) → HasCome (database_at (other_db at.db) new).tables at n) → IsSound new
quiet_sound w new cs taken k b s same come = sound_behind w new cs taken b k s (counted_same w new cs taken b same k.counted) come

flush_sound : (w : World) (actor : ℕ) → IsSound w → IsSound (all_durable (stepped actor w [] [] Flush))
flush_sound w actor k =
    let before = stepped actor w [] [] Flush in
    let new = all_durable before in
    let b = leads_durable w before no_changes no_ids (quiet_leads actor w Flush) in
    record {
      counted = counted_same w new no_changes no_ids b (step_sessions actor w [] [] Flush) k.counted;
      most = λ db. most_by db;
      seen = λ db le. seen_of db;
      come = same_come w new no_changes no_ids b k (step_transit actor w [] [] Flush);
    }
  where
    most_by : (db : DbId) → (database_at db (all_durable (stepped actor w [] [] Flush))).durable ≤ (database_at db (all_durable (stepped actor w [] [] Flush))).made
    most_by Home = omega arith
    most_by Away = omega arith

    seen_of : (db : DbId) → (database_at db (all_durable (stepped actor w [] [] Flush))).durable_seen ≡ length (database_at db (all_durable (stepped actor w [] [] Flush))).tables.seen
    seen_of Home = refl
    seen_of Away = refl

-- ---- an offer, an arrival and a confirmation

abbrev pub is_way : Stage → Bool
is_way on_its_way = true
is_way (came n) = false

pub other_stage : {X : Type 0} (s t : Transit) → is_way s.stage ≡ true → is_way t.stage ≡ false → Some s ≡ Some t → X
other_stage s t a b e = let same : s ≡ t = cc in absurd (true≢false (sym a ∙ ap (λ x. is_way x.stage) same ∙ b))

offer_sound : (w : World) (actor : ℕ) (at : SlotRef) (to : List ℕ) → IsSound w → IsSound (sent actor (offers at to) w)
unfolding sent
offer_sound w actor at to k =
    let t : Option Transit = Some (record { slot = at; stage = on_its_way }) in
    let before = stepped actor w [] [] (Offer at to) in
    quiet_sound w (with_transit t before) no_changes no_ids k (leads_with_transit w before no_changes no_ids t (quiet_leads actor w (Offer at to))) (stays_transit w before t (stays_stepped actor w [] [] (Offer at to))) (step_sessions actor w [] [] (Offer at to))
    (λ x n e. other_stage (record { slot = at; stage = on_its_way }) (record { slot = x; stage = came n }) refl refl e)

abbrev stage_number : Stage → ℕ
stage_number on_its_way = 0
stage_number (came n) = n

any_more : (p : SeenRow → Bool) (xs more : List SeenRow) → list_any p xs ≡ true → list_any p (xs ++ more) ≡ true
any_more p [] more h = absurd (false≢true h)
any_more p (x ∷ xs) more h = by (or_cases (p x) (list_any p xs) h) (any_more p xs more)
  where
    by : (p x ≡ true) ⊎ (list_any p xs ≡ true) → (list_any p xs ≡ true → list_any p (xs ++ more) ≡ true) → list_any p (x ∷ (xs ++ more)) ≡ true
    by (inl e) ih = or_left (p x) (list_any p (xs ++ more)) e
    by (inr e) ih = or_right (p x) (list_any p (xs ++ more)) (ih e)

any_on : (p : SeenRow → Bool) (xs ys : List SeenRow) → GrowsTo xs ys → list_any p xs ≡ true → list_any p ys ≡ true
any_on p xs ys g h = ap (list_any p) g.1 ∙ any_more p xs g.0 h

any_last : (p : SeenRow → Bool) (xs : List SeenRow) (y : SeenRow) → p y ≡ true → list_any p (xs ++ y ∷ []) ≡ true
any_last p [] y e = or_left (p y) false e
any_last p (x ∷ xs) y e = or_right (p x) (list_any p (xs ++ y ∷ [])) (any_last p xs y e)

-- the pair of a copy is seen behind it
pair_seen : (there : Tables) (copy : MsgRow) (at : SlotRef) (id moment : ℕ) → has_seen (committed_tables there (changes.Enqueued copy ∷ changes.Seen (record { id = at.id; slot = at.slot; copy = id }) ∷ []) moment) at ≡ true
unfolding after
pair_seen there copy at id moment =
    any_last (is_pair at.id at.slot) there.seen (record { id = at.id; slot = at.slot; copy = id }) (and_from (at.id == at.id) (at.slot == at.slot) (eq-eqb at.id at.id refl) (eq-eqb at.slot at.slot refl))

module _ (w : World) (actor : ℕ) (at : SlotRef) (a : Arriving) where
  abbrev arrived : World
  arrived = stepped actor w (home_of at.db a.origin a.there) (away_of at.db a.origin a.there) (Arrive at a.outcome)

  pub arrival_stays : StaysDurable w (sent actor (arrives at a) w)
  unfolding sent
  arrival_stays =
      stays_transit w (taking_ids (other_db at.db) (ids_copied a.outcome) arrived) (transit_after arrived at a.outcome)
      (stays_taking w arrived (other_db at.db) (ids_copied a.outcome) (stays_stepped actor w (home_of at.db a.origin a.there) (away_of at.db a.origin a.there) (Arrive at a.outcome)))

  -- the tables are those of the step
  arrived_tables : (db : DbId) → (database_at db (sent actor (arrives at a) w)).tables ≡ (database_at db arrived).tables
  unfolding sent
  arrived_tables db = taking_tables (other_db at.db) db
    where
      taking_tables : (x db : DbId) → (database_at db (with_transit (transit_after arrived at a.outcome) (taking_ids x (ids_copied a.outcome) arrived))).tables ≡ (database_at db arrived).tables
      taking_tables Home Home = refl
      taking_tables Home Away = refl
      taking_tables Away Home = refl
      taking_tables Away Away = refl

  -- what arrives so was seen there behind it, or fails
  seen_there : (d : Dispatch) → ArrivesAs (database_at (other_db at.db) w).tables at d (database_at (other_db at.db) w).next w.moment a → IsValidWorld w → (n : ℕ) (x : SlotRef) → transit_after arrived at a.outcome ≡ Some (record { slot = x; stage = came n }) → has_seen (database_at (other_db at.db) arrived).tables at ≡ true
  seen_there d (as_seen seen e) v n x t = still_seen seen
    where
      still_seen : has_seen (database_at (other_db at.db) w).tables at ≡ true → has_seen (database_at (other_db at.db) arrived).tables at ≡ true
      still_seen s = let o = other_db at.db in let b = step_leads actor w (home_of at.db a.origin a.there) (away_of at.db a.origin a.there) (Arrive at a.outcome) in
          any_on (is_pair at.id at.slot) (database_at o w).tables.seen (database_at o arrived).tables.seen (subst (λ y. GrowsTo (database_at o w).tables.seen y.seen) (sym (b.tables o)) (committed_seen (database_at o w).tables w.moment (at_both (home_of at.db a.origin a.there) (away_of at.db a.origin a.there) o))) s
  seen_there d (as_failed cause e) v n x t = absurd (none-some (record { slot = x; stage = came n }) (sym (ap (λ y. transit_after arrived at y.outcome) e) ∙ t))
  seen_there d (as_copied new may e) v n x t =
      let o = other_db at.db in
      let b = step_leads actor w (home_of at.db a.origin a.there) (away_of at.db a.origin a.there) (Arrive at a.outcome) in
      let there = (database_at o w).tables in
      let commits : at_both (home_of at.db a.origin a.there) (away_of at.db a.origin a.there) o ≡ taken_in there at d.parcel (database_at o w).next w.moment = other_of at.db a.origin a.there ∙ ap (λ y. y.there) e in
      ap (λ y. has_seen y at) (b.tables o ∙ ap (λ cs. committed_tables there cs w.moment) (commits ∙ taken_is there o at d.parcel (database_at o w).next w.moment w.sessions (v.databases o) v.last may)) ∙ pair_seen there (copy_of may.table d.parcel (database_at o w).next there.transaction w.moment) at (database_at o w).next w.moment

  came_so : (x : SlotRef) (n : ℕ) → came_to arrived at ≡ Some (record { slot = x; stage = came n }) → (at ≡ x) × (pair_number (database_at (other_db at.db) arrived).tables at ≡ n)
  came_so x n e =
      let here : Transit = record { slot = at; stage = came (pair_number (database_at (other_db at.db) arrived).tables at) } in
      let wanted : Transit = record { slot = x; stage = came n } in
      let same : here ≡ wanted = (let h : Some here ≡ Some wanted = e in cc) in
      (ap (λ t. t.slot) same, ap (λ t. stage_number t.stage) same)

  came_is : (outcome : Arrival) (x : SlotRef) (n : ℕ) → transit_after arrived at outcome ≡ Some (record { slot = x; stage = came n }) → (at ≡ x) × (pair_number (database_at (other_db at.db) arrived).tables at ≡ n)
  came_is (Copied id) x n e = came_so x n e
  came_is Seen x n e = came_so x n e
  came_is (Failed cause disabled) x n e = absurd (none-some (record { slot = x; stage = came n }) e)

  -- what came behind an arrival has its number there
  arrival_come : IsValidWorld w → next_sending w ≡ Some (arrives at a) → (x : SlotRef) (n : ℕ) → (sent actor (arrives at a) w).transit ≡ Some (record { slot = x; stage = came n }) → HasCome (database_at (other_db x.db) (sent actor (arrives at a) w)).tables x n
  arrival_come v e x n t =
      let u = sym (arrival_transit actor w at a) ∙ t in
      let k = arrives_here w v at a e in
      let c = came_is a.outcome x n u in
      let o = other_db at.db in
      let there = (database_at o arrived).tables in
      let it = come_if_seen there at (seen_there k.0.dispatched k.1 v n x u) in
      subst (λ y. HasCome (database_at (other_db y.db) (sent actor (arrives at a) w)).tables y n) c.0
      (subst (λ y. HasCome y at n) (sym (arrived_tables o)) (subst (HasCome there at) c.1 it))

  arrival_sound : IsValidWorld w → IsSound w → next_sending w ≡ Some (arrives at a) → IsSound (sent actor (arrives at a) w)
  arrival_sound v k e = quiet_sound w (sent actor (arrives at a) w) (arrival_changes at a) (ids_at (other_db at.db) (ids_copied a.outcome)) k (arrival_leads actor w at a) arrival_stays (arrival_sessions actor w at a) (arrival_come v e)

confirm_sound : (w : World) (actor : ℕ) (at : SlotRef) (number : ℕ) (cs : List Change) → IsSound w → IsSound (sent actor (confirms at number cs) w)
unfolding sent
confirm_sound w actor at number cs k =
    let before = stepped actor w (at_home at.db cs) (at_away at.db cs) (Confirm at) in
    quiet_sound w (with_transit None before) (only_at at.db cs) no_ids k (confirm_leads actor w at number cs) (stays_transit w before None (stays_stepped actor w (at_home at.db cs) (at_away at.db cs) (Confirm at)))
    (step_sessions actor w (at_home at.db cs) (at_away at.db cs) (Confirm at)) (λ x n e. absurd (none-some (record { slot = x; stage = came n }) e))

timed_sound : (w : World) (actor : ℕ) → IsSound w → IsSound (timed actor w)
timed_sound w actor k =
    quiet_sound w (timed actor w) (due_changes w) no_ids k (timed_leads actor w) (stays_stepped actor w (due_at Home w) (due_at Away w) Timer) (step_sessions actor w (due_at Home w) (due_at Away w) Timer)
    (same_come w (timed actor w) (due_changes w) no_ids (timed_leads actor w) k (step_transit actor w (due_at Home w) (due_at Away w) Timer))

pub step_sound : (w new : World) (actor : ℕ) (step : Step) → IsValidWorld w → IsSound w → MayStep actor step w new → IsSound new
step_sound w new i (Call number reply) v k m = subst IsSound (sym m.calls.result) (call_sound w i m.session m.after reply m.changes k m.calls.ready.there)
step_sound w new i (Park number) v k m =
    let p = m.parks in
    subst IsSound (sym p.result) (session_sound w i i (Park (m.session.next + 1)) m.session (record m.session { parked = Some m.since }) k p.ready.there (λ u told. none_told m.session u p.ready.told told))
step_sound w new i (Told number) v k m =
    let t = m.tells in subst IsSound (sym t.result) (session_sound w i i (Told m.untold.number) m.session (record m.session { untold = None }) k t.there (λ u told. absurd (none-some u told)))
step_sound w new i Flush v k m = subst IsSound (sym m.result) (flush_sound w i k)
step_sound w new i End v k m =
    let s = m.0 in let e = m.1 in subst IsSound (sym e.result) (session_sound w i i End s (record s { pending = []; marks = []; live = false }) k e.ready.there (λ u told. none_told s u e.ready.told told))
step_sound w new i Timer v k m = subst IsSound (sym m.result) (timed_sound w i k)
step_sound w new i (Offer at to) v k m = subst IsSound (sym m.result) (offer_sound w i at to k)
step_sound w new i (Arrive at outcome) v k m = subst IsSound (sym m.sends.result) (arrival_sound w i at m.arriving v k m.sends.next)
step_sound w new i (Confirm at) v k m = subst IsSound (sym m.sends.result) (confirm_sound w i at m.number m.changes k)

-- ---- every legal world

pub read_sound : (w : World) (reading : ℕ) → IsSound w → IsSound (read_clock reading w)
unfolding read_clock
read_sound w reading k = record { counted = λ j s u e f. let c = k.counted j s u e f in record { home = c.home; away = c.away }; most = most_by; seen = seen_of; come = come_by }
  where
    most_by : (db : DbId) → (database_at db (read_clock reading w)).durable ≤ (database_at db (read_clock reading w)).made
    most_by Home = k.most Home
    most_by Away = k.most Away

    seen_of : (db : DbId) → (database_at db (read_clock reading w)).made ≤ (database_at db (read_clock reading w)).durable → (database_at db (read_clock reading w)).durable_seen ≡ length (database_at db (read_clock reading w)).tables.seen
    seen_of Home = k.seen Home
    seen_of Away = k.seen Away

    same_there : (db : DbId) → (database_at db w).tables ≡ (database_at db (read_clock reading w)).tables
    same_there Home = refl
    same_there Away = refl

    come_by : (at : SlotRef) (n : ℕ) → w.transit ≡ Some (record { slot = at; stage = came n }) → HasCome (database_at (other_db at.db) (read_clock reading w)).tables at n
    come_by at n e = subst (λ t. HasCome t at n) (same_there (other_db at.db)) (k.come at n e)

pub opened_sound : (home away : Tables) (scripts : List SessionScript) → IsSound (opened home away scripts)
unfolding opened
opened_sound home away scripts = record {
  counted = λ j s u e told. absurd (none-some u (sym (fresh_told scripts j s e) ∙ told));
  most = most_by;
  seen = seen_of;
  come = λ at n e. absurd (none-some (record { slot = at; stage = came n }) e);
}
  where
    fresh_told : (scripts : List SessionScript) (j : ℕ) (s : Session) → slice_get (map fresh scripts) j ≡ Some s → s.untold ≡ None
    fresh_told [] j s e = absurd (none-some s e)
    fresh_told (x ∷ xs) zero s e = let same : fresh x ≡ s = (let a : Some (fresh x) ≡ Some s = e in cc) in ap (λ y. y.untold) (sym same)
    fresh_told (x ∷ xs) (suc j) s e = fresh_told xs j s e

    most_by : (db : DbId) → (database_at db (opened home away scripts)).durable ≤ (database_at db (opened home away scripts)).made
    most_by Home = omega arith
    most_by Away = omega arith

    seen_of : (db : DbId) → (database_at db (opened home away scripts)).made ≤ (database_at db (opened home away scripts)).durable → (database_at db (opened home away scripts)).durable_seen ≡ length (database_at db (opened home away scripts)).tables.seen
    seen_of Home le = refl
    seen_of Away le = refl

pub sound_from : (start : World) → IsValidWorld start → IsSound start → (readings : List ℕ) (w : World) → IsLegal start readings w → IsValidWorld w × IsSound w
sound_from start v k readings w opens = (v, k)
sound_from start v k readings w (reads before u reading legal) = let x = sound_from start v k before u legal in (reading_keeps_valid u reading x.0, read_sound u reading x.1)
sound_from start v k readings w (steps same u new actor step legal timely may) =
    let x = sound_from start v k same u legal in (step_keeps_valid u new actor step x.0 may, step_sound u new actor step x.0 x.1 may)

-- ---- readings

-- no entry has more readings than were taken
abbrev pub ReadInTime : World → Type 0
ReadInTime w = (e : Entry) → last_entry w.entries ≡ Some e → e.readings ≤ w.readings

pub added_in_time : (actor : ℕ) (step : Step) (w new : World) → Adds actor step w new → ReadInTime new
added_in_time actor step w new a = λ e last.
    let added = entry_of actor w a.home a.away step in
    let is : Some added ≡ Some e = sym (last-snoc w.entries added) ∙ ap last_entry (sym a.entries) ∙ last in
    let same : added ≡ e = cc in
    let r : e.readings ≡ w.readings = ap (λ x. x.readings) (sym same) in
    let n : new.readings ≡ w.readings = a.readings in
    omega arith

pub legal_in_time : (start : World) (readings : List ℕ) (w : World) → start.entries ≡ [] → IsLegal start readings w → ReadInTime w
unfolding read_clock
legal_in_time start rs w none opens = λ e last. absurd (none-some e (sym (ap last_entry none) ∙ last))
legal_in_time start rs w none (reads before v reading l) = λ e last. let h = legal_in_time start before v none l e last in omega (arith, h)
legal_in_time start rs w none (steps before v new actor step l timely m) = added_in_time actor step v new (step_adds actor step v new m)
