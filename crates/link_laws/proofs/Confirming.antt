-- What an origin commits when a receipt comes: the slot is done, and nothing else is.
use Rattle.std.proofs.Common.{◌≡◌, ◌≤◌, ℕ, List, [], ◌∷◌, Bool, true, false, refl, sym, ap, ◌∙◌, arith, Option, Some, None, ◌==◌, ◌++◌, length, suc}
use Rattle.std.specs.Prelude.{find, flat_map, option_and_then, Contains, if◌then◌else◌}
use Rattle.std.specs.List.{list_any, list_all}
use Rattle.std.specs.Option.{option_map_or}
use Rattle.std.proofs.lemmas.Bool.{ne_eqb, or_parts, true≢false}
use Rattle.std.proofs.lemmas.List.Folds.{list_any_at}
use Rattle.std.proofs.lemmas.Option.{none-some}
use Rattle.aq_base.specs.declared.limits.TheConstants.{MOMENT_LIMIT}
use Rattle.queue_rows.specs.Rows.{find_message, slot_of, table_of}
use Rattle.queue_rows.specs.Tables.{after}
use Rattle.queue_rows.specs.Settling.{is_ready, is_open, settling, names_of}
use Rattle.queue_rows.specs.World.{committed_tables}
use Rattle.queue_rows.specs.Propagating.{Dispatch, dispatch_by, dispatch_of_slot, dispatch_of, dispatch, is_schedule_of, recovering, confirming}
use Rattle.queue_rows.specs.Valid.{is_valid, is_valid_schedule}
use Rattle.queue_rows.specs.declared.tables.Tables.{Tables}
use Rattle.queue_rows.specs.declared.rows.MsgRow.{MsgRow}
use Rattle.queue_rows.specs.declared.rows.SlotRow.{SlotRow}
use Rattle.queue_rows.specs.declared.rows.SlotState.{SlotState}
use Rattle.queue_rows.specs.declared.rows.SlotState.TheVariants as states
use Rattle.queue_rows.specs.declared.rows.TableRow.{TableRow}
use Rattle.queue_rows.specs.declared.rows.ScheduleRow.{ScheduleRow}
use Rattle.queue_rows.specs.declared.change.Change.{Change}
use Rattle.queue_rows.specs.declared.change.Change.TheVariants as changes
use Rattle.queue_rows.specs.declared.change.Commit.{Commit}
use Rattle.queue_rows.specs.declared.history.SlotRef.{SlotRef}
use Rattle.valid_laws.specs.Openness.{is_open_slot, is_open_at}
use Rattle.valid_laws.specs.Touching.{is_put_in}
use Rattle.valid_laws.proofs.Arriving.{confirmation_fits}
use Rattle.valid_laws.proofs.Parts.{parts_of, all_found}
use Rattle.valid_laws.proofs.Saying.{confirm_none}
use Rattle.history_laws.proofs.Committing.{confirmation_is_proper}
use Rattle.history_laws.proofs.Plain.{is_plain, settled_plain, committed_latest}
use Rattle.link_laws.specs.Node.{is_ready_at}
use Rattle.link_laws.specs.Laws.{is_done_of}
use Rattle.link_laws.proofs.Tracing.{PutsLocal, AllPutLocal, commit_traced}
use Rattle.link_laws.proofs.Commits.{IsRightCommit}

-- ---- the slot is open, and the schedule a valid one

state_open : (s : SlotState) → is_ready s ≡ true → is_open s ≡ true
state_open states.Ready h = refl
state_open states.Waiting h = refl
state_open states.Processed h = h
state_open states.Expired h = h
state_open states.Dropped h = h

slot_open : (o : Option SlotRow) → option_map_or (λ s. is_ready s.state) o false ≡ true → option_map_or (λ s. is_open s.state) o false ≡ true
slot_open None h = h
slot_open (Some s) h = state_open s.state h

message_open : (slot : ℕ) (o : Option MsgRow) → option_map_or (λ s. is_ready s.state) (option_and_then (λ m. slot_of m slot) o) false ≡ true → option_map_or (is_open_slot slot) o false ≡ true
message_open slot None h = h
message_open slot (Some m) h = slot_open (slot_of m slot) h

ready_is_open : (t : Tables) (at : SlotRef) → is_ready_at t at ≡ true → is_open_at t at.id at.slot ≡ true
ready_is_open t at h = message_open at.slot (find_message t at.id) h

schedule_of : (m : MsgRow) (s : SlotRow) (d : Dispatch) (table : Option TableRow) (schedule : Option ScheduleRow) → dispatch_by m s table schedule ≡ Some d → schedule ≡ Some d.schedule
schedule_of m s d None schedule e = absurd (none-some d e)
schedule_of m s d (Some table) None e = absurd (none-some d e)
schedule_of m s d (Some table) (Some x) e =
    let same : record { parcel = record { to = x.to; name = s.name; fields = table.fields; facts = m.facts; expires = s.expires }; schedule = x } ≡ d = (let a = e in cc) in
    ap (λ y. Some y.schedule) same

module _ (t : Tables) (v : is_valid t ≡ true) (d : Dispatch) where
  slot_scheduled : (m : MsgRow) (o : Option SlotRow) → option_and_then (dispatch_of_slot t m) o ≡ Some d → is_valid_schedule t d.schedule ≡ true
  slot_scheduled m None e = absurd (none-some d e)
  slot_scheduled m (Some s) e =
      all_found (is_valid_schedule t) (is_schedule_of m.queue s) t.schedules d.schedule (parts_of t v).schedules (schedule_of m s d (table_of t m.queue) (find (is_schedule_of m.queue s) t.schedules) e)

  message_scheduled : (slot : ℕ) (o : Option MsgRow) → option_and_then (dispatch_of t slot) o ≡ Some d → is_valid_schedule t d.schedule ≡ true
  message_scheduled slot None e = absurd (none-some d e)
  message_scheduled slot (Some m) e = slot_scheduled m (slot_of m slot) e

-- ---- the commit

abbrev says_seen : Change → Bool
says_seen (changes.Seen row) = true
says_seen _ = false

-- what is in a list passes no test that none of it passes
none_passes : {X : Type 0} (q : X → Bool) (xs : List X) (x : X) → list_any q xs ≡ false → Contains xs x → q x ≡ true → ⊥
none_passes q xs x h c e = true≢false (sym (list_any_at q xs c.0 x c.1 (ap q c.2 ∙ e)) ∙ h)

cons_some : (x : Change) (xs : List Change) → (length (x ∷ xs) == 0) ≡ false
cons_some x xs = ne_eqb (length (x ∷ xs)) 0 (λ e. absurd (let no : suc (length xs) ≡ 0 = e in omega (arith, no)))

module _ (opening origin t : Tables) (at : SlotRef) (d : Dispatch) (moment : ℕ) (v : is_valid t ≡ true) (le : t.latest ≤ moment) (top : moment ≤ MOMENT_LIMIT) (ready : is_ready_at t at ≡ true) (e : dispatch t at ≡ Some d) where
  abbrev cs : List Change
  cs = confirming t at d.schedule moment

  abbrev confirmed : Commit
  confirmed = record { moment = moment; changes = confirming t at d.schedule moment }

  open_now : is_open_at t at.id at.slot ≡ true
  open_now = ready_is_open t at ready

  scheduled : is_valid_schedule t d.schedule ≡ true
  scheduled = message_scheduled t v d at.slot (find_message t at.id) e

  puts_local : (slot id : ℕ) (xs : List Change) → list_any is_put_in xs ≡ false → AllPutLocal opening slot id xs
  puts_local slot id [] h = tt
  puts_local slot id (x ∷ xs) h = let p = or_parts (is_put_in x) (list_any is_put_in xs) h in (one x p.0, puts_local slot id xs p.1)
    where
      one : (c : Change) → is_put_in c ≡ false → PutsLocal opening slot id c
      one (changes.Enqueued row) k = absurd (true≢false k)
      one (changes.PutTable row) k = tt
      one _ k = tt

  pub confirm_right : IsRightCommit opening origin t confirmed
  confirm_right = record {
    fit = confirmation_fits t at d.schedule moment v le top open_now scheduled;
    keeps = λ id slot h.
        commit_traced opening slot id t confirmed v (confirmation_is_proper t at d.schedule moment v le top open_now scheduled).proper
        (puts_local slot id cs (confirm_none t at d.schedule moment is_put_in refl (λ r. refl) (λ n queue a. refl) (λ n. refl))) h;
    copies = λ other copy c.
        absurd (none_passes says_seen cs (changes.Seen (record { id = other.id; slot = other.slot; copy = copy })) (confirm_none t at d.schedule moment says_seen refl (λ r. refl) (λ n queue a. refl) (λ n. refl)) c refl);
    seen = λ row c. absurd (none_passes is_put_in cs (changes.Enqueued row) (confirm_none t at d.schedule moment is_put_in refl (λ r. refl) (λ n queue a. refl) (λ n. refl)) c refl);
  }

  recovering_plain : (s : ScheduleRow) (b : Bool) → list_all is_plain (changes.Done at.id at.slot moment ∷ (if b then [] else changes.PutSchedule (record s { failures = 0 }) ∷ [])) ≡ true
  recovering_plain s true = refl
  recovering_plain s false = refl

  plain : list_all is_plain cs ≡ true
  unfolding confirming
  plain = settled_plain t (changes.Done at.id at.slot moment ∷ recovering d.schedule) (recovering_plain d.schedule (d.schedule.failures == 0))

  some : (length cs == 0) ≡ false
  unfolding confirming
  some = let xs = changes.Done at.id at.slot moment ∷ recovering d.schedule in cons_some (changes.Done at.id at.slot moment) (recovering d.schedule ++ flat_map (settling t xs) (names_of xs))

  pub confirm_some : (length (confirming t at d.schedule moment) == 0) ≡ false
  confirm_some = some

  pub confirm_latest : (after t confirmed).latest ≤ moment
  confirm_latest =
      let le = committed_latest t moment cs plain le in
      let same : (committed_tables t cs moment).latest ≡ (after t confirmed).latest = ap (λ b. (if b then t else after t confirmed).latest) some in
      omega (arith, le, same)

  -- only that slot is done
  pub confirm_does : (other : SlotRef) → list_any (is_done_of other) (confirming t at d.schedule moment) ≡ true → is_done_of other (changes.Done at.id at.slot moment) ≡ true
  confirm_does other h = by (is_done_of other (changes.Done at.id at.slot moment)) refl
    where
      by : (b : Bool) → is_done_of other (changes.Done at.id at.slot moment) ≡ b → is_done_of other (changes.Done at.id at.slot moment) ≡ true
      by true f = f
      by false f = absurd (true≢false (sym h ∙ confirm_none t at d.schedule moment (is_done_of other) f (λ r. refl) (λ n queue a. refl) (λ n. refl)))
