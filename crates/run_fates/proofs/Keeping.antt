-- What is durable when a slot is confirmed, and when it has arrived as a copy.
use Rattle.std.proofs.Common.{◌≡◌, ◌≤◌, ◌<◌, ◌+◌, ◌⊎◌, inl, inr, ℕ, zero, suc, List, [], ◌∷◌, ◌++◌, Bool, true, false, refl, sym, ap, ◌∙◌, subst, arith, Option, Some, None, ◌==◌, length, append-nil}
use Rattle.std.specs.Prelude.{slice_get, map, is_some, if◌then◌else◌}
use Rattle.std.specs.List.{list_any}
use Rattle.std.proofs.lemmas.Bool.{leb-true, or_left, or_right, false≢true, true≢false}
use Rattle.std.proofs.lemmas.Option.{none-some}
use Rattle.std.proofs.lemmas.List.{map-append}
use Rattle.aq_base.specs.declared.DbId.{DbId}
use Rattle.aq_base.specs.declared.DbId.TheVariants.{Home, Away}
use Rattle.queue_rows.specs.Rows.{find_message}
use Rattle.queue_rows.specs.Propagating.{has_seen, is_pair}
use Rattle.queue_rows.specs.World.{committed_tables, commits_in, uncounted, other_db, World, Transit, on_its_way, database_at, opened, read_clock}
use Rattle.queue_rows.specs.declared.tables.Tables.{Tables}
use Rattle.queue_rows.specs.declared.rows.SeenRow.{SeenRow}
use Rattle.queue_rows.specs.declared.history.Entry.{Entry}
use Rattle.queue_rows.specs.declared.history.History.{History}
use Rattle.queue_rows.specs.declared.history.SlotRef.{SlotRef}
use Rattle.queue_rows.specs.declared.history.SessionScript.{SessionScript}
use Rattle.queue_rows.specs.declared.history.Arrival.{Arrival}
use Rattle.queue_rows.specs.declared.history.Arrival.TheVariants.{Copied, Seen, Failed}
use Rattle.queue_rows.specs.declared.history.Step.{Step}
use Rattle.queue_rows.specs.declared.history.Step.TheVariants.{Call, Park, Timer, Offer, Arrive, Confirm, Told, Flush, End}
use Rattle.history_laws.specs.Made.{commits_of, after_commits}
use Rattle.history_laws.specs.WorldLaws.{MayBegin}
use Rattle.history_laws.specs.LegalFates.{opening_at}
use Rattle.history_laws.specs.Arrivals.{is_same_slot, copy_by, is_copied}
use Rattle.history_laws.specs.Durability.{is_flush, until_flush}
use Rattle.history_laws.proofs.Arriving.{left_at}
use Rattle.history_laws.proofs.Commits.{last_or_before, no_items, empty_if}
use Rattle.history_laws.proofs.Lasting.{opening_is, commits_uncounted}
use Rattle.history_laws.proofs.Telling.{until-flush, until-other, until_uncounted}
use Rattle.queue_rows.specs.Legal.{MayStep, IsLegal, opens, reads, steps, IsLegalHistory}
use Rattle.run_laws.specs.ValidRun.{IsValidWorld}
use Rattle.run_laws.proofs.Sendings.{arrives_so, confirms_so}
use Rattle.run_laws.proofs.Worlds.{opens_valid, step_keeps_valid}
use Rattle.run_turns.proofs.Sounding.{GrowsTo, grows_on, committed_seen, HasCome, StaysDurable, IsSound, opened_sound, sound_from}
use Rattle.run_fates.specs.DurableRun.{durable_tables_at, ConfirmedIsSeen, CopiedIsDurable}
use Rattle.run_fates.proofs.Arrivals.{left_is, same_slot_is}
use Rattle.run_fates.proofs.Leading.{Led, step_led, AllDurable, step_stays, step_flushes, Carries, keeps, starts, leaves, step_carries}
use Rattle.history_laws.proofs.Making.{opened_made}
use Rattle.run_fates.proofs.Making.{AreMade, made_from}

-- ---- lists

grows_self : (xs : List SeenRow) → GrowsTo xs xs
grows_self xs = ([], sym (append-nil xs))

-- an item within the first part is there
in_first : (xs more : List SeenRow) (i : ℕ) (r : SeenRow) → i < length xs → slice_get (xs ++ more) i ≡ Some r → slice_get xs i ≡ Some r
in_first [] more i r lt e = absurd (let h = lt in omega (arith, h))
in_first (x ∷ xs) more zero r lt e = e
in_first (x ∷ xs) more (suc i) r lt e = in_first xs more i r (let h = lt in omega (arith, h)) e

any_at : (p : SeenRow → Bool) (xs : List SeenRow) (i : ℕ) (r : SeenRow) → slice_get xs i ≡ Some r → p r ≡ true → list_any p xs ≡ true
any_at p [] i r e h = absurd (none-some r e)
any_at p (x ∷ xs) zero r e h = let same : x ≡ r = (let a : Some x ≡ Some r = e in cc) in or_left (p x) (list_any p xs) (ap p same ∙ h)
any_at p (x ∷ xs) (suc i) r e h = or_right (p x) (list_any p xs) (any_at p xs i r e h)

-- what came with a number that is durable was seen in what is durable
seen_within : (t u : Tables) (at : SlotRef) (number : ℕ) → GrowsTo t.seen u.seen → HasCome u at number → number ≤ length t.seen → has_seen t at ≡ true
seen_within t u at number g k le =
    let is = k.number_is in
    any_at (is_pair at.id at.slot) t.seen k.index k.row (in_first t.seen g.0 k.index k.row (omega (arith, le, is)) (ap (λ xs. slice_get xs k.index) (sym g.1) ∙ k.there_is)) k.pair

-- the slot of a copy is that of its step
copied_slot : (x at : SlotRef) (outcome : Arrival) → is_some (copy_by x (Arrive at outcome)) ≡ true → x ≡ at
copied_slot x at (Copied id) h = by (is_same_slot x at) refl h
  where
    by : (b : Bool) → is_same_slot x at ≡ b → is_some (if b then Some id else None) ≡ true → x ≡ at
    by true f k = same_slot_is x at f
    by false f k = absurd (false≢true k)
copied_slot x at Seen h = absurd (false≢true h)
copied_slot x at (Failed cause disabled) h = absurd (false≢true h)

-- ---- what is durable of a database

same_way : (x at : SlotRef) (t : Option Transit) → t ≡ Some (record { slot = x; stage = on_its_way }) → t ≡ Some (record { slot = at; stage = on_its_way }) → x ≡ at
same_way x at t d e =
    let one : Transit = record { slot = x; stage = on_its_way } in
    let other : Transit = record { slot = at; stage = on_its_way } in
    let both : Some one ≡ Some other = sym d ∙ e in
    let same : one ≡ other = cc in
    ap (λ z. z.slot) same

module _ (opening : DbId → Tables) where
  abbrev durable_at : DbId → List Entry → Tables
  durable_at db entries = left_at opening db (until_flush entries)

  -- The pairs that count as durable are those of what is durable; these begin those that are seen; and where all commits are durable, so
  -- are the tables.
  record IsLasting (db : DbId) (w : World) : Type 0 where
    pub seen_is : (database_at db w).durable_seen ≡ length (durable_at db w.entries).seen
    pub grown : GrowsTo (durable_at db w.entries).seen (database_at db w).tables.seen
    pub same_is : (database_at db w).made ≤ (database_at db w).durable → durable_at db w.entries ≡ (database_at db w).tables

  still_lasting : (db : DbId) (actor : ℕ) (step : Step) (w new : World) → Led actor step w new → (is_flush step ≡ true → AllDurable db new) → (is_flush step ≡ false → StaysDurable w new)
      → (database_at db w).durable ≤ (database_at db w).made → (database_at db new).tables ≡ left_at opening db new.entries → IsLasting db w → IsLasting db new
  still_lasting db actor step w new l flushes stays most left k = by (is_flush step) refl
    where
      flushed : is_flush step ≡ true → durable_at db new.entries ≡ (database_at db new).tables
      flushed f = ap (λ es. left_at opening db (until_flush es)) l.leads.entries ∙ ap (left_at opening db) (until-flush w.entries l.leads.entry (ap is_flush l.step_is ∙ f)) ∙ ap (left_at opening db) (sym l.leads.entries) ∙ sym left

      rests : is_flush step ≡ false → durable_at db new.entries ≡ durable_at db w.entries
      rests f = ap (λ es. left_at opening db (until_flush es)) l.leads.entries ∙ ap (left_at opening db) (until-other w.entries l.leads.entry (ap is_flush l.step_is ∙ f))

      more : GrowsTo (database_at db w).tables.seen (database_at db new).tables.seen
      more = subst (λ t. GrowsTo (database_at db w).tables.seen t.seen) (sym (l.leads.tables db)) (committed_seen (database_at db w).tables w.moment (l.changes db))

      same_if : (b : Bool) → StaysDurable w new → (length (l.changes db) == 0) ≡ b → (database_at db new).made ≤ (database_at db new).durable → durable_at db w.entries ≡ (database_at db new).tables
      same_if true s e le =
          let none : l.changes db ≡ [] = empty_if (l.changes db) e in
          let t : (database_at db new).tables ≡ (database_at db w).tables = l.leads.tables db ∙ ap (λ ds. committed_tables (database_at db w).tables ds w.moment) none in
          let count : (database_at db new).made ≡ (database_at db w).made + 0 = l.leads.count db ∙ ap (λ ds. (database_at db w).made + commits_in ds) none in
          let d = s.durable db in
          k.same_is (omega (arith, le, count, d)) ∙ sym t
      same_if false s e le =
          let one : commits_in (l.changes db) ≡ 1 = ap (λ x. if x then 0 else 1) e in
          absurd (let count = l.leads.count db in let d = s.durable db in omega (arith, le, one, count, d, most))

      by : (b : Bool) → is_flush step ≡ b → IsLasting db new
      by true f =
          let d = flushed f in
          record {
            seen_is = (flushes f).seen ∙ ap (λ t. length t.seen) (sym d);
            grown = subst (λ t. GrowsTo t.seen (database_at db new).tables.seen) (sym d) (grows_self (database_at db new).tables.seen);
            same_is = λ le. d;
          }
      by false f =
          let d = rests f in
          let s = stays f in
          record {
            seen_is = s.seen db ∙ k.seen_is ∙ ap (λ t. length t.seen) (sym d);
            grown = subst (λ t. GrowsTo t.seen (database_at db new).tables.seen) (sym d) (grows_on (durable_at db w.entries).seen (database_at db w).tables.seen (database_at db new).tables.seen k.grown more);
            same_is = λ le. d ∙ same_if (length (l.changes db) == 0) s refl le;
          }

  -- ---- what is durable of a slot

  -- the message of a slot on its way stands in what is durable
  abbrev IsOnWay : World → Type 0
  IsOnWay w = (at : SlotRef) → w.transit ≡ Some (record { slot = at; stage = on_its_way }) → is_some (find_message (durable_at at.db w.entries) at.id) ≡ true

  abbrev pub AreConfirmed : List Entry → Type 0
  AreConfirmed entries = (at : SlotRef) (front : List Entry) (e : Entry) (rest : List Entry) → entries ≡ front ++ e ∷ rest → e.step ≡ Confirm at → has_seen (durable_at (other_db at.db) front) at ≡ true

  abbrev pub AreCopied : List Entry → Type 0
  AreCopied entries = (at : SlotRef) (front : List Entry) (e : Entry) (rest : List Entry) → entries ≡ front ++ e ∷ rest → is_copied at e ≡ true → is_some (find_message (durable_at at.db front) at.id) ≡ true

  record IsKept (w : World) : Type 0 where
    pub lasting : (db : DbId) → IsLasting db w
    pub on_way : IsOnWay w
    pub confirmed : AreConfirmed w.entries
    pub copied : AreCopied w.entries

  -- an entry more
  more_confirmed : (entries : List Entry) (x : Entry) → ((at : SlotRef) → x.step ≡ Confirm at → has_seen (durable_at (other_db at.db) entries) at ≡ true) → AreConfirmed entries → AreConfirmed (entries ++ x ∷ [])
  more_confirmed entries x now k at front e rest q c = by (last_or_before entries x front e rest q)
    where
      by : ((front ≡ entries) × (e ≡ x)) ⊎ ((later : List Entry) × (entries ≡ front ++ e ∷ later)) → has_seen (durable_at (other_db at.db) front) at ≡ true
      by (inl p) = ap (λ es. has_seen (durable_at (other_db at.db) es) at) p.0 ∙ now at (ap (λ y. y.step) (sym p.1) ∙ c)
      by (inr p) = k at front e p.0 p.1 c

  more_copied : (entries : List Entry) (x : Entry) → ((at : SlotRef) → is_copied at x ≡ true → is_some (find_message (durable_at at.db entries) at.id) ≡ true) → AreCopied entries → AreCopied (entries ++ x ∷ [])
  more_copied entries x now k at front e rest q c = by (last_or_before entries x front e rest q)
    where
      by : ((front ≡ entries) × (e ≡ x)) ⊎ ((later : List Entry) × (entries ≡ front ++ e ∷ later)) → is_some (find_message (durable_at at.db front) at.id) ≡ true
      by (inl p) = ap (λ es. is_some (find_message (durable_at at.db es) at.id)) p.0 ∙ now at (ap (is_copied at) (sym p.1) ∙ c)
      by (inr p) = k at front e p.0 p.1 c

  -- ---- steps

  -- where all commits are durable, so is the message of a slot that is sent
  sure_way : (w : World) → IsValidWorld w → (at : SlotRef) → IsLasting at.db w → (database_at at.db w).made ≤ (database_at at.db w).durable → w.transit ≡ Some (record { slot = at; stage = on_its_way }) → is_some (find_message (durable_at at.db w.entries) at.id) ≡ true
  sure_way w v at k le e = ap (λ t. is_some (find_message t at.id)) (k.same_is le) ∙ ap is_some (v.sent (record { slot = at; stage = on_its_way }) e).message_is

  step_way : (w new : World) (actor : ℕ) (step : Step) → IsValidWorld new → ((db : DbId) → IsLasting db new) → MayStep actor step w new → IsOnWay w → IsOnWay new
  step_way w new actor step v lasting m k at e = by (is_flush step) refl
    where
      l : Led actor step w new
      l = step_led w new actor step m

      carried : is_flush step ≡ false → Carries w new → is_some (find_message (durable_at at.db new.entries) at.id) ≡ true
      carried f (keeps same) =
          ap (λ es. is_some (find_message (left_at opening at.db (until_flush es)) at.id)) l.leads.entries ∙ ap (λ es. is_some (find_message (left_at opening at.db es) at.id)) (until-other w.entries l.leads.entry (ap is_flush l.step_is ∙ f)) ∙ k at (sym same ∙ e)
      carried f (starts x is sure) = sure_way new v at (lasting at.db) (subst (λ y. (database_at y.db new).made ≤ (database_at y.db new).durable) (same_way x at new.transit is e) sure) e
      carried f (leaves none) = absurd (none at e)

      by : (b : Bool) → is_flush step ≡ b → is_some (find_message (durable_at at.db new.entries) at.id) ≡ true
      by true f = sure_way new v at (lasting at.db) (let d = (step_flushes w new actor step m f at.db).made in omega (arith, d)) e
      by false f = carried f (step_carries w new actor step m)

  -- what is confirmed now was seen in what is durable
  confirmed_now : (w new : World) (actor : ℕ) (at : SlotRef) → IsSound w → IsLasting (other_db at.db) w → MayStep actor (Confirm at) w new → has_seen (durable_at (other_db at.db) w.entries) at ≡ true
  confirmed_now w new actor at s k m =
      let o = other_db at.db in
      let x = confirms_so w at m.number m.changes m.sends.next in
      let le = leb-true m.number (database_at o w).durable_seen m.sends.durable in
      let is = k.seen_is in
      seen_within (durable_at o w.entries) (database_at o w).tables at m.number k.grown (s.come at m.number x.sent) (omega (arith, le, is))

  -- what arrives now as a copy stands in what is durable
  copied_now : (w new : World) (actor : ℕ) (step : Step) → MayStep actor step w new → IsOnWay w → (at : SlotRef) → is_some (copy_by at step) ≡ true → is_some (find_message (durable_at at.db w.entries) at.id) ≡ true
  copied_now w new i (Arrive x outcome) m k at h =
      let a = arrives_so w x m.arriving m.sends.next in
      subst (λ y. is_some (find_message (durable_at y.db w.entries) y.id) ≡ true) (sym (copied_slot at x outcome h)) (k x a.sent)
  copied_now w new i (Call number reply) m k at h = absurd (false≢true h)
  copied_now w new i (Park number) m k at h = absurd (false≢true h)
  copied_now w new i (Told number) m k at h = absurd (false≢true h)
  copied_now w new i Flush m k at h = absurd (false≢true h)
  copied_now w new i End m k at h = absurd (false≢true h)
  copied_now w new i Timer m k at h = absurd (false≢true h)
  copied_now w new i (Offer x to) m k at h = absurd (false≢true h)
  copied_now w new i (Confirm x) m k at h = absurd (false≢true h)

  step_kept : (w new : World) (actor : ℕ) (step : Step) → IsValidWorld w → IsSound w → AreMade opening new → MayStep actor step w new → IsKept w → IsKept new
  step_kept w new actor step v s made m k = record {
    lasting = lasts;
    on_way = step_way w new actor step (step_keeps_valid w new actor step v m) lasts m k.on_way;
    confirmed =
        subst AreConfirmed (sym l.leads.entries)
        (more_confirmed w.entries l.leads.entry (λ at e. confirmed_now w new actor at s (k.lasting (other_db at.db)) (subst (λ x. MayStep actor x w new) (sym l.step_is ∙ e) m)) k.confirmed);
    copied =
        subst AreCopied (sym l.leads.entries)
        (more_copied w.entries l.leads.entry (λ at h. copied_now w new actor step m k.on_way at (ap (λ x. is_some (copy_by at x)) (sym l.step_is) ∙ h)) k.copied);
  }
    where
      l : Led actor step w new
      l = step_led w new actor step m

      lasts : (db : DbId) → IsLasting db new
      lasts db = still_lasting db actor step w new l (λ f. step_flushes w new actor step m f db) (step_stays w new actor step m) (s.most db) (left_is opening new made db) (k.lasting db)

  -- ---- every legal world

  read_lasting : (w : World) (reading : ℕ) (db : DbId) → IsLasting db w → IsLasting db (read_clock reading w)
  unfolding read_clock
  read_lasting w reading Home k = record { seen_is = k.seen_is; grown = k.grown; same_is = k.same_is }
  read_lasting w reading Away k = record { seen_is = k.seen_is; grown = k.grown; same_is = k.same_is }

  read_kept : (w : World) (reading : ℕ) → IsKept w → IsKept (read_clock reading w)
  unfolding read_clock
  read_kept w reading k = record { lasting = λ db. read_lasting w reading db (k.lasting db); on_way = k.on_way; confirmed = k.confirmed; copied = k.copied }

  legal_kept : (start : World) → IsValidWorld start → IsSound start → AreMade opening start → IsKept start → (readings : List ℕ) (w : World) → IsLegal start readings w → IsKept w
  legal_kept start v s a k readings w opens = k
  legal_kept start v s a k readings w (reads before u reading legal) = read_kept u reading (legal_kept start v s a k before u legal)
  legal_kept start v s a k readings w (steps same u new actor step legal timely may) =
      let x = sound_from start v s same u legal in
      let made = (made_from opening start v a same new (steps same u new actor step legal timely may)).1 in
      step_kept u new actor step x.0 x.1 made may (legal_kept start v s a k same u legal)

-- ---- the beginning

abbrev opening_by : Tables → Tables → DbId → Tables
opening_by home away db = opening_at db home away

opened_lasting : (home away : Tables) (scripts : List SessionScript) (db : DbId) → IsLasting (opening_by home away) db (opened home away scripts)
unfolding opened after_commits
opened_lasting home away scripts Home = record { seen_is = refl; grown = grows_self home.seen; same_is = λ le. refl }
opened_lasting home away scripts Away = record { seen_is = refl; grown = grows_self away.seen; same_is = λ le. refl }

opened_kept : (home away : Tables) (scripts : List SessionScript) → IsKept (opening_by home away) (opened home away scripts)
unfolding opened
opened_kept home away scripts = record {
  lasting = opened_lasting home away scripts;
  on_way = λ at e. absurd (none-some (record { slot = at; stage = on_its_way }) e);
  confirmed = λ at front e rest q c. absurd (no_items front e rest q);
  copied = λ at front e rest q c. absurd (no_items front e rest q);
}

-- ---- histories

module _ (home away : Tables) (scripts : List SessionScript) (h : History) (b : MayBegin home away scripts) (legal : IsLegalHistory home away scripts h) where
  end_kept : IsKept (opening_by home away) legal.1.end
  end_kept =
      let start = opened home away scripts in
      legal_kept (opening_by home away) start (opens_valid home away scripts b) (opened_sound home away scripts) (opened_made home away scripts) (opened_kept home away scripts) legal.0 legal.1.end legal.1.legal

  durable_are : (db : DbId) (front : List Entry) → left_at (opening_by home away) db (until_flush (map uncounted front)) ≡ durable_tables_at db h front
  durable_are db front =
      ap (left_at (opening_by home away) db) (until_uncounted front) ∙ ap (after_commits (opening_at db home away)) (commits_uncounted db (until_flush front)) ∙ ap (λ t. after_commits t (commits_of db (until_flush front))) (sym (opening_is home away scripts h legal.1.begins db))

  split : (front : List Entry) (e : Entry) (rest : List Entry) → h.entries ≡ front ++ e ∷ rest → legal.1.end.entries ≡ map uncounted front ++ uncounted e ∷ map uncounted rest
  split front e rest q = sym legal.1.entries_are ∙ ap (map uncounted) q ∙ map-append uncounted front (e ∷ rest)

  confirms_seen : ConfirmedIsSeen h
  confirms_seen at front e rest q c =
      ap (λ t. has_seen t at) (sym (durable_are (other_db at.db) front)) ∙ end_kept.confirmed at (map uncounted front) (uncounted e) (map uncounted rest) (split front e rest q) c

  copies_durable : CopiedIsDurable h
  copies_durable at front e rest q c =
      ap (λ t. is_some (find_message t at.id)) (sym (durable_are at.db front)) ∙ end_kept.copied at (map uncounted front) (uncounted e) (map uncounted rest) (split front e rest q) c

pub legal_confirms_seen : (home away : Tables) (scripts : List SessionScript) (h : History) → MayBegin home away scripts → IsLegalHistory home away scripts h → ConfirmedIsSeen h
legal_confirms_seen home away scripts h b legal = confirms_seen home away scripts h b legal

pub legal_copies_durable : (home away : Tables) (scripts : List SessionScript) (h : History) → MayBegin home away scripts → IsLegalHistory home away scripts h → CopiedIsDurable h
legal_copies_durable home away scripts h b legal = copies_durable home away scripts h b legal
