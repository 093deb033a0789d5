-- When the serial schedule has come to its end, all is done.
use Rattle.std.proofs.Common.{◌≡◌, ◌≢◌, ◌⊎◌, inl, inr, ℕ, zero, suc, ◌+◌, Bool, true, false, not, List, [], ◌∷◌, ◌++◌, Option, Some, None, refl, sym, ap, subst, ◌∙◌, length, map}
use Rattle.std.specs.Prelude.{slice_get, slice_set, is_none, ◌&&◌, if◌then◌else◌}
use Rattle.std.specs.List.{list_any}
use Rattle.std.proofs.lemmas.Option.{none-some, slice_get_within}
use Rattle.aq_base.specs.declared.DbId.TheVariants.{Home, Away}
use Rattle.queue_rows.specs.Session.{Session, standing_after}
use Rattle.queue_rows.specs.Turns.{is_live, step_readings, due_at, is_due, is_still, is_durable, any_live, next_reading, DrainsIn}
use Rattle.queue_rows.specs.World.{uncounted, World, opened, read_clock, entry_of}
use Rattle.queue_rows.specs.declared.tables.Tables.{Tables}
use Rattle.queue_rows.specs.declared.history.Entry.{Entry}
use Rattle.queue_rows.specs.declared.history.History.{History}
use Rattle.queue_rows.specs.declared.history.SessionScript.{SessionScript}
use Rattle.queue_rows.specs.declared.history.Step.{Step}
use Rattle.queue_rows.specs.declared.history.Step.TheVariants.{Call, Park, Timer, Offer, Arrive, Confirm, Told, Flush, End}
use Rattle.queue_rows.proofs.Sessions.{get_set-cases}
use Rattle.run_laws.specs.WorldLaws.{MayBegin}
use Rattle.queue_rows.specs.Sending.{offers, arrives, confirms, next_sending}
use Rattle.queue_rows.specs.Serial.{rounds, at_closing, next_closing_turn, IsSerial}
use Rattle.queue_rows.specs.Legal.{MayStep, IsLegal, opens, reads, steps}
use Rattle.run_laws.proofs.Worlds.{opens_valid}
use Rattle.run_turns.specs.Laws.{HasEnd, EndsAll, IsAllDone}
use Rattle.run_turns.proofs.Adding.{Adds, step_adds, sessions-stepped, sessions-sent}
use Rattle.run_turns.proofs.Calling.{entries-opened, session-opened, session_of}
use Rattle.run_turns.proofs.Ended.{alive, all_dead}
use Rattle.run_turns.proofs.OnClock.{IsOnClock, rounds_on, closing_on, closing_durable, closing_still}
use Rattle.run_turns.proofs.Ordering.{sessions-called}
use Rattle.run_turns.proofs.Serially.{opened_on}
use Rattle.run_turns.proofs.Sounding.{opened_sound}
use Rattle.run_turns.proofs.Standing.{kept_from}
use Rattle.run_turns.proofs.Turned.{sessions-closing}

-- ---- sessions that go on no more

-- it holds of the number of each of them
abbrev HoldsOfDead : (ℕ → Type 0) → World → Type 0
HoldsOfDead P w = (j : ℕ) (s : Session) → slice_get w.sessions j ≡ Some s → s.live ≡ false → P j

dead_one : (P : ℕ → Type 0) (w : World) (i j : ℕ) (x y : Session) → HoldsOfDead P w → (x.live ≡ false → P i) → ((j ≡ i) × (Some x ≡ Some y)) ⊎ ((j ≢ i) × (slice_get w.sessions j ≡ Some y)) → y.live ≡ false → P j
dead_one P w i j x y h k (inl (p, q)) d = let same : x ≡ y = cc in subst P (sym p) (k (ap (λ s. s.live) same ∙ d))
dead_one P w i j x y h k (inr (p, q)) d = h j y q d

dead_set : (P : ℕ → Type 0) (w new : World) (i : ℕ) (s x : Session) → slice_get w.sessions i ≡ Some s → new.sessions ≡ slice_set w.sessions i x → (x.live ≡ false → P i) → HoldsOfDead P w → HoldsOfDead P new
dead_set P w new i s x there e k h = λ j y g d. dead_one P w i j x y h k (get_set-cases w.sessions i j x y (slice_get_within w.sessions i s there) (ap (λ ss. slice_get ss j) (sym e) ∙ g)) d

dead_same : (P : ℕ → Type 0) (w new : World) → new.sessions ≡ w.sessions → HoldsOfDead P w → HoldsOfDead P new
dead_same P w new e h = λ j y g d. h j y (ap (λ ss. slice_get ss j) (sym e) ∙ g) d

-- a session ends by its End alone
step_dead : (P : ℕ → Type 0) (actor : ℕ) (step : Step) (w new : World) → MayStep actor step w new → (step ≡ End → P actor) → HoldsOfDead P w → HoldsOfDead P new
step_dead P i (Call number reply) w new m k h =
    let s = m.session in let c = m.calls in
    let x = sessions-called i s m.after reply m.changes w in
    let e : new.sessions ≡ standing_after s.at m.changes (slice_set w.sessions i x.0) = ap (λ v. v.sessions) c.result ∙ x.1 in
    λ j y g d.
    let q = kept_from s.at m.changes (slice_set w.sessions i x.0) j y (ap (λ ss. slice_get ss j) (sym e) ∙ g) in
    dead_one P w i j x.0 q.before h (λ dead. alive x.0.live (x.3 ∙ c.ready.live) dead) (get_set-cases w.sessions i j x.0 q.before (slice_get_within w.sessions i s c.ready.there) q.there) (sym q.live ∙ d)
step_dead P i (Park number) w new m k h =
    let s = m.session in let x = record s { parked = Some m.since } in
    dead_set P w new i s x m.parks.ready.there (ap (λ v. v.sessions) m.parks.result ∙ ap (λ ss. slice_set ss i x) (sessions-stepped i w [] [] (Park (s.next + 1)))) (λ d. alive s.live m.parks.ready.live d) h
step_dead P i (Told number) w new m k h =
    let s = m.session in let x = record s { untold = None } in
    dead_set P w new i s x m.tells.there (ap (λ v. v.sessions) m.tells.result ∙ ap (λ ss. slice_set ss i x) (sessions-stepped i w [] [] (Told m.untold.number))) (λ d. h i s m.tells.there d) h
step_dead P i Flush w new m k h = dead_same P w new (ap (λ v. v.sessions) m.result ∙ sessions-stepped i w [] [] Flush) h
step_dead P i End w new m k h =
    let s = m.0 in let d = m.1 in let x = record s { pending = []; marks = []; live = false } in
    dead_set P w new i s x d.ready.there (ap (λ v. v.sessions) d.result ∙ ap (λ ss. slice_set ss i x) (sessions-stepped i w [] [] End)) (λ dead. k refl) h
step_dead P i Timer w new m k h = dead_same P w new (ap (λ v. v.sessions) m.result ∙ sessions-stepped i w (due_at Home w) (due_at Away w) Timer) h
step_dead P i (Offer at to) w new m k h = dead_same P w new (ap (λ v. v.sessions) m.result ∙ sessions-sent i (offers at to) w) h
step_dead P i (Arrive at outcome) w new m k h = dead_same P w new (ap (λ v. v.sessions) m.sends.result ∙ sessions-sent i (arrives at m.arriving) w) h
step_dead P i (Confirm at) w new m k h = dead_same P w new (ap (λ v. v.sessions) m.sends.result ∙ sessions-sent i (confirms at m.number m.changes) w) h

-- ---- each has its End

kept_before : (xs ys : List Entry) (n : ℕ) (e : Entry) → slice_get xs n ≡ Some e → slice_get (xs ++ ys) n ≡ Some e
kept_before [] ys n e h = absurd (none-some e h)
kept_before (x ∷ xs) ys zero e h = h
kept_before (x ∷ xs) ys (suc n) e h = kept_before xs ys n e h

at_last : (xs : List Entry) (e : Entry) → slice_get (xs ++ e ∷ []) (length xs) ≡ Some e
at_last [] e = refl
at_last (x ∷ xs) e = at_last xs e

end_stays : (i : ℕ) (xs ys : List Entry) (e : Entry) → ys ≡ xs ++ e ∷ [] → HasEnd i xs → HasEnd i ys
end_stays i xs ys e same h = record { number = h.number; entry = h.entry; there = ap (λ es. slice_get es h.number) same ∙ kept_before xs (e ∷ []) h.number h.entry h.there; by = h.by; is = h.is }

end_comes : (actor : ℕ) (step : Step) (w new : World) → Adds actor step w new → step ≡ End → HasEnd actor new.entries
end_comes actor step w new a is =
    let e = entry_of actor w a.home a.away step in
    record { number = length w.entries; entry = e; there = ap (λ es. slice_get es (length w.entries)) a.entries ∙ at_last w.entries e; by = refl; is = is }

abbrev AreEnded : World → Type 0
AreEnded w = HoldsOfDead (λ j. HasEnd j w.entries) w

legal_ended : (start : World) (readings : List ℕ) (w : World) → AreEnded start → IsLegal start readings w → AreEnded w
unfolding read_clock
legal_ended start rs w h opens = h
legal_ended start rs w h (reads before v reading l) = legal_ended start before v h l
legal_ended start rs w h (steps before v new actor step l timely m) =
    let a = step_adds actor step v new m in
    let before_so = legal_ended start before v h l in
    step_dead (λ j. HasEnd j new.entries) actor step v new m (end_comes actor step v new a)
    (λ j s g d. end_stays j v.entries new.entries (entry_of actor v a.home a.away step) a.entries (before_so j s g d))

opened_ended : (home away : Tables) (scripts : List SessionScript) → AreEnded (opened home away scripts)
opened_ended home away scripts = λ j s g d. let f = session-opened home away scripts j s g in alive s.live (ap (λ x. x.live) f.2) d

-- what the numbers of disk calls say is nothing of that
end_counted : (i : ℕ) (entries : List Entry) (n : ℕ) (e : Entry) → slice_get (map uncounted entries) n ≡ Some e → e.actor ≡ i → e.step ≡ End → HasEnd i entries
end_counted i [] n e h by is = absurd (none-some e h)
end_counted i (x ∷ xs) zero e h by is =
    let same : uncounted x ≡ e = (let s : Some (uncounted x) ≡ Some e = h in cc) in
    record { number = 0; entry = x; there = refl; by = ap (λ y. y.actor) same ∙ by; is = ap (λ y. y.step) same ∙ is }
end_counted i (x ∷ xs) (suc n) e h by is =
    let r = end_counted i xs n e h by is in
    record { number = suc r.number; entry = r.entry; there = r.there; by = r.by; is = r.is }

-- ---- the end of the serial schedule

any_same : (v w : World) → w.sessions ≡ v.sessions → any_live v ≡ false → any_live w ≡ false
unfolding any_live
any_same v w e d = ap (list_any is_live) e ∙ d

pub serial_is_done : (home away : Tables) (scripts : List SessionScript) (h : History) → MayBegin home away scripts → IsSerial home away scripts h → IsAllDone home away scripts h
serial_is_done home away scripts h b s =
    let start = opened home away scripts in
    let valid = opens_valid home away scripts b in
    let sound = opened_sound home away scripts in
    let none = entries-opened home away scripts in
    let last = rounds s.turns.count start in
    let c : IsOnClock start last = rounds_on start valid sound none s.turns.count start (opened_on home away scripts) in
    let end = next_closing_turn s.turns.steps last in
    let on : IsOnClock start end = closing_on start valid sound none s.turns.steps last c in
    let same = sessions-closing (next_reading last) s.turns.steps last in
    record {
      readings = step_readings start.opening end.readings;
      end = end;
      entries_are = s.turns.entries_are;
      legal = on.legal;
      over = any_same last end same s.turns.ends;
      durable = closing_durable start valid sound none s.turns.steps last c;
      still = closing_still start valid sound none s.turns.steps last c s.turns.drains;
      ends = λ i script there.
          let mine : slice_get scripts i ≡ Some script = ap (λ ss. slice_get ss i) (sym s.begins.scripts_are) ∙ there in
          let x = session_of home away scripts (step_readings start.opening end.readings) end i script on.legal mine in
          let dead : x.0.live ≡ false = all_dead last i x.0 s.turns.ends (ap (λ ss. slice_get ss i) (sym same) ∙ x.1) in
          let e = legal_ended start (step_readings start.opening end.readings) end (opened_ended home away scripts) on.legal i x.0 x.1 dead in
          end_counted i h.entries e.number e.entry (ap (λ es. slice_get es e.number) s.turns.entries_are ∙ e.there) e.by e.is;
    }
