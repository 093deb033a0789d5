-- A round in which no session is live changes nothing.
use Rattle.std.proofs.Common.{◌≡◌, ◌≢◌, ◌⊎◌, inl, inr, ℕ, zero, suc, ◌+◌, Bool, true, false, List, [], ◌∷◌, Option, Some, None, refl, sym, ap, subst, ◌∙◌, length}
use Rattle.std.specs.Prelude.{slice_get, slice_set}
use Rattle.std.specs.List.{list_any}
use Rattle.std.proofs.lemmas.Bool.{or_parts, false≢true}
use Rattle.std.proofs.lemmas.Option.{none-some, slice_get_within}
use Rattle.aq_base.specs.declared.DbId.TheVariants.{Home, Away}
use Rattle.queue_rows.specs.Session.{Session, standing_after}
use Rattle.queue_rows.specs.World.{World, opened, read_clock}
use Rattle.queue_rows.specs.Sending.{offers, arrives, confirms}
use Rattle.queue_rows.specs.Turns.{due_at, next_reading, session_turn, telling_turn, timer_turn, propagator_turn, turn_of, turn_of_some, telling_of_some, any_live, is_live}
use Rattle.queue_rows.specs.Serial.{next_session_turn, next_timer_turn, next_propagator_turn, each, session_turns, background_turns, telling_turns, round}
use Rattle.queue_rows.specs.Legal.{IsLegal, opens, reads, steps, MayStep}
use Rattle.queue_rows.specs.declared.tables.Tables.{Tables}
use Rattle.queue_rows.specs.declared.history.SessionScript.{SessionScript}
use Rattle.queue_rows.specs.declared.history.Step.{Step}
use Rattle.queue_rows.specs.declared.history.Step.TheVariants.{Call, Park, Timer, Offer, Arrive, Confirm, Told, Flush, End}
use Rattle.queue_rows.proofs.Sessions.{get_set-cases}
use Rattle.run_turns.proofs.Adding.{sessions-stepped, sessions-sent}
use Rattle.run_turns.proofs.Standing.{kept_from}
use Rattle.run_turns.proofs.Ordering.{sessions-called}
use Rattle.run_turns.proofs.Calling.{session-opened}

-- what an ended session called has been told
abbrev pub AreTold : World → Type 0
AreTold w = (j : ℕ) (s : Session) → slice_get w.sessions j ≡ Some s → s.live ≡ false → s.untold ≡ None

pub told_one : (w : World) (i j : ℕ) (x y : Session) → AreTold w → (x.live ≡ false → x.untold ≡ None) → ((j ≡ i) × (Some x ≡ Some y)) ⊎ ((j ≢ i) × (slice_get w.sessions j ≡ Some y)) → y.live ≡ false → y.untold ≡ None
told_one w i j x y t k (inl (p, q)) d = let same : x ≡ y = cc in subst (λ s. s.live ≡ false → s.untold ≡ None) same k d
told_one w i j x y t k (inr (p, q)) d = t j y q d

pub told_set : (w new : World) (i : ℕ) (s x : Session) → slice_get w.sessions i ≡ Some s → new.sessions ≡ slice_set w.sessions i x → (x.live ≡ false → x.untold ≡ None) → AreTold w → AreTold new
told_set w new i s x there e k t = λ j y g d. told_one w i j x y t k (get_set-cases w.sessions i j x y (slice_get_within w.sessions i s there) (ap (λ ss. slice_get ss j) (sym e) ∙ g)) d

pub told_same : (w new : World) → new.sessions ≡ w.sessions → AreTold w → AreTold new
told_same w new e t = λ j y g d. t j y (ap (λ ss. slice_get ss j) (sym e) ∙ g) d

pub alive : {A : Type 0} (b : Bool) → b ≡ true → b ≡ false → A
alive b e d = absurd (false≢true (sym d ∙ e))

step_told : (actor : ℕ) (step : Step) (w new : World) → MayStep actor step w new → AreTold w → AreTold new
step_told i (Call number reply) w new m t =
    let s = m.session in let c = m.calls in
    let x = sessions-called i s m.after reply m.changes w in
    let e : new.sessions ≡ standing_after s.at m.changes (slice_set w.sessions i x.0) = ap (λ v. v.sessions) c.result ∙ x.1 in
    λ j y g d.
    let k = kept_from s.at m.changes (slice_set w.sessions i x.0) j y (ap (λ ss. slice_get ss j) (sym e) ∙ g) in
    k.untold ∙ told_one w i j x.0 k.before t (λ dead. alive x.0.live (x.3 ∙ c.ready.live) dead) (get_set-cases w.sessions i j x.0 k.before (slice_get_within w.sessions i s c.ready.there) k.there) (sym k.live ∙ d)
step_told i (Park number) w new m t =
    let s = m.session in let x = record s { parked = Some m.since } in
    told_set w new i s x m.parks.ready.there (ap (λ v. v.sessions) m.parks.result ∙ ap (λ ss. slice_set ss i x) (sessions-stepped i w [] [] (Park (s.next + 1)))) (λ d. m.parks.ready.told) t
step_told i (Told number) w new m t =
    let s = m.session in let x = record s { untold = None } in
    told_set w new i s x m.tells.there (ap (λ v. v.sessions) m.tells.result ∙ ap (λ ss. slice_set ss i x) (sessions-stepped i w [] [] (Told m.untold.number))) (λ d. refl) t
step_told i Flush w new m t = told_same w new (ap (λ v. v.sessions) m.result ∙ sessions-stepped i w [] [] Flush) t
step_told i End w new m t =
    let s = m.0 in let d = m.1 in let x = record s { pending = []; marks = []; live = false } in
    told_set w new i s x d.ready.there (ap (λ v. v.sessions) d.result ∙ ap (λ ss. slice_set ss i x) (sessions-stepped i w [] [] End)) (λ dead. d.ready.told) t
step_told i Timer w new m t = told_same w new (ap (λ v. v.sessions) m.result ∙ sessions-stepped i w (due_at Home w) (due_at Away w) Timer) t
step_told i (Offer at to) w new m t = told_same w new (ap (λ v. v.sessions) m.result ∙ sessions-sent i (offers at to) w) t
step_told i (Arrive at outcome) w new m t = told_same w new (ap (λ v. v.sessions) m.sends.result ∙ sessions-sent i (arrives at m.arriving) w) t
step_told i (Confirm at) w new m t = told_same w new (ap (λ v. v.sessions) m.sends.result ∙ sessions-sent i (confirms at m.number m.changes) w) t

pub legal_told : (start : World) (readings : List ℕ) (w : World) → AreTold start → IsLegal start readings w → AreTold w
unfolding read_clock
legal_told start rs w t opens = t
legal_told start rs w t (reads before v reading l) = legal_told start before v t l
legal_told start rs w t (steps before v new actor step l timely m) = step_told actor step v new m (legal_told start before v t l)

pub told-opened : (home away : Tables) (scripts : List SessionScript) → AreTold (opened home away scripts)
told-opened home away scripts = λ j s g d. let f = session-opened home away scripts j s g in ap (λ x. x.untold) f.2

-- ---- turns that change nothing

none_live : (ss : List Session) (j : ℕ) (s : Session) → list_any is_live ss ≡ false → slice_get ss j ≡ Some s → s.live ≡ false
none_live [] j s e g = absurd (none-some s g)
none_live (x ∷ ss) zero s e g = let same : x ≡ s = cc in ap (λ y. y.live) (sym same) ∙ (or_parts (is_live x) (list_any is_live ss) e).0
none_live (x ∷ ss) (suc j) s e g = none_live ss j s (or_parts (is_live x) (list_any is_live ss) e).1 g

pub all_dead : (w : World) (j : ℕ) (s : Session) → any_live w ≡ false → slice_get w.sessions j ≡ Some s → s.live ≡ false
unfolding any_live
all_dead w j s e g = none_live w.sessions j s e g

dead_turn : (reading i : ℕ) (s : Session) (w : World) → s.untold ≡ None → s.live ≡ false → turn_of reading i s s.untold w ≡ w
dead_turn reading i s w u d = ap (λ o. turn_of reading i s o w) u ∙ rw d refl

turn_by : (reading i : ℕ) (o : Option Session) (w : World) → slice_get w.sessions i ≡ o → AreTold w → any_live w ≡ false → turn_of_some reading i o w ≡ w
turn_by reading i None w e t d = refl
turn_by reading i (Some s) w e t d = let dead = all_dead w i s d e in dead_turn reading i s w (t i s e dead) dead

session_turn-dead : (reading i : ℕ) (w : World) → AreTold w → any_live w ≡ false → session_turn reading i w ≡ w
unfolding session_turn
session_turn-dead reading i w t d = turn_by reading i (slice_get w.sessions i) w refl t d

telling_by : (i : ℕ) (o : Option Session) (w : World) → slice_get w.sessions i ≡ o → AreTold w → any_live w ≡ false → telling_of_some i o w ≡ w
telling_by i None w e t d = refl
telling_by i (Some s) w e t d = ap (λ u. Rattle.queue_rows.specs.Turns.telling_of i s u w) (t i s e (all_dead w i s d e))

telling_turn-dead : (i : ℕ) (w : World) → AreTold w → any_live w ≡ false → telling_turn i w ≡ w
unfolding telling_turn
telling_turn-dead i w t d = telling_by i (slice_get w.sessions i) w refl t d

timer_turn-dead : (reading : ℕ) (w : World) → any_live w ≡ false → timer_turn reading w ≡ w
unfolding timer_turn
timer_turn-dead reading w d = rw d refl

propagator_turn-dead : (reading : ℕ) (w : World) → any_live w ≡ false → propagator_turn reading w ≡ w
unfolding propagator_turn
propagator_turn-dead reading w d = rw d refl

each-same : (f : ℕ → World → World) (n : ℕ) (w : World) → ((i : ℕ) → f i w ≡ w) → each f n w ≡ w
each-same f zero w k = refl
each-same f (suc n) w k = ap (f n) (each-same f n w k) ∙ k n

pub round-dead : (w : World) → AreTold w → any_live w ≡ false → round w ≡ w
unfolding round
round-dead w t d =
    let sessions : session_turns w ≡ w = each-same next_session_turn (length w.sessions) w (λ i. session_turn-dead (next_reading w) i w t d) in
    let timer : next_timer_turn w ≡ w = timer_turn-dead (next_reading w) w d in
    let propagator : next_propagator_turn w ≡ w = propagator_turn-dead (next_reading w) w d in
    let telling : telling_turns w ≡ w = each-same telling_turn (length w.sessions) w (λ i. telling_turn-dead i w t d) in
    ap (λ v. telling_turns (background_turns v)) sessions ∙ ap (λ v. telling_turns (next_propagator_turn v)) timer ∙ ap telling_turns propagator ∙ telling

pub ended_stays : (home away : Tables) (scripts : List SessionScript) (readings : List ℕ) (w : World) → IsLegal (opened home away scripts) readings w → any_live w ≡ false → round w ≡ w
ended_stays home away scripts readings w l d = round-dead w (legal_told (opened home away scripts) readings w (told-opened home away scripts) l) d
