-- A turn only adds entries.
use Rattle.std.proofs.Common.{◌≡◌, ℕ, ◌+◌, ◌<◌, ◌≤◌, Bool, true, false, not, List, [], ◌∷◌, ◌++◌, Option, Some, None, refl, sym, ap, ◌∙◌, arith, length, length-append, append_assoc}
use Rattle.std.specs.Prelude.{◌&&◌, if◌then◌else◌, is_some, is_none}
use Rattle.std.proofs.lemmas.List.{append-nil}
use Rattle.std.proofs.lemmas.Bool.{true≢false}
use Rattle.queue_rows.specs.Session.{Session}
use Rattle.queue_rows.specs.Meaning.{Meaning, answers, parks}
use Rattle.queue_rows.specs.Order.{IsFront}
use Rattle.queue_rows.specs.declared.statement.Statement.{Statement}
use Rattle.queue_rows.specs.declared.history.Entry.{Entry}
use Rattle.queue_rows.specs.declared.history.Step.{Step}
use Rattle.queue_rows.specs.declared.history.Step.TheVariants.{Park, Timer, Offer, Arrive, Confirm, Told, Flush, End}
use Rattle.aq_base.specs.declared.DbId.TheVariants.{Home, Away}
use Rattle.queue_rows.specs.World.{World, read_clock, stepped, with_session, entry_of}
use Rattle.queue_rows.specs.Sending.{Sending, offers, arrives, confirms, next_sending, may_follow, sent}
use Rattle.queue_rows.specs.Statements.{meaning}
use Rattle.queue_rows.specs.Turns.{due_at, is_due, timed, caught_up, begun, own_turn, turned_by, is_durable, all_durable, flushed, told, propagated_by, propagated, drained_once, is_still}
use Rattle.run_turns.proofs.Adding.{Adds, adds-stepped, adds-called, offer_adds, arrive_adds, confirm_adds}
use Rattle.run_turns.proofs.Resting.{caught_up-calm}

-- the entries of the one world begin those of the other
abbrev pub Grows : World → World → Type 0
Grows w new = IsFront w.entries new.entries

pub front_same : {xs ys : List Entry} → ys ≡ xs → IsFront xs ys
front_same {xs = xs} e = ([], append-nil xs ∙ sym e)

pub front_trans : (xs ys zs : List Entry) → IsFront xs ys → IsFront ys zs → IsFront xs zs
front_trans xs ys zs f g = (f.0 ++ g.0, sym (append_assoc xs f.0 g.0) ∙ ap (λ es. es ++ g.0) f.1 ∙ g.1)

pub grows_trans : (u v w : World) → Grows u v → Grows v w → Grows u w
grows_trans u v w f g = front_trans u.entries v.entries w.entries f g

pub grows_self : (w : World) → Grows w w
grows_self w = front_same refl

added : {actor : ℕ} {step : Step} {w new : World} → Adds actor step w new → Grows w new
added {actor = actor} {step = step} {w = w} a = (entry_of actor w a.home a.away step ∷ [], sym a.entries)

grows_if : (b : Bool) (w new : World) → Grows w new → Grows w (if b then new else w)
grows_if true w new g = g
grows_if false w new g = grows_self w

grows_unless : (b : Bool) (w new : World) → Grows w new → Grows w (if b then w else new)
grows_unless true w new g = grows_self w
grows_unless false w new g = g

pub grows_read : (reading : ℕ) (w : World) → Grows w (read_clock reading w)
unfolding read_clock
grows_read reading w = front_same refl

adds_timed : (actor : ℕ) (w : World) → Adds actor Timer w (timed actor w)
adds_timed actor w = adds-stepped actor Timer w (due_at Home w) (due_at Away w)

pub grows_caught : (actor : ℕ) (w : World) → Grows w (caught_up actor w)
unfolding caught_up
grows_caught actor w = grows_if (is_due w) w (timed actor w) (added (adds_timed actor w))

pub grows_begun : (actor reading : ℕ) (w : World) → Grows w (begun actor reading w)
grows_begun actor reading w = grows_trans w (read_clock reading w) (begun actor reading w) (grows_read reading w) (grows_caught actor (read_clock reading w))

grows_flush : (actor : ℕ) (w : World) → Grows w (all_durable (stepped actor w [] [] Flush))
grows_flush actor w = (entry_of actor w (adds-stepped actor Flush w [] []).home (adds-stepped actor Flush w [] []).away Flush ∷ [], sym (adds-stepped actor Flush w [] []).entries)

pub grows_flushed : (actor : ℕ) (w : World) → Grows w (flushed actor w)
unfolding flushed
grows_flushed actor w = grows_unless (is_durable w) w (all_durable (stepped actor w [] [] Flush)) (grows_flush actor w)

-- ---- a session's own steps

grows_if_parked : (o : Option ℕ) (w new : World) → Grows w new → Grows w (if is_some o then w else new)
grows_if_parked None w new g = g
grows_if_parked (Some at) w new g = grows_self w

grows_turned : (i : ℕ) (s : Session) (m : Meaning) (w : World) → Grows w (turned_by i s m w)
grows_turned i s (answers reply cs after) w = added (adds-called i s after reply cs w)
grows_turned i s (parks since) w =
    grows_if_parked s.parked w (with_session i (record s { parked = Some since }) (stepped i w [] [] (Park (s.next + 1)))) (added (adds-stepped i (Park (s.next + 1)) w [] []))

pub grows_own : (i : ℕ) (s : Session) (o : Option Statement) (w : World) → Grows w (own_turn i s o w)
grows_own i s None w = added (adds-stepped i End w [] [])
grows_own i s (Some statement) w = grows_turned i s (meaning w i s statement) w

pub grows_told : (i : ℕ) (s : Session) (number : ℕ) (w : World) → Grows (flushed i w) (told i s number w)
grows_told i s number w = added (adds-stepped i (Told number) (flushed i w) [] [])

-- ---- propagation

-- the step adds an entry
adds_sent : (actor : ℕ) (s : Sending) (w : World) → (step : Step) × Adds actor step w (sent actor s w)
adds_sent actor (offers at to) w = (Offer at to, offer_adds actor at to w)
adds_sent actor (arrives at a) w = (Arrive at a.outcome, arrive_adds actor at a w)
adds_sent actor (confirms at number cs) w = (Confirm at, confirm_adds actor at number cs w)

pub grows_sent : (actor : ℕ) (s : Sending) (w : World) → Grows w (sent actor s w)
grows_sent actor s w = added (adds_sent actor s w).1

grows_by : (actor : ℕ) (o : Option Sending) (w : World) → Grows w (propagated_by actor o w)
grows_by actor None w = grows_self w
grows_by actor (Some s) w =
    let v = if may_follow w s then w else flushed actor w in
    grows_trans w v (sent actor s v) (grows_unless (may_follow w s) w (flushed actor w) (grows_flushed actor w)) (grows_sent actor s v)

pub grows_propagated : (actor : ℕ) (w : World) → Grows w (propagated actor w)
unfolding propagated
grows_propagated actor w = grows_by actor (next_sending w) w

-- a flush before a step begins what the step does
pub flushed_front : (actor : ℕ) (s : Sending) (w : World) → next_sending w ≡ Some s → may_follow w s ≡ false → Grows (flushed actor w) (propagated actor w)
unfolding propagated
flushed_front actor s w e f = rw e (rw f (grows_sent actor s (flushed actor w)))

-- ---- the closing turn

pub grows_drained : (w : World) → Grows w (drained_once w)
grows_drained w = grows_trans w (caught_up 66 w) (drained_once w) (grows_caught 66 w) (grows_propagated 66 (caught_up 66 w))

longer : {actor : ℕ} {step : Step} {w new : World} → Adds actor step w new → length w.entries < length new.entries
longer {actor = actor} {step = step} {w = w} {new = new} a =
    let e : length new.entries ≡ length w.entries + 1 = ap length a.entries ∙ length-append w.entries (entry_of actor w a.home a.away step ∷ []) in
    omega (arith, e)

no_shorter : (w new : World) → Grows w new → length w.entries ≤ length new.entries
no_shorter w new g =
    let e : length w.entries + length g.0 ≡ length new.entries = sym (length-append w.entries g.0) ∙ ap length g.1 in
    omega (arith, e)

longer_by : (w : World) (o : Option Sending) → is_none o ≡ false → length w.entries < length (propagated_by 66 o w).entries
longer_by w None e = absurd (true≢false e)
longer_by w (Some s) e =
    let v = if may_follow w s then w else flushed 66 w in
    let a = no_shorter w v (grows_unless (may_follow w s) w (flushed 66 w) (grows_flushed 66 w)) in
    let b = longer (adds_sent 66 s v).1 in
    omega (arith, a, b)

propagated_longer : (w : World) → is_none (next_sending w) ≡ false → length w.entries < length (propagated 66 w).entries
unfolding propagated
propagated_longer w e = longer_by w (next_sending w) e

caught_longer : (w : World) → is_due w ≡ true → length w.entries < length (caught_up 66 w).entries
unfolding caught_up
caught_longer w e = rw e (longer (adds_timed 66 w))

longer_if : (w : World) (b : Bool) → is_due w ≡ b → not b && is_none (next_sending w) ≡ false → length w.entries < length (drained_once w).entries
longer_if w true e h =
    let a = caught_longer w e in
    let b = no_shorter (caught_up 66 w) (drained_once w) (grows_propagated 66 (caught_up 66 w)) in
    omega (arith, a, b)
longer_if w false e h = rw (caught_up-calm 66 w e) (propagated_longer w h)

-- where something is to be done, a step of the closing turn adds an entry
pub drained_longer : (w : World) → is_still w ≡ false → length w.entries < length (drained_once w).entries
unfolding is_still
drained_longer w h = longer_if w (is_due w) refl h
