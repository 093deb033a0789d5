-- Each legal step adds one entry, which has the readings so far.
use Rattle.std.proofs.Common.{◌≡◌, ℕ, ◌+◌, ◌-◌, ◌<◌, List, [], ◌∷◌, ◌++◌, Some, refl, sym, ap, ◌∙◌, arith, length, length-append, subst}
use Rattle.std.specs.Prelude.{slice_get}
use Rattle.std.proofs.lemmas.Option.{slice_get-get_or}
use Rattle.std.proofs.Math.Seq.{get_or-append_seam}
use Rattle.aq_base.specs.declared.DbId.{DbId}
use Rattle.aq_base.specs.declared.DbId.TheVariants.{Home, Away}
use Rattle.queue_rows.specs.Session.{Session}
use Rattle.queue_rows.specs.World.{World, stepped, entry_of, at_home, at_away, other_db}
use Rattle.queue_rows.specs.Propagating.{Arriving}
use Rattle.queue_rows.specs.Sending.{Sending, offers, arrives, confirms, sent, taking_ids, ids_copied, home_of, away_of}
use Rattle.queue_rows.specs.Turns.{called, due_at, ids_taken}
use Rattle.queue_rows.specs.Legal.{MayStep, CallsSo, ParksSo, TellsSo, last_entry}
use Rattle.queue_rows.specs.declared.change.Change.{Change}
use Rattle.queue_rows.specs.declared.reply.Reply.{Reply}
use Rattle.queue_rows.specs.declared.history.SlotRef.{SlotRef}
use Rattle.queue_rows.specs.declared.history.Entry.{Entry}
use Rattle.queue_rows.specs.declared.history.Step.{Step}
use Rattle.queue_rows.specs.declared.history.Step.TheVariants.{Call, Park, Timer, Offer, Arrive, Confirm, Told, Flush, End}

pub last-snoc : (xs : List Entry) (x : Entry) → last_entry (xs ++ x ∷ []) ≡ Some x
last-snoc xs x =
    let e : length (xs ++ x ∷ []) - 1 ≡ length xs = rw length-append (omega arith) in
    let lt : length xs < length (xs ++ x ∷ []) = rw length-append (omega arith) in
    ap (slice_get (xs ++ x ∷ [])) e ∙ slice_get-get_or (xs ++ x ∷ []) (length xs) x lt ∙ ap Some (get_or-append_seam xs x [] x)

-- the world is w with one entry more
pub record Adds (actor : ℕ) (step : Step) (w new : World) : Type 0 where
  pub home : List Change
  pub away : List Change
  pub entries : new.entries ≡ w.entries ++ entry_of actor w home away step ∷ []
  pub readings : new.readings ≡ w.readings
  pub opening : new.opening ≡ w.opening
  pub scripts : new.scripts ≡ w.scripts

pub adds-stepped : (actor : ℕ) (step : Step) (w : World) (home away : List Change) → Adds actor step w (stepped actor w home away step)
unfolding stepped
adds-stepped actor step w home away = record { home = home; away = away; entries = refl; readings = refl; opening = refl; scripts = refl }

-- what changes neither entries nor readings keeps the fact
pub adds_so : {actor : ℕ} {step : Step} {w new v : World} → Adds actor step w new → v.entries ≡ new.entries → v.readings ≡ new.readings → v.opening ≡ new.opening → v.scripts ≡ new.scripts → Adds actor step w v
adds_so a e r o s = record { home = a.home; away = a.away; entries = e ∙ a.entries; readings = r ∙ a.readings; opening = o ∙ a.opening; scripts = s ∙ a.scripts }

pub entries-taking_ids : (db : DbId) (n : ℕ) (w : World) → (taking_ids db n w).entries ≡ w.entries
entries-taking_ids Home n w = refl
entries-taking_ids Away n w = refl

pub readings-taking_ids : (db : DbId) (n : ℕ) (w : World) → (taking_ids db n w).readings ≡ w.readings
readings-taking_ids Home n w = refl
readings-taking_ids Away n w = refl

pub opening-taking_ids : (db : DbId) (n : ℕ) (w : World) → (taking_ids db n w).opening ≡ w.opening
opening-taking_ids Home n w = refl
opening-taking_ids Away n w = refl

pub sessions-taking_ids : (db : DbId) (n : ℕ) (w : World) → (taking_ids db n w).sessions ≡ w.sessions
sessions-taking_ids Home n w = refl
sessions-taking_ids Away n w = refl

pub scripts-taking_ids : (db : DbId) (n : ℕ) (w : World) → (taking_ids db n w).scripts ≡ w.scripts
scripts-taking_ids Home n w = refl
scripts-taking_ids Away n w = refl

pub adds-called : (i : ℕ) (s after : Session) (reply : Reply) (cs : List Change) (w : World) → Adds i (Call (s.next + 1) reply) w (called i s reply cs after w)
adds-called i s after reply cs w =
    let step = Call (s.next + 1) reply in
    let v = stepped i w (at_home s.at cs) (at_away s.at cs) step in
    adds_so (adds-stepped i step w (at_home s.at cs) (at_away s.at cs)) (entries-taking_ids s.at (ids_taken reply) v) (readings-taking_ids s.at (ids_taken reply) v) (opening-taking_ids s.at (ids_taken reply) v) (scripts-taking_ids s.at (ids_taken reply) v)

pub adds_along : {actor : ℕ} {step : Step} {w new v : World} → v ≡ new → Adds actor step w new → Adds actor step w v
adds_along {actor = actor} {step = step} {w = w} e a = subst (Adds actor step w) (sym e) a

call_adds : (i number : ℕ) (reply : Reply) (w new : World) → CallsSo i number reply w new → Adds i (Call number reply) w new
call_adds i number reply w new c =
    subst (λ n. Adds i (Call n reply) w new) (sym c.number_is) (adds_along c.calls.result (adds-called i c.session c.after reply c.changes w))

park_adds : (i number : ℕ) (w new : World) → ParksSo i number w new → Adds i (Park number) w new
park_adds i number w new p =
    subst (λ n. Adds i (Park n) w new) (sym p.number_is) (adds_along p.parks.result (adds_so (adds-stepped i (Park (p.session.next + 1)) w [] []) refl refl refl refl))

tell_adds : (i number : ℕ) (w new : World) → TellsSo i number w new → Adds i (Told number) w new
tell_adds i number w new t =
    subst (λ n. Adds i (Told n) w new) (sym t.number_is) (adds_along t.tells.result (adds_so (adds-stepped i (Told t.untold.number) w [] []) refl refl refl refl))

-- ---- steps of propagation

pub offer_adds : (i : ℕ) (at : SlotRef) (to : List ℕ) (w : World) → Adds i (Offer at to) w (sent i (offers at to) w)
unfolding sent
offer_adds i at to w = adds_so (adds-stepped i (Offer at to) w [] []) refl refl refl refl

come_adds : (i : ℕ) (at : SlotRef) (db : DbId) (a : Arriving) (w : World) → Adds i (Arrive at a.outcome) w (taking_ids db (ids_copied a.outcome) (stepped i w (home_of at.db a.origin a.there) (away_of at.db a.origin a.there) (Arrive at a.outcome)))
come_adds i at db a w =
    let v = stepped i w (home_of at.db a.origin a.there) (away_of at.db a.origin a.there) (Arrive at a.outcome) in
    let n = ids_copied a.outcome in
    adds_so (adds-stepped i (Arrive at a.outcome) w (home_of at.db a.origin a.there) (away_of at.db a.origin a.there)) (entries-taking_ids db n v) (readings-taking_ids db n v) (opening-taking_ids db n v) (scripts-taking_ids db n v)

pub arrive_adds : (i : ℕ) (at : SlotRef) (a : Arriving) (w : World) → Adds i (Arrive at a.outcome) w (sent i (arrives at a) w)
unfolding sent
arrive_adds i at a w = adds_so (come_adds i at (other_db at.db) a w) refl refl refl refl

pub confirm_adds : (i : ℕ) (at : SlotRef) (number : ℕ) (cs : List Change) (w : World) → Adds i (Confirm at) w (sent i (confirms at number cs) w)
unfolding sent
confirm_adds i at number cs w = adds_so (adds-stepped i (Confirm at) w (at_home at.db cs) (at_away at.db cs)) refl refl refl refl

pub sessions-stepped : (actor : ℕ) (w : World) (home away : List Change) (step : Step) → (stepped actor w home away step).sessions ≡ w.sessions
unfolding stepped
sessions-stepped actor w home away step = refl

pub sessions-sent : (actor : ℕ) (sending : Sending) (w : World) → (sent actor sending w).sessions ≡ w.sessions
unfolding sent
sessions-sent actor (offers at to) w = sessions-stepped actor w [] [] (Offer at to)
sessions-sent actor (arrives at a) w =
    let v = stepped actor w (home_of at.db a.origin a.there) (away_of at.db a.origin a.there) (Arrive at a.outcome) in
    sessions-taking_ids (other_db at.db) (ids_copied a.outcome) v ∙ sessions-stepped actor w (home_of at.db a.origin a.there) (away_of at.db a.origin a.there) (Arrive at a.outcome)
sessions-sent actor (confirms at number cs) w = sessions-stepped actor w (at_home at.db cs) (at_away at.db cs) (Confirm at)

pub step_adds : (actor : ℕ) (step : Step) (w new : World) → MayStep actor step w new → Adds actor step w new
step_adds i (Call number reply) w new m = call_adds i number reply w new m
step_adds i (Park number) w new m = park_adds i number w new m
step_adds i (Told number) w new m = tell_adds i number w new m
step_adds i Flush w new m = adds_along m.result (adds_so (adds-stepped i Flush w [] []) refl refl refl refl)
step_adds i End w new m = adds_along m.1.result (adds_so (adds-stepped i End w [] []) refl refl refl refl)
step_adds i Timer w new m = adds_along m.result (adds-stepped i Timer w (due_at Home w) (due_at Away w))
step_adds i (Offer at to) w new m = adds_along m.result (offer_adds i at to w)
step_adds i (Arrive at outcome) w new m =
    subst (λ o. Adds i (Arrive at o) w new) (sym m.outcome_is) (adds_along m.sends.result (arrive_adds i at m.arriving w))
step_adds i (Confirm at) w new m = adds_along m.sends.result (confirm_adds i at m.number m.changes w)
