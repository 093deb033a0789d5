-- In each legal history each session's calls are in order.
use Rattle.std.proofs.Common.{◌≡◌, ℕ, ◌+◌, ◌<◌, true, false, List, [], ◌∷◌, Option, Some, None, refl, sym, ap, ◌∙◌, arith, length, map, get_or, length-set}
use Rattle.std.specs.Prelude.{slice_get, slice_set, option_map}
use Rattle.std.proofs.Math.ListN.{length-map}
use Rattle.std.proofs.lemmas.Option.{slice_get-get_or, slice_get_within, slice_get-map}
use Rattle.queue_rows.specs.Session.{Session}
use Rattle.queue_rows.specs.World.{World, opened, read_clock, fresh, uncounted}
use Rattle.queue_rows.specs.Sending.{offers, arrives, confirms}
use Rattle.queue_rows.specs.Turns.{due_at}
use Rattle.queue_rows.specs.Legal.{IsLegal, opens, reads, steps, MayStep, IsLegalBy}
use Rattle.queue_rows.specs.Order.{call_by, calls_of, numbers_to, CallsInOrder}
use Rattle.queue_rows.specs.declared.tables.Tables.{Tables}
use Rattle.queue_rows.specs.declared.history.Entry.{Entry}
use Rattle.queue_rows.specs.declared.history.History.{History}
use Rattle.queue_rows.specs.declared.history.SessionScript.{SessionScript}
use Rattle.queue_rows.specs.declared.history.Step.{Step}
use Rattle.queue_rows.specs.declared.history.Step.TheVariants.{Call, Park, Timer, Offer, Arrive, Confirm, Told, Flush, End}
use Rattle.aq_base.specs.declared.DbId.TheVariants.{Home, Away}
use Rattle.run_turns.proofs.Adding.{sessions-stepped, sessions-sent}
use Rattle.run_turns.proofs.Standing.{length-standing}
use Rattle.run_turns.proofs.Ordering.{AreInOrder, legal_in_order, legal_scripts, sessions-called}

pub entries-opened : (home away : Tables) (scripts : List SessionScript) → (opened home away scripts).entries ≡ []
unfolding opened
entries-opened home away scripts = refl

pub sessions-opened : (home away : Tables) (scripts : List SessionScript) → (opened home away scripts).sessions ≡ map fresh scripts
unfolding opened
sessions-opened home away scripts = refl

pub scripts-opened : (home away : Tables) (scripts : List SessionScript) → (opened home away scripts).scripts ≡ scripts
unfolding opened
scripts-opened home away scripts = refl

-- a session of the opening is a fresh one
pub fresh_one : (o : Option SessionScript) (s : Session) → option_map fresh o ≡ Some s → (script : SessionScript) × (o ≡ Some script) × (s ≡ fresh script)
fresh_one None s e = absurd (let no : None ≡ Some s = e in cc)
fresh_one (Some script) s e = (script, refl, cc)

pub session-opened : (home away : Tables) (scripts : List SessionScript) (j : ℕ) (s : Session) → slice_get (opened home away scripts).sessions j ≡ Some s
    → (script : SessionScript) × (slice_get scripts j ≡ Some script) × (s ≡ fresh script)
session-opened home away scripts j s e =
    fresh_one (slice_get scripts j) s (sym (slice_get-map fresh scripts j) ∙ ap (λ ss. slice_get ss j) (sym (sessions-opened home away scripts)) ∙ e)

-- ---- as many sessions as scripts

pub count_step : (actor : ℕ) (step : Step) (w new : World) → MayStep actor step w new → length new.sessions ≡ length w.sessions
count_step i (Call number reply) w new m =
    let x = sessions-called i m.session m.after reply m.changes w in
    ap (λ v. length v.sessions) m.calls.result ∙ ap length x.1 ∙ length-standing m.session.at m.changes (slice_set w.sessions i x.0) ∙ length-set w.sessions i x.0
count_step i (Park number) w new m =
    ap (λ v. length v.sessions) m.parks.result ∙ length-set _ _ _ ∙ ap length (sessions-stepped i w [] [] (Park (m.session.next + 1)))
count_step i (Told number) w new m =
    ap (λ v. length v.sessions) m.tells.result ∙ length-set _ _ _ ∙ ap length (sessions-stepped i w [] [] (Told m.untold.number))
count_step i Flush w new m = ap (λ v. length v.sessions) m.result ∙ ap length (sessions-stepped i w [] [] Flush)
count_step i End w new m = ap (λ v. length v.sessions) m.1.result ∙ length-set _ _ _ ∙ ap length (sessions-stepped i w [] [] End)
count_step i Timer w new m = ap (λ v. length v.sessions) m.result ∙ ap length (sessions-stepped i w (due_at Home w) (due_at Away w) Timer)
count_step i (Offer at to) w new m = ap (λ v. length v.sessions) m.result ∙ ap length (sessions-sent i (offers at to) w)
count_step i (Arrive at outcome) w new m = ap (λ v. length v.sessions) m.sends.result ∙ ap length (sessions-sent i (arrives at m.arriving) w)
count_step i (Confirm at) w new m = ap (λ v. length v.sessions) m.sends.result ∙ ap length (sessions-sent i (confirms at m.number m.changes) w)

legal_count : (start : World) (readings : List ℕ) (w : World) → IsLegal start readings w → length w.sessions ≡ length start.sessions
unfolding read_clock
legal_count start rs w opens = refl
legal_count start rs w (reads before v reading l) = legal_count start before v l
legal_count start rs w (steps before v new actor step l timely m) = count_step actor step v new m ∙ legal_count start before v l

-- ---- calls

-- the numbers of disk calls say nothing of who called
by_call : (i : ℕ) (e : Entry) (more : List Entry) (o : Option ℕ) → call_by i e ≡ o → calls_of i (map uncounted more) ≡ calls_of i more → calls_of i (map uncounted (e ∷ more)) ≡ calls_of i (e ∷ more)
by_call i e more None h rest = rw h rest
by_call i e more (Some n) h rest = rw h (ap (λ ns. n ∷ ns) rest)

pub calls-uncounted : (i : ℕ) (entries : List Entry) → calls_of i (map uncounted entries) ≡ calls_of i entries
calls-uncounted i [] = refl
calls-uncounted i (e ∷ more) = by_call i e more (call_by i e) refl (calls-uncounted i more)

pub in_order-opened : (home away : Tables) (scripts : List SessionScript) → AreInOrder (opened home away scripts)
in_order-opened home away scripts = λ j s there.
    let f = session-opened home away scripts j s there in
    record {
      calls = ap (calls_of j) (entries-opened home away scripts) ∙ ap (λ x. numbers_to x.next) (sym f.2);
      within = λ script e. let z : s.next ≡ 0 = ap (λ x. x.next) f.2 in omega arith;
      ended = λ script e dead. absurd (let no : false ≡ true = sym dead ∙ ap (λ x. x.live) f.2 in cc);
    }

-- the session of a script
pub session_of : (home away : Tables) (scripts : List SessionScript) (readings : List ℕ) (w : World) (j : ℕ) (script : SessionScript) → IsLegal (opened home away scripts) readings w → slice_get scripts j ≡ Some script
    → (s : Session) × (slice_get w.sessions j ≡ Some s)
session_of home away scripts readings w j script l there =
    let n : length w.sessions ≡ length scripts = legal_count (opened home away scripts) readings w l ∙ ap length (sessions-opened home away scripts) ∙ length-map scripts fresh in
    let lt : j < length w.sessions = let h = slice_get_within scripts j script there in omega (arith, h) in
    (get_or w.sessions j (fresh script), slice_get-get_or w.sessions j (fresh script) lt)

script_at : (home away : Tables) (scripts : List SessionScript) (readings : List ℕ) (w : World) (j : ℕ) (script : SessionScript) → IsLegal (opened home away scripts) readings w → slice_get scripts j ≡ Some script
    → slice_get w.scripts j ≡ Some script
script_at home away scripts readings w j script l there = ap (λ ss. slice_get ss j) (legal_scripts (opened home away scripts) readings w l ∙ scripts-opened home away scripts) ∙ there

-- each legal history has each session's calls in order
pub legal-calls : (home away : Tables) (scripts : List SessionScript) (readings : List ℕ) (history : History) → IsLegalBy readings home away scripts history → CallsInOrder history
legal-calls home away scripts readings history l = λ j script there.
    let mine : slice_get scripts j ≡ Some script = ap (λ ss. slice_get ss j) (sym l.begins.scripts_are) ∙ there in
    let s = session_of home away scripts readings l.end j script l.legal mine in
    let o = legal_in_order (opened home away scripts) readings l.end (in_order-opened home away scripts) l.legal j s.0 s.1 in (
      s.0.next,
      record {
        calls = sym (calls-uncounted j history.entries) ∙ ap (calls_of j) l.entries_are ∙ o.calls;
        within = o.within script (script_at home away scripts readings l.end j script l.legal mine);
      },
    )
