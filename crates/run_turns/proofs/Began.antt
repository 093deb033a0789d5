-- What a run began with stays.
use Rattle.std.proofs.Common.{◌≡◌, ℕ, ◌+◌, List, [], refl, ap, ◌∙◌, length}
use Rattle.aq_base.specs.declared.DbId.{DbId}
use Rattle.aq_base.specs.declared.DbId.TheVariants.{Home, Away}
use Rattle.queue_rows.specs.World.{at_home, at_away, other_db, World, database_at, opened, read_clock, stepped}
use Rattle.queue_rows.specs.Turns.{ids_taken, called, due_at, all_durable}
use Rattle.queue_rows.specs.Session.{Session}
use Rattle.queue_rows.specs.declared.tables.Tables.{Tables}
use Rattle.queue_rows.specs.declared.change.Change.{Change}
use Rattle.queue_rows.specs.declared.reply.Reply.{Reply}
use Rattle.queue_rows.specs.declared.history.SessionScript.{SessionScript}
use Rattle.queue_rows.specs.declared.history.Step.{Step}
use Rattle.queue_rows.specs.declared.history.Step.TheVariants.{Call, Park, Timer, Offer, Arrive, Confirm, Told, Flush, End}
use Rattle.queue_rows.specs.Sending.{Sending, offers, arrives, confirms, sent, taking_ids, ids_copied, home_of, away_of}
use Rattle.queue_rows.specs.Legal.{MayStep, IsLegal, opens, reads, steps}
use Rattle.run_turns.proofs.Adding.{step_adds}
use Rattle.run_turns.proofs.Calling.{count_step}

-- the tables of a database as the run began
abbrev opening_at : DbId → World → Tables
opening_at db w = (database_at db w).opening

opening-stepped : (actor : ℕ) (w : World) (home away : List Change) (step : Step) (db : DbId) → opening_at db (stepped actor w home away step) ≡ opening_at db w
unfolding stepped
opening-stepped actor w home away step Home = refl
opening-stepped actor w home away step Away = refl

opening-taking : (at : DbId) (n : ℕ) (w : World) (db : DbId) → opening_at db (taking_ids at n w) ≡ opening_at db w
opening-taking Home n w Home = refl
opening-taking Home n w Away = refl
opening-taking Away n w Home = refl
opening-taking Away n w Away = refl

-- as of a world with the same databases
opening-same : (v w : World) (db : DbId) → v.home ≡ w.home → v.away ≡ w.away → opening_at db v ≡ opening_at db w
opening-same v w Home h a = ap (λ d. d.opening) h
opening-same v w Away h a = ap (λ d. d.opening) a

opening-durable : (w : World) (db : DbId) → opening_at db (all_durable w) ≡ opening_at db w
opening-durable w Home = refl
opening-durable w Away = refl

opening-called : (i : ℕ) (s after : Session) (reply : Reply) (cs : List Change) (w : World) (db : DbId) → opening_at db (called i s reply cs after w) ≡ opening_at db w
opening-called i s after reply cs w db =
    let v = stepped i w (at_home s.at cs) (at_away s.at cs) (Call (s.next + 1) reply) in
    opening-same (called i s reply cs after w) (taking_ids s.at (ids_taken reply) v) db refl refl ∙ opening-taking s.at (ids_taken reply) v db
    ∙ opening-stepped i w (at_home s.at cs) (at_away s.at cs) (Call (s.next + 1) reply) db

opening-sent : (actor : ℕ) (s : Sending) (w : World) (db : DbId) → opening_at db (sent actor s w) ≡ opening_at db w
unfolding sent
opening-sent actor (offers at to) w db =
    opening-same (sent actor (offers at to) w) (stepped actor w [] [] (Offer at to)) db refl refl ∙ opening-stepped actor w [] [] (Offer at to) db
opening-sent actor (arrives at a) w db =
    let home = home_of at.db a.origin a.there in
    let away = away_of at.db a.origin a.there in
    let v = stepped actor w home away (Arrive at a.outcome) in
    let u = taking_ids (other_db at.db) (ids_copied a.outcome) v in
    opening-same (sent actor (arrives at a) w) u db refl refl ∙ opening-taking (other_db at.db) (ids_copied a.outcome) v db ∙ opening-stepped actor w home away (Arrive at a.outcome) db
opening-sent actor (confirms at number cs) w db =
    let v = stepped actor w (at_home at.db cs) (at_away at.db cs) (Confirm at) in
    opening-same (sent actor (confirms at number cs) w) v db refl refl ∙ opening-stepped actor w (at_home at.db cs) (at_away at.db cs) (Confirm at) db

opening-step : (actor : ℕ) (step : Step) (w new : World) → MayStep actor step w new → (db : DbId) → opening_at db new ≡ opening_at db w
opening-step i (Call number reply) w new m db = ap (opening_at db) m.calls.result ∙ opening-called i m.session m.after reply m.changes w db
opening-step i (Park number) w new m db =
    ap (opening_at db) m.parks.result ∙ opening-same _ (stepped i w [] [] (Park (m.session.next + 1))) db refl refl ∙ opening-stepped i w [] [] (Park (m.session.next + 1)) db
opening-step i (Told number) w new m db =
    ap (opening_at db) m.tells.result ∙ opening-same _ (stepped i w [] [] (Told m.untold.number)) db refl refl ∙ opening-stepped i w [] [] (Told m.untold.number) db
opening-step i Flush w new m db = ap (opening_at db) m.result ∙ opening-durable (stepped i w [] [] Flush) db ∙ opening-stepped i w [] [] Flush db
opening-step i End w new m db = ap (opening_at db) m.1.result ∙ opening-same _ (stepped i w [] [] End) db refl refl ∙ opening-stepped i w [] [] End db
opening-step i Timer w new m db = ap (opening_at db) m.result ∙ opening-stepped i w (due_at Home w) (due_at Away w) Timer db
opening-step i (Offer at to) w new m db = ap (opening_at db) m.result ∙ opening-sent i (offers at to) w db
opening-step i (Arrive at outcome) w new m db = ap (opening_at db) m.sends.result ∙ opening-sent i (arrives at m.arriving) w db
opening-step i (Confirm at) w new m db = ap (opening_at db) m.sends.result ∙ opening-sent i (confirms at m.number m.changes) w db

-- the one world began as the other
pub record BeganAs (start w : World) : Type 0 where
  pub home : w.home.opening ≡ start.home.opening
  pub away : w.away.opening ≡ start.away.opening
  pub scripts : w.scripts ≡ start.scripts
  pub opening : w.opening ≡ start.opening
  pub count : length w.sessions ≡ length start.sessions

pub legal_began : (start : World) (readings : List ℕ) (w : World) → IsLegal start readings w → BeganAs start w
unfolding read_clock
legal_began start rs w opens = record { home = refl; away = refl; scripts = refl; opening = refl; count = refl }
legal_began start rs w (reads before v reading l) = let b = legal_began start before v l in record { home = b.home; away = b.away; scripts = b.scripts; opening = b.opening; count = b.count }
legal_began start rs w (steps before v new actor step l timely m) =
    let b = legal_began start before v l in
    let a = step_adds actor step v new m in
    record {
      home = opening-step actor step v new m Home ∙ b.home;
      away = opening-step actor step v new m Away ∙ b.away;
      scripts = a.scripts ∙ b.scripts;
      opening = a.opening ∙ b.opening;
      count = count_step actor step v new m ∙ b.count;
    }

same_opened : (a b c d : Tables) (xs ys : List SessionScript) → a ≡ c → b ≡ d → xs ≡ ys → opened a b xs ≡ opened c d ys
same_opened a b c d xs ys p q r = ap (λ t. opened t b xs) p ∙ ap (λ t. opened c t xs) q ∙ ap (opened c d) r

-- so each world of a legal history tells how the run began
pub began_so : (home away : Tables) (scripts : List SessionScript) (readings : List ℕ) (w : World) → IsLegal (opened home away scripts) readings w
    → (w.home.opening ≡ home) × (w.away.opening ≡ away) × (w.scripts ≡ scripts)
unfolding opened
began_so home away scripts readings w l = let b = legal_began (opened home away scripts) readings w l in (b.home, b.away, b.scripts)

pub opened_again : (home away : Tables) (scripts : List SessionScript) (readings : List ℕ) (w : World) → IsLegal (opened home away scripts) readings w
    → opened w.home.opening w.away.opening w.scripts ≡ opened home away scripts
opened_again home away scripts readings w l =
    let b = began_so home away scripts readings w l in
    same_opened w.home.opening w.away.opening home away w.scripts scripts b.0 b.1 b.2
