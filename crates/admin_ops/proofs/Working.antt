-- The sessions work as those that their states and marks show.
use Rattle.std.proofs.Common.{◌≡◌, ℕ, ◌+◌, suc, List, [], ◌∷◌, true, Option, Some, refl, ap, sym, ◌∙◌, inl, inr, arith}
use Rattle.std.specs.Prelude.{◌&&◌, ◌||◌, slice_get}
use Rattle.std.specs.List.{list_any, AllZip}
use Rattle.std.proofs.lemmas.Bool.{false≢true, cases_Bool}
use Rattle.aq_base.specs.declared.DbId.{DbId}
use Rattle.aq_base.specs.declared.DbId.TheVariants.{Home, Away}
use Rattle.slot_marks.specs.Marks.{SessionMarks, marks_of}
use Rattle.queue_rows.specs.Session.{Session, is_same_db}
use Rattle.queue_rows.specs.Administration.{Affected, is_marked, is_added, works_on, is_sent, is_outstanding, is_hindered, in_queue, of_subscriber}
use Rattle.queue_rows.specs.Rows.{find_sub}
use Rattle.queue_rows.specs.declared.tables.Tables.{Tables}
use Rattle.queue_rows.specs.declared.history.SlotRef.{SlotRef}
use Rattle.queue_rows.specs.declared.statement.Admin.{Admin}
use Rattle.queue_rows.specs.declared.statement.Admin.TheVariants as asks
use Rattle.queue_rows.specs.Session.{AreMarks}
use Rattle.sessions.specs.States.{IsStateOf}
use Rattle.sessions.specs.declared.state.SessionState.{SessionState}
use Rattle.admin_ops.specs.Shown.{session_with, sessions_from}

db_same : (a b : DbId) → is_same_db a b ≡ true → a ≡ b
db_same Home Home e = refl
db_same Home Away e = absurd (false≢true e)
db_same Away Home e = absurd (false≢true e)
db_same Away Away e = refl

module _ (t : Tables) (db : DbId) (locks : List SessionMarks) where
  -- the locks keep the marks of these sessions of the database, of which the first has that number
  abbrev KeepOwn : ℕ → List Session → Type 0
  KeepOwn number sessions = (i : ℕ) (s : Session) → slice_get sessions i ≡ Some s → s.at ≡ db → s.marks ≡ marks_of locks (number + i)

  works-one : (affects : Affected) (number : ℕ) (state : SessionState) (s : Session) → IsStateOf state s → (s.at ≡ db → s.marks ≡ marks_of locks number)
      → works_on t db affects (session_with state (marks_of locks number)) ≡ works_on t db affects s
  works-one affects number state s is own = elim (cases_Bool (is_same_db s.at db)) [
    | inl here ↦
        let marks = own (db_same s.at db here) in
        ap (λ at. is_same_db at db && (list_any (is_added affects) state.pending || is_marked t affects (session_with state (marks_of locks number)))) (sym is.at)
        ∙ ap (λ pending. is_same_db s.at db && (list_any (is_added affects) pending || is_marked t affects (session_with state (marks_of locks number)))) (sym is.pending)
        ∙ ap (λ marks. is_same_db s.at db && (list_any (is_added affects) s.pending || is_marked t affects (session_with state marks))) (sym marks)
    | inr there ↦
        ap (λ at. is_same_db at db && (list_any (is_added affects) state.pending || is_marked t affects (session_with state (marks_of locks number)))) (sym is.at)
        ∙ ap (λ b. b && (list_any (is_added affects) state.pending || is_marked t affects (session_with state (marks_of locks number)))) there
        ∙ sym (ap (λ b. b && (list_any (is_added affects) s.pending || is_marked t affects s)) there)
  ]

  own-first : (number : ℕ) (s : Session) (more : List Session) → KeepOwn number (s ∷ more) → s.at ≡ db → s.marks ≡ marks_of locks number
  own-first number s more own at = let z : number + 0 ≡ number = omega arith in ap (λ ms. ms) (own 0 s refl at) ∙ ap (marks_of locks) z

  own-more : (number : ℕ) (s : Session) (more : List Session) → KeepOwn number (s ∷ more) → KeepOwn (number + 1) more
  own-more number s more own i x there at = let z : number + suc i ≡ number + 1 + i = omega arith in own (suc i) x there at ∙ ap (marks_of locks) z

  works-all : (affects : Affected) (number : ℕ) (states : List SessionState) (sessions : List Session) → AllZip IsStateOf states sessions → KeepOwn number sessions
      → list_any (works_on t db affects) (sessions_from number locks states) ≡ list_any (works_on t db affects) sessions
  works-all affects number [] [] are own = refl
  works-all affects number [] (s ∷ ss) are own = absurd are
  works-all affects number (x ∷ xs) [] are own = absurd are
  works-all affects number (x ∷ xs) (s ∷ ss) are own =
      ap (λ b. b || list_any (works_on t db affects) (sessions_from (number + 1) locks xs)) (works-one affects number x s are.0 (own-first number s ss own))
      ∙ ap (λ b. works_on t db affects s || b) (works-all affects (number + 1) xs ss are.1 (own-more number s ss own))

  module _ (states : List SessionState) (sessions : List Session) (are : AllZip IsStateOf states sessions) (marks : AreMarks db sessions locks) (sent : Option SlotRef) where
    outstanding-same : (affects : Affected) → is_outstanding t db (sessions_from 0 locks states) sent affects ≡ is_outstanding t db sessions sent affects
    outstanding-same affects = ap (λ b. b || is_sent t db affects sent) (works-all affects 0 states sessions are own)
      where
        own : KeepOwn 0 sessions
        own i s there at = let z : 0 + i ≡ i = omega arith in marks.own i s there at ∙ ap (marks_of locks) (sym z)

    pub hindered-same : (ask : Admin) → is_hindered t db (sessions_from 0 locks states) sent ask ≡ is_hindered t db sessions sent ask
    hindered-same (asks.DropQueue queue) = outstanding-same (in_queue queue)
    hindered-same (asks.StopQueue queue enqueue dequeue) = outstanding-same (in_queue queue)
    hindered-same (asks.RemoveSubscriber queue name) = outstanding-same (of_subscriber queue (find_sub t queue name))
    hindered-same (asks.Unschedule queue to) = refl
    hindered-same (asks.CreateTable table fields sort multi grouped) = refl
    hindered-same (asks.DropTable table) = refl
    hindered-same (asks.CreateQueue queue table kind max_retries retry_delay retention) = refl
    hindered-same (asks.StartQueue queue enqueue dequeue) = refl
    hindered-same (asks.AddSubscriber queue name address rule) = refl
    hindered-same (asks.Schedule queue to start duration period latency) = refl
    hindered-same (asks.EnableSchedule queue to) = refl
    hindered-same (asks.DisableSchedule queue to) = refl
