-- Every commit is durable when the serial schedule has come to its end.
use Rattle.std.proofs.Common.{◌≡◌, ◌≤◌, ℕ, List, [], ◌∷◌, ◌++◌, Bool, true, false, refl, sym, ap, subst, ◌∙◌, arith}
use Rattle.std.specs.List.{list_any}
use Rattle.std.specs.Prelude.{nat_lt, if◌then◌else◌}
use Rattle.std.proofs.lemmas.Bool.{and_parts, not-true, ltb-false}
use Rattle.aq_base.specs.declared.DbId.{DbId}
use Rattle.aq_base.specs.declared.DbId.TheVariants.{Home, Away}
use Rattle.queue_rows.specs.Turns.{step_readings, is_durable, all_durable, flushed, drained, closing_turn}
use Rattle.queue_rows.specs.declared.tables.Tables.{Tables}
use Rattle.queue_rows.specs.declared.history.Entry.{Entry}
use Rattle.queue_rows.specs.declared.history.History.{History}
use Rattle.queue_rows.specs.declared.history.SessionScript.{SessionScript}
use Rattle.history_laws.specs.WorldLaws.{MayBegin}
use Rattle.history_laws.specs.Durability.{is_flush_entry, until_flush, made, durable}
use Rattle.history_laws.proofs.Telling.{until_uncounted, made_first, made_uncounted}
use Rattle.queue_rows.specs.declared.history.Step.TheVariants.{Flush}
use Rattle.queue_rows.specs.World.{World, database_at, opened, stepped}
use Rattle.queue_rows.specs.Sending.{is_durable_at}
use Rattle.queue_rows.specs.Serial.{rounds, at_closing, next_closing_turn, IsSerial}
use Rattle.queue_rows.specs.Legal.{opens}
use Rattle.run_laws.proofs.Worlds.{opens_valid}
use Rattle.run_turns.proofs.Calling.{entries-opened}
use Rattle.run_turns.proofs.OnClock.{IsOnClock, rounds_on, closing_on}
use Rattle.run_turns.proofs.Sounding.{opened_sound}
use Rattle.run_fates.proofs.Telling.{legal_kept, opened_kept}

-- ---- behind a flush

-- no commit is left that is not durable
abbrev IsAll : DbId → World → Type 0
IsAll db w = (database_at db w).made ≤ (database_at db w).durable

all_at : (db : DbId) (w : World) → is_durable_at db w ≡ true → IsAll db w
all_at db w e = ltb-false (database_at db w).durable (database_at db w).made (not-true (nat_lt (database_at db w).durable (database_at db w).made) e)

all_both : (db : DbId) (w : World) → is_durable w ≡ true → IsAll db w
all_both Home w e = all_at Home w (and_parts (is_durable_at Home w) (is_durable_at Away w) e).0
all_both Away w e = all_at Away w (and_parts (is_durable_at Home w) (is_durable_at Away w) e).1

all_made : (db : DbId) (w : World) → IsAll db (all_durable w)
all_made Home w = omega arith
all_made Away w = omega arith

all_if : (db : DbId) (b : Bool) (v w : World) → is_durable w ≡ b → IsAll db (if b then w else all_durable v)
all_if db true v w e = all_both db w e
all_if db false v w e = all_made db v

all_flushed : (actor : ℕ) (db : DbId) (w : World) → IsAll db (flushed actor w)
unfolding flushed
all_flushed actor db w = all_if db (is_durable w) (stepped actor w [] [] Flush) w refl

all_closed : (db : DbId) (steps : ℕ) (w : World) → IsAll db (next_closing_turn steps w)
unfolding closing_turn
all_closed db steps w = all_flushed 66 db (drained steps (at_closing w))

-- ---- what is durable was made

front_if : (b : Bool) (e : Entry) (more : List Entry) → (rest : List Entry) × (until_flush more ++ rest ≡ more) → (rest : List Entry) × ((if b then e ∷ until_flush more else []) ++ rest ≡ e ∷ more)
front_if true e more f = (f.0, ap (λ es. e ∷ es) f.1)
front_if false e more f = (e ∷ more, refl)

until_front : (entries : List Entry) → (rest : List Entry) × (until_flush entries ++ rest ≡ entries)
until_front [] = ([], refl)
until_front (e ∷ more) = front_if (list_any is_flush_entry (e ∷ more)) e more (until_front more)

durable_within : (db : DbId) (entries : List Entry) → durable db entries ≤ made db entries
durable_within db entries = let f = until_front entries in subst (λ es. durable db entries ≤ made db es) f.1 (made_first db (until_flush entries) f.0)

-- ---- the serial history

module _ (home away : Tables) (scripts : List SessionScript) (b : MayBegin home away scripts) where
  abbrev start : World
  start = opened home away scripts

  start_on : IsOnClock start start
  unfolding opened
  start_on = record { legal = opens; opening = refl }

  closed_on : (count steps : ℕ) → IsOnClock start (next_closing_turn steps (rounds count start))
  closed_on count steps =
      let valid = opens_valid home away scripts b in
      let sound = opened_sound home away scripts in
      let none = entries-opened home away scripts in
      closing_on start valid sound none steps (rounds count start) (rounds_on start valid sound none count start start_on)

  serial_durable : (h : History) → IsSerial home away scripts h → (db : DbId) → made db h.entries ≤ durable db h.entries
  serial_durable h s db =
      let end = next_closing_turn s.turns.steps (rounds s.turns.count start) in
      let counted = (legal_kept start (opened_kept home away scripts) (step_readings start.opening end.readings) end (closed_on s.turns.count s.turns.steps).legal).counted db in
      let all = all_closed db s.turns.steps (rounds s.turns.count start) in
      let m = counted.made_is in
      let d = counted.durable_is in
      let lhs : made db end.entries ≡ made db h.entries = ap (made db) (sym s.turns.entries_are) ∙ made_uncounted db h.entries in
      let rhs : durable db end.entries ≡ durable db h.entries =
      ap (durable db) (sym s.turns.entries_are) ∙ ap (made db) (until_uncounted h.entries) ∙ made_uncounted db (until_flush h.entries) in
      omega (arith, all, m, d, lhs, rhs)

pub serial_is_durable : (home away : Tables) (scripts : List SessionScript) (h : History) → MayBegin home away scripts → IsSerial home away scripts h → (db : DbId) → durable db h.entries ≡ made db h.entries
serial_is_durable home away scripts h b s db =
    let all = serial_durable home away scripts b h s db in
    let no_more = durable_within db h.entries in
    omega (arith, all, no_more)
