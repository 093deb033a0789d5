-- The tables of a legal history are valid throughout, and each entry is one that its actor may make.
use Rattle.std.proofs.Common.{◌≡◌, ℕ, zero, suc, ◌<◌, List, [], ◌∷◌, ◌++◌, Bool, true, false, Some, refl, sym, ap, ◌∙◌, subst, length}
use Rattle.std.specs.Prelude.{◌&&◌, ◌||◌, ◌==◌, map, nat_lt, slice_get, take}
use Rattle.std.specs.List.{list_all}
use Rattle.std.proofs.Math.Seq.{take-suc, take-nil}
use Rattle.std.proofs.lemmas.Bool.{and_parts, lt-ltb}
use Rattle.std.proofs.lemmas.List.{length-map}
use Rattle.std.proofs.lemmas.List.Folds.{list_all-append, list_all-map}
use Rattle.std.proofs.lemmas.Option.{slice_get_within}
use Rattle.aq_base.specs.declared.DbId.{DbId}
use Rattle.aq_base.specs.declared.DbId.TheVariants.{Home, Away}
use Rattle.queue_rows.specs.Fits.{fits, all_name_what_is_there}
use Rattle.queue_rows.specs.Legal.{MayStep, IsLegal, opens, reads, steps, IsLegalBy, IsLegalHistory, is_actor, is_sender}
use Rattle.queue_rows.specs.Tables.{after}
use Rattle.queue_rows.specs.Valid.{is_valid}
use Rattle.queue_rows.specs.World.{World, opened, read_clock, uncounted}
use Rattle.queue_rows.specs.declared.tables.Tables.{Tables}
use Rattle.queue_rows.specs.declared.change.Commit.{Commit}
use Rattle.queue_rows.specs.declared.history.Entry.{Entry}
use Rattle.queue_rows.specs.declared.history.History.{History}
use Rattle.queue_rows.specs.declared.history.SessionScript.{SessionScript}
use Rattle.queue_rows.specs.declared.history.Step.{Step}
use Rattle.queue_rows.specs.declared.history.Step.TheVariants.{Call, Park, Timer, Offer, Arrive, Confirm, Told, Flush, End}
use Rattle.history_laws.specs.LegalFates.{all_fit}
use Rattle.history_laws.specs.Made.{after_commits, commits_of, opening_of}
use Rattle.history_laws.specs.WorldLaws.{MayBegin}
use Rattle.history_laws.proofs.Lasting.{opening_is}
use Rattle.run_turns.proofs.Calling.{count_step, entries-opened, sessions-opened}
use Rattle.run_fates.specs.Throughout.{AreOwn, AreValidThroughout, is_own, may_make}
use Rattle.run_fates.proofs.Lasting.{legal_commits_fit}
use Rattle.run_fates.proofs.Leading.{step_led}

-- ---- tables

fits_valid : (t : Tables) (c : Commit) → fits t c ≡ true → is_valid (after t c) ≡ true
unfolding fits
fits_valid t c f = (and_parts (all_name_what_is_there t c.changes) (is_valid (after t c)) f).1

none_more : (t : Tables) → is_valid t ≡ true → is_valid (after_commits t []) ≡ true
unfolding after_commits
none_more t v = v

one_more : (t : Tables) (c : Commit) (cs : List Commit) → is_valid (after_commits (after t c) cs) ≡ true → is_valid (after_commits t (c ∷ cs)) ≡ true
unfolding after_commits
one_more t c cs v = v

valid_after : (t : Tables) (cs : List Commit) (k : ℕ) → is_valid t ≡ true → all_fit t cs ≡ true → is_valid (after_commits t (take k cs)) ≡ true
valid_after t [] k v f = subst (λ xs. is_valid (after_commits t xs) ≡ true) (sym (take-nil k)) (none_more t v)
valid_after t (c ∷ cs) zero v f = none_more t v
valid_after t (c ∷ cs) (suc k) v f =
    let p = and_parts (fits t c) (all_fit (after t c) cs) f in
    one_more t c (take k cs) (valid_after (after t c) cs k (fits_valid t c p.0) p.1)

opening_valid : (home away : Tables) (scripts : List SessionScript) (h : History) → MayBegin home away scripts → IsLegalHistory home away scripts h → (db : DbId) → is_valid (opening_of db h) ≡ true
opening_valid home away scripts h b legal Home = ap is_valid (opening_is home away scripts h legal.1.begins Home) ∙ b.home_valid
opening_valid home away scripts h b legal Away = ap is_valid (opening_is home away scripts h legal.1.begins Away) ∙ b.away_valid

pub legal_is_valid_throughout : (home away : Tables) (scripts : List SessionScript) (h : History) → MayBegin home away scripts → IsLegalHistory home away scripts h → (db : DbId) → AreValidThroughout db h
legal_is_valid_throughout home away scripts h b legal db = λ k.
    valid_after (opening_of db h) (commits_of db h.entries) k (opening_valid home away scripts h b legal db) (legal_commits_fit home away scripts h b legal db)

-- ---- actors

there_within : {A : Type 0} (xs : List A) (i : ℕ) (x : A) → slice_get xs i ≡ Some x → nat_lt i (length xs) ≡ true
there_within xs i x e = lt-ltb i (length xs) (slice_get_within xs i x e)

step_own : (actor : ℕ) (step : Step) (w new : World) → MayStep actor step w new → may_make (length w.sessions) actor step ≡ true
step_own i (Call number reply) w new m = there_within w.sessions i m.session m.calls.ready.there
step_own i (Park number) w new m = there_within w.sessions i m.session m.parks.ready.there
step_own i (Told number) w new m = there_within w.sessions i m.session m.tells.there
step_own i Flush w new m = m.by
step_own i End w new m = there_within w.sessions i m.0 m.1.ready.there
step_own i Timer w new m = m.by
step_own i (Offer at to) w new m = m.by
step_own i (Arrive at outcome) w new m = m.sends.by
step_own i (Confirm at) w new m = m.sends.by

-- so many sessions, and each entry is one that its actor may make
pub record IsOwned (count : ℕ) (w : World) : Type 0 where
  pub count_is : length w.sessions ≡ count
  pub own : list_all (is_own count) w.entries ≡ true

both : {a b : Bool} → a ≡ true → b ≡ true → (a && b) ≡ true
both {b = b} p q = ap (λ x. x && b) p ∙ q

owned_next : (count actor : ℕ) (step : Step) (w new : World) → MayStep actor step w new → IsOwned count w → IsOwned count new
owned_next count actor step w new m o =
    let l = step_led w new actor step m in
    let one : is_own count l.leads.entry ≡ true =
    ap (λ a. may_make count a l.leads.entry.step) l.made_by ∙ ap (λ s. may_make count actor s) l.step_is ∙ ap (λ n. may_make n actor step) (sym o.count_is) ∙ step_own actor step w new m in
    record {
      count_is = count_step actor step w new m ∙ o.count_is;
      own = ap (list_all (is_own count)) l.leads.entries ∙ list_all-append (is_own count) w.entries (l.leads.entry ∷ []) ∙ both o.own (both one refl);
    }

legal_owned : (start : World) (readings : List ℕ) (w : World) (count : ℕ) → IsLegal start readings w → IsOwned count start → IsOwned count w
unfolding read_clock
legal_owned start rs w count opens o = o
legal_owned start rs w count (reads before v reading l) o = let k = legal_owned start before v count l o in record { count_is = k.count_is; own = k.own }
legal_owned start rs w count (steps before v new actor step l timely m) o = owned_next count actor step v new m (legal_owned start before v count l o)

opened_owned : (home away : Tables) (scripts : List SessionScript) → IsOwned (length scripts) (opened home away scripts)
opened_owned home away scripts = record {
  count_is = ap length (sessions-opened home away scripts) ∙ length-map scripts _;
  own = ap (list_all (is_own (length scripts))) (entries-opened home away scripts);
}

pub legal_entries_are_own : (home away : Tables) (scripts : List SessionScript) (h : History) → IsLegalHistory home away scripts h → AreOwn h
legal_entries_are_own home away scripts h (readings, legal) =
    let o = legal_owned (opened home away scripts) readings legal.end (length scripts) legal.legal (opened_owned home away scripts) in
    ap (λ n. list_all (is_own n) h.entries) (ap length legal.begins.scripts_are)
    ∙ sym (list_all-map (is_own (length scripts)) uncounted h.entries) ∙ ap (list_all (is_own (length scripts))) legal.entries_are ∙ o.own
