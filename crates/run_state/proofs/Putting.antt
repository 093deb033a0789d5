-- What an entry with its commits makes of a run.
use Rattle.std.proofs.Common.{◌≡◌, ℕ, ◌+◌, ◌≤◌, Bool, true, false, if◌then◌else◌, List, [], ◌∷◌, ◌++◌, Option, Result, sym, ap, ◌∙◌, arith, length}
use Rattle.std.specs.Prelude.{◌==◌, Ok, Err, OnOk, OnErr, map}
use Rattle.std.proofs.lemmas.List.{map-append, length_push}
use Rattle.queue_rows.specs.Session.{Session}
use Rattle.queue_rows.specs.World.{commits_in, uncounted, World, Database, Transit, committed, entry_of, opened_database, stepped}
use Rattle.queue_rows.specs.declared.change.Change.{Change}
use Rattle.queue_rows.specs.declared.history.Entry.{Entry}
use Rattle.queue_rows.specs.declared.history.SessionScript.{SessionScript}
use Rattle.queue_rows.specs.declared.history.Step.{Step}
use Rattle.queue_rows.specs.declared.tables.Tables.{Tables}
use Rattle.run_state.specs.CallEffects.{entered_call, holding}
use Rattle.run_state.specs.Entries.{AreCounted, HasNoCalls}
use Rattle.session_registry.specs.Sessions.{changed_at}
use Rattle.run_state.specs.declared.call_effect.Holdings.{Holdings}

-- the world of a run's parts
abbrev pub run_of : Database → Database → List SessionScript → List Session → Option Transit → ℕ → ℕ → ℕ → List Entry → World
run_of home away scripts sessions transit opening moment readings entries = record {
  home = home;
  away = away;
  scripts = scripts;
  sessions = sessions;
  transit = transit;
  opening = opening;
  moment = moment;
  readings = readings;
  entries = map uncounted entries;
}

abbrev pub new_entry : ℕ → ℕ → ℕ → List Change → List Change → Step → Entry
new_entry actor moment readings home away step = record { actor = actor; moment = moment; readings = readings; home_calls = 0; away_calls = 0; home = home; away = away; step = step }

entries_are : (w : World) (actor : ℕ) (home away : List Change) (step : Step) (before entries : List Entry) → w.entries ≡ map uncounted before → entries ≡ before ++ new_entry actor w.moment w.readings home away step ∷ []
    → map uncounted entries ≡ w.entries ++ entry_of actor w home away step ∷ []
entries_are w actor home away step before entries were added =
    let e = new_entry actor w.moment w.readings home away step in
    ap (map uncounted) added ∙ map-append uncounted before (e ∷ []) ∙ ap (λ es. es ++ e ∷ []) (sym were)

pub entered : (w : World) (actor : ℕ) (home away : List Change) (step : Step) (h a : Database) (before entries : List Entry) → w.entries ≡ map uncounted before
    → h ≡ committed home w.moment w.home → a ≡ committed away w.moment w.away → entries ≡ before ++ new_entry actor w.moment w.readings home away step ∷ []
    → record w { home = h; away = a; entries = map uncounted entries } ≡ stepped actor w home away step
unfolding stepped
entered w actor home away step h a before entries were at_home at_away added =
    ap (λ d. record w { home = d; away = a; entries = map uncounted entries }) at_home
    ∙ ap (λ d. record w { home = committed home w.moment w.home; away = d; entries = map uncounted entries }) at_away
    ∙ ap (λ es. record w { home = committed home w.moment w.home; away = committed away w.moment w.away; entries = es }) (entries_are w actor home away step before entries were added)

held : (i : ℕ) (w : World) (home away : List Change) (step : Step) (h : Holdings) (ss : List Session) → ss ≡ changed_at i (holding h) w.sessions → record (stepped i w home away step) { sessions = ss } ≡ entered_call i w home away step h
unfolding stepped
held i w home away step h ss is = ap (λ them. record (stepped i w home away step) { sessions = them }) is

pub entered_held : (w : World) (actor : ℕ) (home away : List Change) (step : Step) (holdings : Holdings) (h a : Database) (ss : List Session) (before entries : List Entry) → w.entries ≡ map uncounted before
    → h ≡ committed home w.moment w.home → a ≡ committed away w.moment w.away → ss ≡ changed_at actor (holding holdings) w.sessions → entries ≡ before ++ new_entry actor w.moment w.readings home away step ∷ []
    → record w { home = h; away = a; sessions = ss; entries = map uncounted entries } ≡ entered_call actor w home away step holdings
entered_held w actor home away step holdings h a ss before entries were at_home at_away now added =
    ap (λ (v : World). record v { sessions = ss }) (entered w actor home away step h a before entries were at_home at_away added)
    ∙ held actor w home away step holdings ss now

-- the same of an entry that is known by what it is
pub entered_by : (w : World) (actor : ℕ) (home away : List Change) (step : Step) (e : Entry) (h a : Database) (before entries : List Entry) → w.entries ≡ map uncounted before → e ≡ entry_of actor w home away step
    → h ≡ committed e.home e.moment w.home → a ≡ committed e.away e.moment w.away → entries ≡ before ++ e ∷ []
    → record w { home = h; away = a; entries = map uncounted entries } ≡ stepped actor w home away step
entered_by w actor home away step e h a before entries were is at_home at_away added =
    entered w actor home away step h a before entries were
    (at_home ∙ ap (λ (x : Entry). committed x.home x.moment w.home) is)
    (at_away ∙ ap (λ (x : Entry). committed x.away x.moment w.away) is)
    (added ∙ ap (λ (x : Entry). before ++ x ∷ []) is)

pub entered_held_by : (w : World) (actor : ℕ) (home away : List Change) (step : Step) (holdings : Holdings) (e : Entry) (h a : Database) (ss : List Session) (before entries : List Entry) → w.entries ≡ map uncounted before → e ≡ entry_of actor w home away step
    → h ≡ committed e.home e.moment w.home → a ≡ committed e.away e.moment w.away → ss ≡ changed_at e.actor (holding holdings) w.sessions → entries ≡ before ++ e ∷ []
    → record w { home = h; away = a; sessions = ss; entries = map uncounted entries } ≡ entered_call actor w home away step holdings
entered_held_by w actor home away step holdings e h a ss before entries were is at_home at_away now added =
    entered_held w actor home away step holdings h a ss before entries were
    (at_home ∙ ap (λ (x : Entry). committed x.home x.moment w.home) is)
    (at_away ∙ ap (λ (x : Entry). committed x.away x.moment w.away) is)
    (now ∙ ap (λ (x : Entry). changed_at x.actor (holding holdings) w.sessions) is)
    (added ∙ ap (λ (x : Entry). before ++ x ∷ []) is)

pub no_calls : (actor : ℕ) (w : World) (home away : List Change) (step : Step) (e : Entry) → e ≡ entry_of actor w home away step → HasNoCalls e
no_calls actor w home away step e is = (ap (λ (x : Entry). x.home_calls) is, ap (λ (x : Entry). x.away_calls) is)

-- nothing is committed
pub committed_none : (moment : ℕ) (d : Database) → committed [] moment d ≡ d
committed_none moment d = let none : d.made + 0 ≡ d.made = omega arith in ap (λ (n : ℕ). record d { made = n }) none

-- an entry that commits nothing is put in
pub noted_by : (w : World) (actor : ℕ) (step : Step) (e : Entry) (before entries : List Entry) → w.entries ≡ map uncounted before → e ≡ entry_of actor w [] [] step → entries ≡ before ++ e ∷ []
    → record w { entries = map uncounted entries } ≡ stepped actor w [] [] step
noted_by w actor step e before entries were is added =
    entered w actor [] [] step w.home w.away before entries were (sym (committed_none w.moment w.home)) (sym (committed_none w.moment w.away)) (added ∙ ap (λ (x : Entry). before ++ x ∷ []) is)

-- ---- each commit has its entry

few_if : (b : Bool) → (if b then 0 else 1) ≤ 1
few_if true = omega arith
few_if false = omega arith

commits_few : (cs : List Change) → commits_in cs ≤ 1
commits_few cs = few_if (length cs == 0)

counted_so : (home away : List Change) (moment : ℕ) (h a x y : Database) (before entries : List Entry) (e : Entry) → x ≡ committed home moment h → y ≡ committed away moment a → entries ≡ before ++ e ∷ []
    → AreCounted h.made a.made before → AreCounted x.made y.made entries
counted_so home away moment h a x y before entries e at_home at_away added k =
    let more = ap length added ∙ length_push before e in
    let at_h : x.made ≡ h.made + commits_in home = ap (λ (d : Database). d.made) at_home in
    let at_a : y.made ≡ a.made + commits_in away = ap (λ (d : Database). d.made) at_away in
    let few_h = commits_few home in
    let few_a = commits_few away in
    let old_h = k.home_made in
    let old_a = k.away_made in
    record { home_made = omega (arith, more, at_h, few_h, old_h); away_made = omega (arith, more, at_a, few_a, old_a) }

-- of an entry that commits nothing
pub counted_more : (h a : ℕ) (before entries : List Entry) (e : Entry) → entries ≡ before ++ e ∷ [] → AreCounted h a before → AreCounted h a entries
counted_more h a before entries e added k =
    let more = ap length added ∙ length_push before e in
    let old_h = k.home_made in
    let old_a = k.away_made in
    record { home_made = omega (arith, more, old_h); away_made = omega (arith, more, old_a) }

-- as a run begins
pub counted_opened : (h a : Database) (home away : Tables) (entries : List Entry) → h ≡ opened_database home → a ≡ opened_database away → AreCounted h.made a.made entries
counted_opened h a home away entries at_home at_away =
    let at_h : h.made ≡ 0 = ap (λ (d : Database). d.made) at_home in
    let at_a : a.made ≡ 0 = ap (λ (d : Database). d.made) at_away in
    record { home_made = omega (arith, at_h); away_made = omega (arith, at_a) }

counted_still : (h a x y : Database) (before entries : List Entry) → x ≡ h → y ≡ a → entries ≡ before → AreCounted h.made a.made before → AreCounted x.made y.made entries
counted_still h a x y before entries at_home at_away same k =
    let more = ap length same in
    let at_h : x.made ≡ h.made = ap (λ (d : Database). d.made) at_home in
    let at_a : y.made ≡ a.made = ap (λ (d : Database). d.made) at_away in
    let old_h = k.home_made in
    let old_a = k.away_made in
    record { home_made = omega (arith, more, at_h, old_h); away_made = omega (arith, more, at_a, old_a) }

pub counted_put : {T E : Type 0} (r : Result T E) (home away : List Change) (moment : ℕ) (h a x y : Database) (before entries : List Entry) (e : Entry)
    → OnOk r (x ≡ committed home moment h) → OnOk r (y ≡ committed away moment a) → OnOk r (entries ≡ before ++ e ∷ [])
    → OnErr r (x ≡ h) → OnErr r (y ≡ a) → OnErr r (entries ≡ before)
    → AreCounted h.made a.made before → AreCounted x.made y.made entries
counted_put (Ok z) home away moment h a x y before entries e p q s f g i k = counted_so home away moment h a x y before entries e p q s k
counted_put (Err z) home away moment h a x y before entries e p q s f g i k = counted_still h a x y before entries f g i k

-- ---- several facts of a result

pub ok_three : {T E : Type 0} {A B C D : Type 0} (r : Result T E) → OnOk r A → OnOk r B → OnOk r C → (A → B → C → D) → OnOk r D
ok_three (Ok x) a b c f = f a b c
ok_three (Err e) a b c f = _

pub ok_four : {T E : Type 0} {A B C D F : Type 0} (r : Result T E) → OnOk r A → OnOk r B → OnOk r C → OnOk r D → (A → B → C → D → F) → OnOk r F
ok_four (Ok x) a b c d f = f a b c d
ok_four (Err e) a b c d f = _

pub err_three : {T E : Type 0} {A B C D : Type 0} (r : Result T E) → OnErr r A → OnErr r B → OnErr r C → (A → B → C → D) → OnErr r D
err_three (Ok x) a b c f = _
err_three (Err e) a b c f = f a b c

pub err_four : {T E : Type 0} {A B C D F : Type 0} (r : Result T E) → OnErr r A → OnErr r B → OnErr r C → OnErr r D → (A → B → C → D → F) → OnErr r F
err_four (Ok x) a b c d f = _
err_four (Err e) a b c d f = f a b c d
