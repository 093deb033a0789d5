-- A run over its disks goes on with a step.
use Rattle.std.proofs.Common.{◌≡◌, ◌⊎◌, inl, inr, ◌≤◌, ◌-◌, ◌+◌, ◌++◌, ℕ, true, false, not, List, [], ◌∷◌, length, take, Option, None, IsSome, Result, refl, sym, ap, ◌∙◌, subst, arith}
use Rattle.std.specs.Prelude.{◌==◌, Ok, Err, OnOk, OnErr}
use Rattle.std.proofs.lemmas.List.{length_push}
use Rattle.aq_base.specs.declared.DbId.{DbId}
use Rattle.aq_base.specs.declared.DbId.TheVariants.{Home, Away}
use Rattle.queue_rows.specs.declared.tables.Tables.{Tables}
use Rattle.queue_rows.specs.declared.change.Change.{Change}
use Rattle.queue_rows.specs.declared.history.Entry.{Entry}
use Rattle.redo_journal.specs.Journaled.{Journaled}
use Rattle.crash_laws.specs.Crash.{Run, with_entry}
use Rattle.queue_rows.specs.World.{World}
use Rattle.run_state.specs.Promises.{promised}
use Rattle.run_state.specs.Reserved.{Reserved, HasPlaces}
use Rattle.run_state.proofs.Promises.{promised_few}
use Rattle.durable_state.specs.Brief.{AreBrief, EndsAt, IsBrief}
use Rattle.durable_state.specs.Counted.{with_calls, counted}
use Rattle.durable_state.specs.Going.{AddsEntries, Goes}
use Rattle.durable_state.specs.Held.{Held, HasFailed}
use Rattle.durable_state.specs.Queueing.{Enters, numbers, queued_of, taken_back, unqueueing}
use Rattle.durable_state.specs.Survival.{Begun, Survives, SurvivesAt, run_at}
use Rattle.durable_state.specs.Writing.{Flushes, Writes}
use Rattle.durable_state.specs.declared.disk_calls.DiskCalls.{DiskCalls}
use Rattle.durable_state.specs.declared.run_logs.Queued.{Queued}
use Rattle.durable_state.specs.declared.run_logs.RunLogs.{RunLogs}
use Rattle.durable_state.proofs.Brief.{ends_push, flush_push, quiet_push}
use Rattle.durable_state.proofs.Counts.{counted_push}
use Rattle.durable_state.proofs.Growing.{adds_one, adds_same}
use Rattle.durable_state.proofs.Lists.{take_pushed}
use Rattle.durable_state.proofs.Logging.{disk_queued, faults_queued, failed_queued, unqueued, has_queued}
use Rattle.durable_state.proofs.Worlds.{Adds}
use Rattle.durable_state.proofs.Writing.{not_failed}

-- what contracts see of a state with this world and these logs
abbrev pub held_of : {D : Type 0} → World → RunLogs D → Held D
held_of w l = record { world = w; entries = counted w.entries l.calls.items; home = l.home; away = l.away }

-- what contracts see of a state with this world, these logs and these call numbers
abbrev parts_of : {D : Type 0} → World → Journaled D → Journaled D → List DiskCalls → Held D
parts_of w home away calls = record { world = w; entries = counted w.entries calls; home = home; away = away }

same_parts : {D : Type 0} (w : World) (l n : RunLogs D) → n.home ≡ l.home → n.away ≡ l.away → n.calls.items ≡ l.calls.items → held_of w n ≡ held_of w l
same_parts w l n home away items =
    ap (λ (j : Journaled _). parts_of w j n.away n.calls.items) home
    ∙ ap (λ (j : Journaled _). parts_of w l.home j n.calls.items) away
    ∙ ap (parts_of w l.home l.away) items

-- ---- the run with an entry more

abbrev run_with : DbId → Tables → ℕ → List Entry → Run
run_with db opening start entries = record { db = db; opening = opening; start = start; entries = entries }

run_more : (db : DbId) (start : ℕ) (opening was : Tables) (entries before : List Entry) (e : Entry) → opening ≡ was → entries ≡ before ++ e ∷ []
    → run_with db opening start entries ≡ with_entry e (run_with db was start before)
run_more db start opening was entries before e same more =
    ap (λ (t : Tables). run_with db t start entries) same ∙ ap (λ (es : List Entry). run_with db was start es) more

entries_more : (w v : World) (calls more : List DiskCalls) (e : Entry) (c : DiskCalls) → length calls ≡ length w.entries → v.entries ≡ w.entries ++ e ∷ [] → more ≡ calls ++ c ∷ []
    → counted v.entries more ≡ counted w.entries calls ++ with_calls c e ∷ []
entries_more w v calls more e c few one two =
    ap (λ (es : List Entry). counted es more) one ∙ ap (counted (w.entries ++ e ∷ [])) two ∙ counted_push w.entries calls e c few

pub still_counted : (w v : World) (calls more : List DiskCalls) (e : Entry) (c : DiskCalls) → length calls ≡ length w.entries → v.entries ≡ w.entries ++ e ∷ [] → more ≡ calls ++ c ∷ []
    → length more ≡ length v.entries
still_counted w v calls more e c few one two =
    let a = ap length one ∙ length_push w.entries e in
    let b = ap length two ∙ length_push calls c in
    omega (arith, a, b, few)

module _ {D : Type 0} (seen : D → Option (List ℕ)) (images : D → ℕ → List ℕ → Type 0) (calls faults : D → ℕ) where
  -- ---- the logs have an entry more

  module _ (actor moment : ℕ) (home away : List Change) (w v : World) (l m : RunLogs D) (few : length l.calls.items ≡ length w.entries) (now : moment ≡ w.moment) (a : Adds actor false home away w v) (x : Enters seen images calls moment home away l m) where
    abbrev e : Entry
    e = with_calls (numbers calls l) a.entry

    entries : counted v.entries m.calls.items ≡ counted w.entries l.calls.items ++ e ∷ []
    entries = entries_more w v l.calls.items m.calls.items a.entry (numbers calls l) few a.entries x.calls_are

    pub entry_goes : Goes seen images calls faults (held_of w l) (held_of v m)
    entry_goes = record {
      on = λ b s. record {
        home = subst (λ (r : Run). SurvivesAt seen images calls b.home r m.home) (sym (run_more Home (calls b.home) v.home.opening w.home.opening (counted v.entries m.calls.items) (counted w.entries l.calls.items) e a.home_opening entries))
            (x.home_log.comes b.home (run_at Home (calls b.home) (held_of w l)) e (record { quiet = a.is; moment_is = a.moment_is ∙ sym now; changes = a.home_is; number_is = refl }) s.home);
        away = subst (λ (r : Run). SurvivesAt seen images calls b.away r m.away) (sym (run_more Away (calls b.away) v.away.opening w.away.opening (counted v.entries m.calls.items) (counted w.entries l.calls.items) e a.away_opening entries))
            (x.away_log.comes b.away (run_at Away (calls b.away) (held_of w l)) e (record { quiet = a.is; moment_is = a.moment_is ∙ sym now; changes = a.away_is; number_is = refl }) s.away);
        home_faults = faults_queued faults b.home moment home l.home m.home x.home_log.is s.home_faults;
        away_faults = faults_queued faults b.away moment away l.away m.away x.away_log.is s.away_faults;
      };
    }

    pub entry_adds : AddsEntries actor (held_of w l) (held_of v m)
    entry_adds = adds_one (held_of w l) (held_of v m) e a.by entries (λ b. subst AreBrief (sym entries) (quiet_push (counted w.entries l.calls.items) e a.is b))

    pub entry_brief : IsBrief calls (held_of w l) → IsBrief calls (held_of v m)
    entry_brief b = record {
      flushes = subst AreBrief (sym entries) (quiet_push (counted w.entries l.calls.items) e a.is b.flushes);
      present = inr (subst (EndsAt (calls m.home.disk) (calls m.away.disk)) (sym entries) (ends_push (calls m.home.disk) (calls m.away.disk) e
          (sym (ap calls (disk_queued moment home l.home m.home x.home_log.is))) (sym (ap calls (disk_queued moment away l.away m.away x.away_log.is))) (counted w.entries l.calls.items)));
    }

    pub failed_on : HasFailed (held_of v m) → HasFailed (held_of w l)
    failed_on (inl h) = inl (subst (λ (o : Option ℕ). IsSome o) (failed_queued moment home l.home m.home x.home_log.is) h)
    failed_on (inr h) = inr (subst (λ (o : Option ℕ). IsSome o) (failed_queued moment away l.away m.away x.away_log.is) h)

  -- ---- an entry is taken back

  module _ (moment : ℕ) (home away : List Change) (l m : RunLogs D) (x : Enters seen images calls moment home away l m) where
    home_back : (taken_back (queued_of home away) m).home ≡ l.home
    home_back = ap (unqueueing (not (length home == 0))) x.home_log.is ∙ unqueued moment home l.home

    away_back : (taken_back (queued_of home away) m).away ≡ l.away
    away_back = ap (unqueueing (not (length away == 0))) x.away_log.is ∙ unqueued moment away l.away

    calls_back : (taken_back (queued_of home away) m).calls.items ≡ l.calls.items
    calls_back = ap (λ (cs : List DiskCalls). take (length cs - 1) cs) x.calls_are ∙ take_pushed l.calls.items (numbers calls l)

    -- the call numbers take no more room than with it
    room_back : (n : ℕ) → HasPlaces n m.calls → HasPlaces n (taken_back (queued_of home away) m).calls
    room_back n room =
        let back = ap length calls_back in
        let more = ap length x.calls_are ∙ length_push l.calls.items (numbers calls l) in
        omega (arith, room, back, more)

    -- what is to be taken back is there
    pub home_there : (queued : Queued) → queued ≡ queued_of home away → queued.home ≡ true → 1 ≤ length m.home.queued
    home_there queued is has =
        let h : not (length home == 0) ≡ true = sym (ap (λ (q : Queued). q.home) is) ∙ has in
        subst (λ (j : Journaled D). 1 ≤ length j.queued) (sym x.home_log.is) (has_queued moment home l.home h)

    pub away_there : (queued : Queued) → queued ≡ queued_of home away → queued.away ≡ true → 1 ≤ length m.away.queued
    away_there queued is has =
        let h : not (length away == 0) ≡ true = sym (ap (λ (q : Queued). q.away) is) ∙ has in
        subst (λ (j : Journaled D). 1 ≤ length j.queued) (sym x.away_log.is) (has_queued moment away l.away h)

  -- ---- a step that was made, or not

  -- the state behind it goes on from that before it
  pub record Follows (actor : ℕ) (w v : World) (l n : RunLogs D) : Type 0 where
    pub few : length n.calls.items ≡ length v.entries
    pub room : HasPlaces (promised v) n.calls
    pub goes : Goes seen images calls faults (held_of w l) (held_of v n)
    pub adds : AddsEntries actor (held_of w l) (held_of v n)
    pub brief : IsBrief calls (held_of v n)
    pub fine : HasFailed (held_of v n) → HasFailed (held_of w l)

  follows_back : (actor : ℕ) (w : World) (l n : RunLogs D) → length l.calls.items ≡ length w.entries → IsBrief calls (held_of w l) → HasPlaces (promised w) n.calls
      → n.home ≡ l.home → n.away ≡ l.away → n.calls.items ≡ l.calls.items → Follows actor w w l n
  follows_back actor w l n few brief room home away items =
      let same = same_parts w l n home away items in
      record {
        few = ap length items ∙ few;
        room = room;
        goes = record { on = λ b s. subst (Survives seen images calls faults b) (sym same) s };
        adds = adds_same (held_of w l) (held_of w n) same;
        brief = subst (IsBrief calls) (sym same) brief;
        fine = λ h. subst (λ (o : Held D). HasFailed o) same h;
      }

  -- where so many are promised there is room for what is
  room_for : (v : World) (n : ℕ) (l : Reserved DiskCalls) → length v.sessions ≡ n → HasPlaces (n + 1) l → HasPlaces (promised v) l
  room_for v n l many room = let few = promised_few v.home v.away v.sessions in omega (arith, few, many, room)

  pub follows : {T E : Type 0} (made : Result T E) (actor moment : ℕ) (home away : List Change) (queued : Queued) (w v : World) (l m n : RunLogs D) → length l.calls.items ≡ length w.entries → IsBrief calls (held_of w l) → moment ≡ w.moment
      → queued ≡ queued_of home away → Enters seen images calls moment home away l m → HasPlaces (length w.sessions + 1) m.calls → OnOk made (n ≡ m) → OnErr made (n ≡ taken_back queued m)
      → OnOk made (Adds actor false home away w v) → OnErr made (v ≡ w) → Follows actor w v l n
  follows (Ok y) actor moment home away queued w v l m n few brief now are x room ok err added same =
      subst (λ (o : RunLogs D). Follows actor w v l o) (sym ok) (record {
        few = still_counted w v l.calls.items m.calls.items added.entry (numbers calls l) few added.entries x.calls_are;
        room = room_for v (length w.sessions) m.calls added.count room;
        goes = entry_goes actor moment home away w v l m few now added x;
        adds = entry_adds actor moment home away w v l m few now added x;
        brief = entry_brief actor moment home away w v l m few now added x brief;
        fine = failed_on actor moment home away w v l m few now added x;
      })
  follows (Err y) actor moment home away queued w v l m n few brief now are x room ok err added same =
      let back : n ≡ taken_back (queued_of home away) m = err ∙ ap (λ (q : Queued). taken_back q m) are in
      subst (λ (u : World). Follows actor w u l n) (sym same) (subst (λ (o : RunLogs D). Follows actor w w l o) (sym back)
      (follows_back actor w l (taken_back (queued_of home away) m) few brief
      (room_for w (length w.sessions) (taken_back (queued_of home away) m).calls refl (room_back moment home away l m x (length w.sessions + 1) room))
      (home_back moment home away l m x) (away_back moment home away l m x) (calls_back moment home away l m x)))

  -- an entry that commits nothing took a place that was promised
  pub follows_passed : (actor : ℕ) (w v : World) (l n : RunLogs D) → length l.calls.items ≡ length w.entries → IsBrief calls (held_of w l) → HasPlaces (promised w) l.calls → promised v + 1 ≤ promised w → l.calls.capacity ≤ n.calls.capacity
      → Enters seen images calls w.moment [] [] l n → Adds actor false [] [] w v → Follows actor w v l n
  follows_passed actor w v l n few brief room less most x added =
      let more = ap length x.calls_are ∙ length_push l.calls.items (numbers calls l) in
      record {
        few = still_counted w v l.calls.items n.calls.items added.entry (numbers calls l) few added.entries x.calls_are;
        room = omega (arith, room, less, most, more);
        goes = entry_goes actor w.moment [] [] w v l n few refl added x;
        adds = entry_adds actor w.moment [] [] w v l n few refl added x;
        brief = entry_brief actor w.moment [] [] w v l n few refl added x brief;
        fine = failed_on actor w.moment [] [] w v l n few refl added x;
      }

  -- a step without an entry
  pub still_goes : (w v : World) (l : RunLogs D) → v.entries ≡ w.entries → v.home.opening ≡ w.home.opening → v.away.opening ≡ w.away.opening → Goes seen images calls faults (held_of w l) (held_of v l)
  still_goes w v l same home away = record {
    on = λ b s. record {
      home = subst (λ (r : Run). SurvivesAt seen images calls b.home r l.home)
          (sym (ap (λ (t : Tables). run_with Home t (calls b.home) (counted v.entries l.calls.items)) home ∙ ap (λ (es : List Entry). run_with Home w.home.opening (calls b.home) (counted es l.calls.items)) same)) s.home;
      away = subst (λ (r : Run). SurvivesAt seen images calls b.away r l.away)
          (sym (ap (λ (t : Tables). run_with Away t (calls b.away) (counted v.entries l.calls.items)) away ∙ ap (λ (es : List Entry). run_with Away w.away.opening (calls b.away) (counted es l.calls.items)) same)) s.away;
      home_faults = s.home_faults;
      away_faults = s.away_faults;
    };
  }

  -- ---- flushes

  -- no call failed
  present_now : (l : RunLogs D) (es : List Entry) → l.home.failed_at ≡ None → l.away.failed_at ≡ None → (IsSome l.home.failed_at ⊎ IsSome l.away.failed_at) ⊎ EndsAt (calls l.home.disk) (calls l.away.disk) es
      → EndsAt (calls l.home.disk) (calls l.away.disk) es
  present_now l es home away (inl (inl h)) = not_failed l.home.failed_at home h
  present_now l es home away (inl (inr h)) = not_failed l.away.failed_at away h
  present_now l es home away (inr ends) = ends

  -- a call failed
  pub failed_brief : (w : World) (l m : RunLogs D) → m.calls.items ≡ l.calls.items → HasFailed (held_of w m) → IsBrief calls (held_of w l) → IsBrief calls (held_of w m)
  failed_brief w l m same failed b = record { flushes = subst (λ (cs : List DiskCalls). AreBrief (counted w.entries cs)) (sym same) b.flushes; present = inl failed }

  -- the calls of the disks
  pub calls_go : (w : World) (l m : RunLogs D) → m.calls.items ≡ l.calls.items → Writes seen images calls faults l.home m.home → Writes seen images calls faults l.away m.away
      → Goes seen images calls faults (held_of w l) (held_of w m)
  calls_go w l m same home away = record {
    on = λ b s. record {
      home = subst (λ (cs : List DiskCalls). SurvivesAt seen images calls b.home (run_with Home w.home.opening (calls b.home) (counted w.entries cs)) m.home) (sym same)
          (home.stands b.home (run_at Home (calls b.home) (held_of w l)) s.home);
      away = subst (λ (cs : List DiskCalls). SurvivesAt seen images calls b.away (run_with Away w.away.opening (calls b.away) (counted w.entries cs)) m.away) (sym same)
          (away.stands b.away (run_at Away (calls b.away) (held_of w l)) s.away);
      home_faults = home.faults_are b.home s.home_faults;
      away_faults = away.faults_are b.away s.away_faults;
    };
  }

  -- all is written, and the flush has its entry
  module _ (actor : ℕ) (w v : World) (l m n : RunLogs D) (few : length l.calls.items ≡ length w.entries) (same : m.calls.items ≡ l.calls.items)
      (home_same : n.home ≡ m.home) (away_same : n.away ≡ m.away) (counts : n.calls.items ≡ m.calls.items ++ numbers calls m ∷ []) (a : Adds actor true [] [] w v)
      (home : Writes seen images calls faults l.home m.home) (away : Writes seen images calls faults l.away m.away)
      (home_flush : Flushes seen images calls l.home m.home) (away_flush : Flushes seen images calls l.away m.away) where
    abbrev f : Entry
    f = with_calls (numbers calls m) a.entry

    calls_more : n.calls.items ≡ l.calls.items ++ numbers calls m ∷ []
    calls_more = counts ∙ ap (λ (cs : List DiskCalls). cs ++ numbers calls m ∷ []) same

    pub flush_counted : length n.calls.items ≡ length v.entries
    flush_counted = still_counted w v l.calls.items n.calls.items a.entry (numbers calls m) few a.entries calls_more

    flush_entries : counted v.entries n.calls.items ≡ counted w.entries l.calls.items ++ f ∷ []
    flush_entries = entries_more w v l.calls.items n.calls.items a.entry (numbers calls m) few a.entries calls_more

    flush_on : (b : Begun D) → Survives seen images calls faults b (held_of w l) → Survives seen images calls faults b (parts_of v m.home m.away n.calls.items)
    flush_on b s = record {
      home = subst (λ (r : Run). SurvivesAt seen images calls b.home r m.home) (sym (run_more Home (calls b.home) v.home.opening w.home.opening (counted v.entries n.calls.items) (counted w.entries l.calls.items) f a.home_opening flush_entries))
          (home_flush.comes b.home (run_at Home (calls b.home) (held_of w l)) f (record { flush = a.is; changes = a.home_is; number_is = refl }) s.home);
      away = subst (λ (r : Run). SurvivesAt seen images calls b.away r m.away) (sym (run_more Away (calls b.away) v.away.opening w.away.opening (counted v.entries n.calls.items) (counted w.entries l.calls.items) f a.away_opening flush_entries))
          (away_flush.comes b.away (run_at Away (calls b.away) (held_of w l)) f (record { flush = a.is; changes = a.away_is; number_is = refl }) s.away);
      home_faults = home.faults_are b.home s.home_faults;
      away_faults = away.faults_are b.away s.away_faults;
    }

    flush_held : held_of v n ≡ parts_of v m.home m.away n.calls.items
    flush_held = ap (λ (j : Journaled D). parts_of v j n.away n.calls.items) home_same ∙ ap (λ (j : Journaled D). parts_of v m.home j n.calls.items) away_same

    pub flush_goes : Goes seen images calls faults (held_of w l) (held_of v n)
    flush_goes = record { on = λ b s. subst (Survives seen images calls faults b) (sym flush_held) (flush_on b s) }

    -- no call was made behind the last entry, and the flush made few
    pub flush_brief : IsBrief calls (held_of w l) → l.home.failed_at ≡ None → l.away.failed_at ≡ None → calls m.home.disk ≤ calls l.home.disk + 4 → calls m.away.disk ≤ calls l.away.disk + 4
        → IsBrief calls (held_of v n)
    flush_brief b fine_home fine_away few_home few_away = record {
      flushes = subst AreBrief (sym flush_entries) (flush_push (calls l.home.disk) (calls l.away.disk) f few_home few_away (counted w.entries l.calls.items) b.flushes (present_now l (counted w.entries l.calls.items) fine_home fine_away b.present));
      present = inr (subst (EndsAt (calls n.home.disk) (calls n.away.disk)) (sym flush_entries) (ends_push (calls n.home.disk) (calls n.away.disk) f
          (ap (λ (j : Journaled D). calls j.disk) (sym home_same)) (ap (λ (j : Journaled D). calls j.disk) (sym away_same)) (counted w.entries l.calls.items)));
    }

    pub flush_adds : IsBrief calls (held_of v n) → AddsEntries actor (held_of w l) (held_of v n)
    flush_adds b = adds_one (held_of w l) (held_of v n) f a.by flush_entries (λ _. b.flushes)

    -- the places that are promised are still there, but for that of the flush
    pub flush_room : (old new : ℕ) → new + 1 ≤ old → HasPlaces old l.calls → l.calls.capacity ≤ n.calls.capacity → HasPlaces new n.calls
    flush_room old new less room most =
        let more = ap length calls_more ∙ length_push l.calls.items (numbers calls m) in
        omega (arith, less, room, most, more)
