-- When a reply is told, what was committed up to its call is durable.
use Rattle.std.proofs.Common.{◌≡◌, ◌≢◌, ◌≤◌, ◌+◌, ◌⊎◌, inl, inr, ℕ, List, [], ◌∷◌, ◌++◌, Bool, true, false, refl, sym, ap, ◌∙◌, subst, arith, Some, None, ◌==◌, ◌&&◌}
use Rattle.std.specs.Prelude.{slice_get, slice_set, map}
use Rattle.std.proofs.lemmas.Bool.{eqb-true, and_parts, false≢true, true≢false}
use Rattle.std.proofs.lemmas.Option.{none-some, slice_get_within}
use Rattle.std.proofs.lemmas.List.{map-append, append_assoc}
use Rattle.aq_base.specs.declared.DbId.{DbId}
use Rattle.aq_base.specs.declared.DbId.TheVariants.{Home, Away}
use Rattle.queue_rows.specs.Session.{Session, Untold}
use Rattle.queue_rows.specs.World.{commits_in, uncounted, World, database_at, opened, read_clock}
use Rattle.queue_rows.specs.declared.tables.Tables.{Tables}
use Rattle.queue_rows.specs.declared.change.Change.{Change}
use Rattle.queue_rows.specs.declared.history.Entry.{Entry}
use Rattle.queue_rows.specs.declared.history.History.{History}
use Rattle.queue_rows.specs.declared.history.SessionScript.{SessionScript}
use Rattle.queue_rows.specs.declared.history.Step.{Step}
use Rattle.queue_rows.specs.declared.history.Step.TheVariants.{Call, Park, Timer, Offer, Arrive, Confirm, Told, Flush, End}
use Rattle.queue_rows.specs.declared.reply.Reply.{Reply}
use Rattle.queue_rows.proofs.Sessions.{get_set-cases}
use Rattle.history_laws.specs.Durability.{is_flush, until_flush, made, durable, is_call_step, is_call, is_told_step, is_told, ToldIsDurable}
use Rattle.history_laws.proofs.Commits.{count-more, last_or_before, no_items}
use Rattle.history_laws.proofs.Telling.{until-flush, until-other, made_first, told_quiet, noted_one, no_call, no_told, other_call, until_uncounted, made_uncounted, untold_at, AreNoted, AreTold}
use Rattle.queue_rows.specs.Turns.{untold_in, having_called, called}
use Rattle.queue_rows.specs.Legal.{MayStep, IsLegal, opens, reads, steps, IsLegalHistory}
use Rattle.run_laws.proofs.Positions.{WasAt, was_at}
use Rattle.run_laws.proofs.Stepping.{world_at, call_sessions}
use Rattle.run_turns.proofs.Sounding.{StaysDurable}
use Rattle.run_fates.proofs.Leading.{Led, step_led, AllDurable, step_stays, step_flushes, HadUntold, step_untold}

-- ---- the numbers of a database

-- they are those of the entries
pub record IsCounted (db : DbId) (w : World) : Type 0 where
  pub made_is : (database_at db w).made ≡ made db w.entries
  pub durable_is : (database_at db w).durable ≡ durable db w.entries

still_counted : (db : DbId) (actor : ℕ) (step : Step) (w new : World) → Led actor step w new → (is_flush step ≡ true → AllDurable db new) → (is_flush step ≡ false → StaysDurable w new) → IsCounted db w → IsCounted db new
still_counted db actor step w new l flushes stays k = record { made_is = all; durable_is = by (is_flush step) refl }
  where
    all : (database_at db new).made ≡ made db new.entries
    all =
        let a = l.leads.count db in
        let c = ap commits_in (l.leads.changes db) in
        let b = k.made_is in
        let d = count-more db w.entries l.leads.entry in
        let e = ap (made db) l.leads.entries in
        omega (arith, a, c, b, d, e)

    by : (b : Bool) → is_flush step ≡ b → (database_at db new).durable ≡ durable db new.entries
    by true f =
        (flushes f).made ∙ all ∙ ap (made db) (l.leads.entries ∙ sym (until-flush w.entries l.leads.entry (ap is_flush l.step_is ∙ f))) ∙ ap (durable db) (sym l.leads.entries)
    by false f =
        (stays f).durable db ∙ k.durable_is ∙ ap (made db) (sym (until-other w.entries l.leads.entry (ap is_flush l.step_is ∙ f))) ∙ ap (durable db) (sym l.leads.entries)

pub record IsKept (w : World) : Type 0 where
  pub counted : (db : DbId) → IsCounted db w
  pub noted : AreNoted w.entries w.sessions
  pub told : AreTold w.entries

-- ---- what is to be told

-- a step that calls nothing
quiet_noted : (actor : ℕ) (step : Step) (w new : World) → Led actor step w new → ((n : ℕ) → is_call_step n step ≡ false) → HadUntold w new → AreNoted w.entries w.sessions → AreNoted new.entries new.sessions
quiet_noted actor step w new l calls had k j y u there told db before call more q c =
    let x = had j y u there told in
    noted_one w.entries l.leads.entry j u (no_call j u.number l.leads.entry (ap (is_call_step u.number) l.step_is ∙ calls u.number)) (k j x.before u x.there x.told) db before call more (sym l.leads.entries ∙ q) c

-- a call
module _ (w : World) (i : ℕ) (s : Session) (reply : Reply) (cs : List Change) (after : Session) where
  abbrev behind : Session
  behind = having_called (world_at w i s reply cs after s.at) s after

  noted_at : (db : DbId) (u : Untold) → behind.untold ≡ Some u → (database_at db (called i s reply cs after w)).made ≡ untold_at db u
  noted_at Home u e = let same : untold_in (world_at w i s reply cs after s.at) s ≡ u = (let a : Some (untold_in (world_at w i s reply cs after s.at) s) ≡ Some u = e in cc) in ap (untold_at Home) same
  noted_at Away u e = let same : untold_in (world_at w i s reply cs after s.at) s ≡ u = (let a : Some (untold_in (world_at w i s reply cs after s.at) s) ≡ Some u = e in cc) in ap (untold_at Away) same

  call_noted : Led i (Call (s.next + 1) reply) w (called i s reply cs after w) → ((db : DbId) → IsCounted db (called i s reply cs after w)) → slice_get w.sessions i ≡ Some s → AreNoted w.entries w.sessions
      → AreNoted (called i s reply cs after w).entries (called i s reply cs after w).sessions
  call_noted l counted at k j y u there told db before call more q c = of_was (was_at s.at cs (slice_set w.sessions i behind) j y (ap (λ xs. slice_get xs j) (sym (call_sessions w i s reply cs after s.at)) ∙ there))
    where
      own : behind.untold ≡ Some u → made db (before ++ call ∷ []) ≤ untold_at db u
      own e =
          let le = made_first db (before ++ call ∷ []) more in
          let whole : made db ((before ++ call ∷ []) ++ more) ≡ made db (called i s reply cs after w).entries = ap (made db) (append_assoc before (call ∷ []) more ∙ sym q) in
          let all = (counted db).made_is in
          let so = noted_at db u e in
          omega (arith, le, whole, all, so)

      by : (z : Session) → z.untold ≡ Some u → ((j ≡ i) × (Some behind ≡ Some z)) ⊎ ((j ≢ i) × (slice_get w.sessions j ≡ Some z)) → made db (before ++ call ∷ []) ≤ untold_at db u
      by z e (inl p) = let same : behind ≡ z = (let a : Some behind ≡ Some z = p.1 in cc) in own (ap (λ x. x.untold) same ∙ e)
      by z e (inr p) = noted_one w.entries l.leads.entry j u (other_call j i u.number l.leads.entry l.made_by p.0) (k j z u p.1 e) db before call more (sym l.leads.entries ∙ q) c

      of_was : WasAt (slice_set w.sessions i behind) j y → made db (before ++ call ∷ []) ≤ untold_at db u
      of_was z = by z.before (ap (λ x. x.untold) (sym z.now) ∙ told) (get_set-cases w.sessions i j behind z.before (slice_get_within w.sessions i s at) z.there)

-- ---- what was told

-- a step that tells nothing
quiet_told : (actor : ℕ) (step : Step) (w new : World) → Led actor step w new → ((n : ℕ) → is_told_step n step ≡ false) → AreTold w.entries → AreTold new.entries
quiet_told actor step w new l tells k =
    subst AreTold (sym l.leads.entries) (told_quiet w.entries l.leads.entry (λ a n. no_told a n l.leads.entry (ap (is_told_step n) l.step_is ∙ tells n)) k)

-- what is told now is durable
told_now : (w new : World) (i number : ℕ) (s : Session) (untold : Untold) → Led i (Told number) w new → number ≡ untold.number → IsKept w → slice_get w.sessions i ≡ Some s → s.untold ≡ Some untold → untold.home ≤ w.home.durable → untold.away ≤ w.away.durable → AreTold new.entries
told_now w new i number s untold l is k there called home away = subst AreTold (sym l.leads.entries) now
  where
    least : (d : DbId) → untold_at d untold ≤ (database_at d w).durable
    least Home = home
    least Away = away

    now : AreTold (w.entries ++ l.leads.entry ∷ [])
    now db a n front tells rest q t before call more f c = by (last_or_before w.entries l.leads.entry front tells rest q)
      where
        by : ((front ≡ w.entries) × (tells ≡ l.leads.entry)) ⊎ ((later : List Entry) × (w.entries ≡ front ++ tells ∷ later)) → made db (before ++ call ∷ []) ≤ durable db front
        by (inr p) = k.told db a n front tells p.0 p.1 t before call more f c
        by (inl p) =
            let entry = l.leads.entry in
            let told_so : ((i == a) && (number == n)) ≡ true = ap (λ x. (i == a) && is_told_step n x) (sym l.step_is) ∙ ap (λ x. (x == a) && is_told_step n entry.step) (sym l.made_by) ∙ sym (ap (is_told a n) p.1) ∙ t in
            let parts = and_parts (i == a) (number == n) told_so in
            let actor : i ≡ a = eqb-true i a parts.0 in
            let its : untold.number ≡ n = sym is ∙ eqb-true number n parts.1 in
            let called_so : is_call i untold.number call ≡ true = ap (λ x. is_call x untold.number call) actor ∙ ap (λ x. is_call a x call) its ∙ c in
            let noted = k.noted i s untold there called db before call more (sym p.0 ∙ f) called_so in
            let le = least db in
            let so = (k.counted db).durable_is in
            let all : durable db front ≡ durable db w.entries = ap (durable db) p.0 in
            omega (arith, noted, le, so, all)

-- ---- steps

kept : (w new : World) (actor : ℕ) (step : Step) → IsKept w → MayStep actor step w new → AreNoted new.entries new.sessions → AreTold new.entries → IsKept new
kept w new actor step k m noted told = record {
  counted = λ db. still_counted db actor step w new (step_led w new actor step m) (λ f. step_flushes w new actor step m f db) (step_stays w new actor step m) (k.counted db);
  noted = noted;
  told = told;
}

-- a step that is neither a call nor tells
quiet_kept : (w new : World) (actor : ℕ) (step : Step) → IsKept w → MayStep actor step w new → ((n : ℕ) → is_call_step n step ≡ false) → ((n : ℕ) (reply : Reply) → step ≢ Call n reply) → ((n : ℕ) → is_told_step n step ≡ false) → IsKept new
quiet_kept w new actor step k m calls call tells =
    let l = step_led w new actor step m in
    kept w new actor step k m (quiet_noted actor step w new l calls (step_untold w new actor step m call) k.noted) (quiet_told actor step w new l tells k.told)

abbrev is_any_call : Step → Bool
is_any_call (Call n reply) = true
is_any_call _ = false

never : (step : Step) → is_any_call step ≡ false → (n : ℕ) (reply : Reply) → step ≢ Call n reply
never step f n reply e = true≢false (sym (ap is_any_call e) ∙ f)

call_kept : (w new : World) (i : ℕ) (s after : Session) (reply : Reply) (cs : List Change) → new ≡ called i s reply cs after w → slice_get w.sessions i ≡ Some s → IsKept w → MayStep i (Call (s.next + 1) reply) w new → IsKept new
call_kept w new i s after reply cs same there k m = kept w new i (Call (s.next + 1) reply) k m noted (quiet_told i (Call (s.next + 1) reply) w new l (λ n. refl) k.told)
  where
    l : Led i (Call (s.next + 1) reply) w new
    l = step_led w new i (Call (s.next + 1) reply) m

    counted : (db : DbId) → IsCounted db new
    counted db = still_counted db i (Call (s.next + 1) reply) w new l (λ f. step_flushes w new i (Call (s.next + 1) reply) m f db) (step_stays w new i (Call (s.next + 1) reply) m) (k.counted db)

    noted : AreNoted new.entries new.sessions
    noted =
        subst (λ x. AreNoted x.entries x.sessions) (sym same)
        (call_noted w i s reply cs after (subst (λ x. Led i (Call (s.next + 1) reply) w x) same l) (λ db. subst (IsCounted db) same (counted db)) there k.noted)

step_kept : (w new : World) (actor : ℕ) (step : Step) → IsKept w → MayStep actor step w new → IsKept new
step_kept w new i (Call number reply) k m =
    call_kept w new i m.session m.after reply m.changes m.calls.result m.calls.ready.there k (subst (λ n. MayStep i (Call n reply) w new) m.number_is m)
step_kept w new i (Told number) k m =
    let l = step_led w new i (Told number) m in
    let t = m.tells in
    kept w new i (Told number) k m
    (quiet_noted i (Told number) w new l (λ n. refl) (step_untold w new i (Told number) m (never (Told number) refl)) k.noted)
    (told_now w new i number m.session m.untold l m.number_is k t.there t.called t.home_durable t.away_durable)
step_kept w new i (Park number) k m = quiet_kept w new i (Park number) k m (λ n. refl) (never (Park number) refl) (λ n. refl)
step_kept w new i Flush k m = quiet_kept w new i Flush k m (λ n. refl) (never Flush refl) (λ n. refl)
step_kept w new i End k m = quiet_kept w new i End k m (λ n. refl) (never End refl) (λ n. refl)
step_kept w new i Timer k m = quiet_kept w new i Timer k m (λ n. refl) (never Timer refl) (λ n. refl)
step_kept w new i (Offer at to) k m = quiet_kept w new i (Offer at to) k m (λ n. refl) (never (Offer at to) refl) (λ n. refl)
step_kept w new i (Arrive at outcome) k m = quiet_kept w new i (Arrive at outcome) k m (λ n. refl) (never (Arrive at outcome) refl) (λ n. refl)
step_kept w new i (Confirm at) k m = quiet_kept w new i (Confirm at) k m (λ n. refl) (never (Confirm at) refl) (λ n. refl)

-- ---- every legal world

read_counted : (w : World) (reading : ℕ) (db : DbId) → IsCounted db w → IsCounted db (read_clock reading w)
unfolding read_clock
read_counted w reading Home k = record { made_is = k.made_is; durable_is = k.durable_is }
read_counted w reading Away k = record { made_is = k.made_is; durable_is = k.durable_is }

read_kept : (w : World) (reading : ℕ) → IsKept w → IsKept (read_clock reading w)
unfolding read_clock
read_kept w reading k = record { counted = λ db. read_counted w reading db (k.counted db); noted = k.noted; told = k.told }

pub legal_kept : (start : World) → IsKept start → (readings : List ℕ) (w : World) → IsLegal start readings w → IsKept w
legal_kept start k readings w opens = k
legal_kept start k readings w (reads before u reading legal) = read_kept u reading (legal_kept start k before u legal)
legal_kept start k readings w (steps same u new actor step legal timely may) = step_kept u new actor step (legal_kept start k same u legal) may

opened_counted : (home away : Tables) (scripts : List SessionScript) (db : DbId) → IsCounted db (opened home away scripts)
unfolding opened
opened_counted home away scripts Home = record { made_is = refl; durable_is = refl }
opened_counted home away scripts Away = record { made_is = refl; durable_is = refl }

pub opened_kept : (home away : Tables) (scripts : List SessionScript) → IsKept (opened home away scripts)
unfolding opened
opened_kept home away scripts = record {
  counted = opened_counted home away scripts;
  noted = λ j s u e f db before call more q c. absurd (no_items before call more q);
  told = λ db i number front tells rest q t before call more f c. absurd (no_items front tells rest q);
}

pub legal_is_durable_as_told : (home away : Tables) (scripts : List SessionScript) (h : History) → IsLegalHistory home away scripts h → ToldIsDurable h
legal_is_durable_as_told home away scripts h legal db i number front tells rest q t before call more f c =
    let l = legal.1 in
    let k = legal_kept (opened home away scripts) (opened_kept home away scripts) legal.0 l.end l.legal in
    let split : l.end.entries ≡ map uncounted front ++ uncounted tells ∷ map uncounted rest = sym l.entries_are ∙ ap (map uncounted) q ∙ map-append uncounted front (tells ∷ rest) in
    let inner : map uncounted front ≡ map uncounted before ++ uncounted call ∷ map uncounted more = ap (map uncounted) f ∙ map-append uncounted before (call ∷ more) in
    let le = k.told db i number (map uncounted front) (uncounted tells) (map uncounted rest) split t (map uncounted before) (uncounted call) (map uncounted more) inner c in
    let lhs : made db (map uncounted before ++ uncounted call ∷ []) ≡ made db (before ++ call ∷ []) = ap (made db) (sym (map-append uncounted before (call ∷ []))) ∙ made_uncounted db (before ++ call ∷ []) in
    let rhs : durable db (map uncounted front) ≡ durable db front = ap (made db) (until_uncounted front) ∙ made_uncounted db (until_flush front) in
    omega (arith, le, lhs, rhs)
