-- In a legal world each session has called its first statements, each once, in order.
use Rattle.std.proofs.Common.{◌≡◌, ◌≢◌, ℕ, ◌+◌, ◌<◌, ◌≤◌, ◌⊎◌, inl, inr, Bool, true, false, List, [], ◌∷◌, ◌++◌, Option, Some, None, refl, sym, ap, subst, ◌∙◌, arith, length, add-one, get_or}
use Rattle.std.specs.Prelude.{slice_get, slice_set, if◌then◌else◌, ◌==◌}
use Rattle.std.specs.List.{filter_map}
use Rattle.std.proofs.lemmas.Option.{slice_get_within, slice_get-get_or}
use Rattle.std.proofs.lemmas.List.Elements.{filter_map-append}
use Rattle.std.proofs.lemmas.Bool.{cases_lt, eq-eqb, eqb-true}
use Rattle.std.proofs.lemmas.List.{append-nil}
use Rattle.queue_rows.specs.declared.reply.Reply.{Reply}
use Rattle.aq_base.specs.declared.DbId.TheVariants.{Home, Away}
use Rattle.queue_rows.specs.Session.{Session, standing_after}
use Rattle.queue_rows.specs.Statements.{statement_of}
use Rattle.queue_rows.specs.World.{World, stepped, entry_of, read_clock, at_home, at_away}
use Rattle.queue_rows.specs.Sending.{offers, arrives, confirms, taking_ids}
use Rattle.queue_rows.specs.Turns.{called, having_called, ended, due_at, ids_taken}
use Rattle.queue_rows.specs.Legal.{IsLegal, opens, reads, steps, MayStep, CallsSo}
use Rattle.queue_rows.specs.Order.{number_called, call_by, calls_of, numbers_to}
use Rattle.queue_rows.specs.declared.change.Change.{Change}
use Rattle.queue_rows.specs.declared.history.Entry.{Entry}
use Rattle.queue_rows.specs.declared.history.Step.{Step}
use Rattle.queue_rows.specs.declared.history.Step.TheVariants.{Call, Park, Timer, Offer, Arrive, Confirm, Told, Flush, End}
use Rattle.queue_rows.specs.declared.history.SessionScript.{SessionScript}
use Rattle.queue_rows.specs.declared.statement.Statement.{Statement}
use Rattle.run_turns.proofs.Adding.{Adds, step_adds, sessions-taking_ids, sessions-stepped, sessions-sent}
use Rattle.queue_rows.proofs.Sessions.{get_set-cases}
use Rattle.run_turns.proofs.Standing.{kept_from}

-- these are the calls of a session, which ended only behind its last statement
pub record IsInOrder (numbers : List ℕ) (s : Session) (o : Option SessionScript) : Type 0 where
  pub calls : numbers ≡ numbers_to s.next
  pub within : (script : SessionScript) → o ≡ Some script → s.next ≤ length script.statements
  pub ended : (script : SessionScript) → o ≡ Some script → s.live ≡ false → s.next ≡ length script.statements

abbrev pub AreInOrder : World → Type 0
AreInOrder w = (j : ℕ) (s : Session) → slice_get w.sessions j ≡ Some s → IsInOrder (calls_of j w.entries) s (slice_get w.scripts j)

-- ---- what one entry more calls

one_more : (j : ℕ) (e : Entry) (n : ℕ) → call_by j e ≡ Some n → filter_map (call_by j) (e ∷ []) ≡ n ∷ []
one_more j e n h = rw h refl

none_more : (j : ℕ) (e : Entry) → call_by j e ≡ None → filter_map (call_by j) (e ∷ []) ≡ []
none_more j e h = rw h refl

pub calls-snoc : (j : ℕ) (entries : List Entry) (e : Entry) (n : ℕ) → call_by j e ≡ Some n → calls_of j (entries ++ e ∷ []) ≡ calls_of j entries ++ n ∷ []
calls-snoc j entries e n h = filter_map-append (call_by j) entries (e ∷ []) ∙ ap (λ ns. calls_of j entries ++ ns) (one_more j e n h)

pub calls-same : (j : ℕ) (entries : List Entry) (e : Entry) → call_by j e ≡ None → calls_of j (entries ++ e ∷ []) ≡ calls_of j entries
calls-same j entries e h = filter_map-append (call_by j) entries (e ∷ []) ∙ ap (λ ns. calls_of j entries ++ ns) (none_more j e h) ∙ append-nil (calls_of j entries)

-- an entry of another actor is none of this session's calls
other_by : (b : Bool) (o : Option ℕ) → b ≡ false → (if b then o else None) ≡ None
other_by true o e = cc
other_by false o e = refl

differs : (a j : ℕ) (b : Bool) → (a == j) ≡ b → j ≢ a → b ≡ false
differs a j true h n = absurd (n (sym (eqb-true a j h)))
differs a j false h n = refl

call_by-other : (j : ℕ) (e : Entry) → j ≢ e.actor → call_by j e ≡ None
call_by-other j e n = other_by (e.actor == j) (number_called e.step) (differs e.actor j (e.actor == j) refl n)

-- nor is an entry that is no call
none_by : (b : Bool) (o : Option ℕ) → o ≡ None → (if b then o else None) ≡ None
none_by true o e = e
none_by false o e = refl

call_by-none : (j : ℕ) (e : Entry) → number_called e.step ≡ None → call_by j e ≡ None
call_by-none j e h = none_by (e.actor == j) (number_called e.step) h

call_by-own : (e : Entry) (n : ℕ) → number_called e.step ≡ Some n → call_by e.actor e ≡ Some n
call_by-own e n h = rw (eq-eqb e.actor e.actor refl) h

-- ---- steps

-- one session is replaced, and each session's calls are as they then should be
pub in_order_at : (w new : World) (i j : ℕ) (s y : Session) → AreInOrder w → new.scripts ≡ w.scripts
    → IsInOrder (calls_of i new.entries) s (slice_get new.scripts i) → ((k : ℕ) → k ≢ i → calls_of k new.entries ≡ calls_of k w.entries)
    → ((j ≡ i) × (Some s ≡ Some y)) ⊎ ((j ≢ i) × (slice_get w.sessions j ≡ Some y)) → IsInOrder (calls_of j new.entries) y (slice_get new.scripts j)
in_order_at w new i j s y o scripts own others (inl (p, q)) =
    let same : s ≡ y = cc in
    subst (λ x. IsInOrder (calls_of j new.entries) x (slice_get new.scripts j)) same
    (subst (λ k. IsInOrder (calls_of k new.entries) s (slice_get new.scripts k)) (sym p) own)
in_order_at w new i j s y o scripts own others (inr (p, q)) =
    let h = o j y q in
    record {
      calls = others j p ∙ h.calls;
      within = λ script e. h.within script (ap (λ xs. slice_get xs j) (sym scripts) ∙ e);
      ended = λ script e live. h.ended script (ap (λ xs. slice_get xs j) (sym scripts) ∙ e) live;
    }

in_order_set : (w new : World) (i : ℕ) (s : Session) → AreInOrder w → i < length w.sessions → new.sessions ≡ slice_set w.sessions i s → new.scripts ≡ w.scripts
    → IsInOrder (calls_of i new.entries) s (slice_get new.scripts i) → ((k : ℕ) → k ≢ i → calls_of k new.entries ≡ calls_of k w.entries) → AreInOrder new
in_order_set w new i s o lt e scripts own others = λ j y there.
    in_order_at w new i j s y o scripts own others (get_set-cases w.sessions i j s y lt (ap (λ xs. slice_get xs j) (sym e) ∙ there))

-- the entry of a step that is no call changes nobody's calls
calls-quiet : (j actor : ℕ) (step : Step) (w new : World) → number_called step ≡ None → Adds actor step w new → calls_of j new.entries ≡ calls_of j w.entries
calls-quiet j actor step w new h a =
    let e = entry_of actor w a.home a.away step in ap (calls_of j) a.entries ∙ calls-same j w.entries e (call_by-none j e h)

-- a session that has called no more than before, and ended only where it may
same_session : (w new : World) (i actor : ℕ) (step : Step) (old s : Session) → Adds actor step w new → number_called step ≡ None → IsInOrder (calls_of i w.entries) old (slice_get w.scripts i)
    → s.next ≡ old.next → ((script : SessionScript) → slice_get w.scripts i ≡ Some script → s.live ≡ false → s.next ≡ length script.statements) → IsInOrder (calls_of i new.entries) s (slice_get new.scripts i)
same_session w new i actor step old s a h o n ended = record {
  calls = calls-quiet i actor step w new h a ∙ o.calls ∙ ap numbers_to (sym n);
  within = λ script e. let g = o.within script (ap (λ xs. slice_get xs i) (sym a.scripts) ∙ e) in omega (arith, g, n);
  ended = λ script e live. ended script (ap (λ xs. slice_get xs i) (sym a.scripts) ∙ e) live;
}

pub in_order_quiet : (w new : World) (i actor : ℕ) (step : Step) (old s : Session) → Adds actor step w new → number_called step ≡ None → AreInOrder w → slice_get w.sessions i ≡ Some old
    → new.sessions ≡ slice_set w.sessions i s → s.next ≡ old.next
    → ((script : SessionScript) → slice_get w.scripts i ≡ Some script → s.live ≡ false → s.next ≡ length script.statements) → AreInOrder new
in_order_quiet w new i actor step old s a h o there e n ended =
    in_order_set w new i s o (slice_get_within w.sessions i old there) e a.scripts
    (same_session w new i actor step old s a h (o i old there) n ended) (λ k _. calls-quiet k actor step w new h a)

-- the next statement is within the script, and where there is none all were called
pub next_within : (o : Option SessionScript) (number : ℕ) (statement : Statement) (script : SessionScript) → statement_of o number ≡ Some statement → o ≡ Some script → number < length script.statements
next_within None number statement script e h = absurd (let no : None ≡ Some statement = e in cc)
next_within (Some x) number statement script e h = let same : x ≡ script = cc in subst (λ y. number < length y.statements) same (slice_get_within x.statements number statement e)

none_left : (xs : List Statement) (n : ℕ) → slice_get xs n ≡ None → (n < length xs) ⊎ (length xs ≤ n) → length xs ≤ n
none_left xs n e (inl h) = absurd (no_first xs n h e)
  where
    no_first : (xs : List Statement) (n : ℕ) → n < length xs → slice_get xs n ≡ None → ⊥
    no_first [] n h e = omega arith
    no_first (x ∷ xs) n h e = let there = slice_get-get_or (x ∷ xs) n x h in let no : None ≡ Some (get_or (x ∷ xs) n x) = sym e ∙ there in cc
none_left xs n e (inr h) = h

pub all_called : (o : Option SessionScript) (number : ℕ) (script : SessionScript) → statement_of o number ≡ None → o ≡ Some script → length script.statements ≤ number
all_called None number script e h = absurd (let no : None ≡ Some script = h in cc)
all_called (Some x) number script e h = let same : x ≡ script = cc in subst (λ y. length y.statements ≤ number) same (none_left x.statements number e (cases_lt number (length x.statements)))

pub calls-own : (i : ℕ) (w new : World) (number : ℕ) (reply : Reply) (n : ℕ) → Adds i (Call number reply) w new → calls_of i w.entries ≡ numbers_to n → number ≡ n + 1 → calls_of i new.entries ≡ numbers_to (n + 1)
calls-own i w new number reply n a o e =
    let entry = entry_of i w a.home a.away (Call number reply) in
    ap (calls_of i) a.entries ∙ calls-snoc i w.entries entry number (call_by-own entry number refl) ∙ ap (λ ns. ns ++ number ∷ []) o ∙ ap (λ k. numbers_to n ++ k ∷ []) e ∙ sym (ap numbers_to (add-one n))

pub calls-others : (i : ℕ) (w new : World) (step : Step) → Adds i step w new → (k : ℕ) → k ≢ i → calls_of k new.entries ≡ calls_of k w.entries
calls-others i w new step a k n =
    let entry = entry_of i w a.home a.away step in
    ap (calls_of k) a.entries ∙ calls-same k w.entries entry (call_by-other k entry n)

pub sessions-called : (i : ℕ) (s after : Session) (reply : Reply) (cs : List Change) (w : World)
    → (x : Session) × ((called i s reply cs after w).sessions ≡ standing_after s.at cs (slice_set w.sessions i x)) × (x.next ≡ s.next + 1) × (x.live ≡ s.live)
sessions-called i s after reply cs w =
    let v = stepped i w (at_home s.at cs) (at_away s.at cs) (Call (s.next + 1) reply) in
    let u = taking_ids s.at (ids_taken reply) v in (
      having_called u s after,
      ap (λ ss. standing_after s.at cs (slice_set ss i (having_called u s after))) (sessions-taking_ids s.at (ids_taken reply) v ∙ sessions-stepped i w (at_home s.at cs) (at_away s.at cs) (Call (s.next + 1) reply)),
      refl,
      refl,
    )

-- a session that lost positions alone is as much in order
pub kept_in_order : (numbers : List ℕ) (x y : Session) (o : Option SessionScript) → y.next ≡ x.next → y.live ≡ x.live → IsInOrder numbers x o → IsInOrder numbers y o
kept_in_order numbers x y o n l h = record {
  calls = h.calls ∙ ap numbers_to (sym n);
  within = λ script e. let g = h.within script e in omega (arith, g, n);
  ended = λ script e dead. n ∙ h.ended script e (sym l ∙ dead);
}

call_in_order : (i number : ℕ) (reply : Reply) (w new : World) → CallsSo i number reply w new → AreInOrder w → AreInOrder new
call_in_order i number reply w new m o =
    let s = m.session in
    let c = m.calls in
    let a = step_adds i (Call number reply) w new m in
    let x = sessions-called i s m.after reply m.changes w in
    let h = o i s c.ready.there in
    let e : new.sessions ≡ standing_after s.at m.changes (slice_set w.sessions i x.0) = ap (λ v. v.sessions) c.result ∙ x.1 in
    let own : IsInOrder (calls_of i new.entries) x.0 (slice_get new.scripts i) = record {
      calls = calls-own i w new number reply s.next a h.calls m.number_is ∙ ap numbers_to (sym x.2);
      within = λ script there. let lt = next_within (slice_get w.scripts i) s.next m.statement script c.next (ap (λ xs. slice_get xs i) (sym a.scripts) ∙ there) in let n = x.2 in omega (arith, lt, n);
      ended = λ script there dead. absurd (let no : false ≡ true = sym dead ∙ x.3 ∙ c.ready.live in cc);
    } in
    λ j y there.
    let k = kept_from s.at m.changes (slice_set w.sessions i x.0) j y (ap (λ ss. slice_get ss j) (sym e) ∙ there) in
    kept_in_order (calls_of j new.entries) k.before y (slice_get new.scripts j) k.next k.live
    (in_order_at w new i j x.0 k.before o a.scripts own (calls-others i w new (Call number reply) a) (get_set-cases w.sessions i j x.0 k.before (slice_get_within w.sessions i s c.ready.there) k.there))

alive : {A : Type 0} (s : Session) (b : Bool) → s.live ≡ true → s.live ≡ false → A
alive s b e d = absurd (let no : false ≡ true = sym d ∙ e in cc)

-- a step that is no call and changes no session
pub in_order_still : (w new : World) (i : ℕ) (step : Step) → Adds i step w new → number_called step ≡ None → new.sessions ≡ w.sessions → AreInOrder w → AreInOrder new
in_order_still w new i step a q e o = λ j y there.
    let h = o j y (ap (λ ss. slice_get ss j) (sym e) ∙ there) in
    record {
      calls = calls-quiet j i step w new q a ∙ h.calls;
      within = λ script t. h.within script (ap (λ xs. slice_get xs j) (sym a.scripts) ∙ t);
      ended = λ script t dead. h.ended script (ap (λ xs. slice_get xs j) (sym a.scripts) ∙ t) dead;
    }

step_in_order : (actor : ℕ) (step : Step) (w new : World) → MayStep actor step w new → AreInOrder w → AreInOrder new
step_in_order i (Call number reply) w new m o = call_in_order i number reply w new m o
step_in_order i (Park number) w new m o =
    let s = m.session in
    let x = record s { parked = Some m.since } in
    let e : new.sessions ≡ slice_set w.sessions i x = ap (λ v. v.sessions) m.parks.result ∙ ap (λ ss. slice_set ss i x) (sessions-stepped i w [] [] (Park (s.next + 1))) in
    in_order_quiet w new i i (Park number) s x (step_adds i (Park number) w new m) refl o m.parks.ready.there e refl (λ script there dead. alive s true m.parks.ready.live dead)
step_in_order i (Told number) w new m o =
    let s = m.session in
    let x = record s { untold = None } in
    let h = o i s m.tells.there in
    let e : new.sessions ≡ slice_set w.sessions i x = ap (λ v. v.sessions) m.tells.result ∙ ap (λ ss. slice_set ss i x) (sessions-stepped i w [] [] (Told m.untold.number)) in
    in_order_quiet w new i i (Told number) s x (step_adds i (Told number) w new m) refl o m.tells.there e refl (λ script there dead. h.ended script there dead)
step_in_order i Flush w new m o = in_order_still w new i Flush (step_adds i Flush w new m) refl (ap (λ v. v.sessions) m.result ∙ sessions-stepped i w [] [] Flush) o
step_in_order i End w new m o =
    let s = m.0 in let d = m.1 in
    let x = record s { pending = []; marks = []; live = false } in
    let h = o i s d.ready.there in
    let e : new.sessions ≡ slice_set w.sessions i x = ap (λ v. v.sessions) d.result ∙ ap (λ ss. slice_set ss i x) (sessions-stepped i w [] [] End) in
    in_order_quiet w new i i End s x (step_adds i End w new m) refl o d.ready.there e refl
    (λ script there dead. let le = h.within script there in let ge = all_called (slice_get w.scripts i) s.next script d.all there in omega (arith, le, ge))
step_in_order i Timer w new m o = in_order_still w new i Timer (step_adds i Timer w new m) refl (ap (λ v. v.sessions) m.result ∙ sessions-stepped i w (due_at Home w) (due_at Away w) Timer) o
step_in_order i (Offer at to) w new m o = in_order_still w new i (Offer at to) (step_adds i (Offer at to) w new m) refl (ap (λ v. v.sessions) m.result ∙ sessions-sent i (offers at to) w) o
step_in_order i (Arrive at outcome) w new m o =
    in_order_still w new i (Arrive at outcome) (step_adds i (Arrive at outcome) w new m) refl (ap (λ v. v.sessions) m.sends.result ∙ sessions-sent i (arrives at m.arriving) w) o
step_in_order i (Confirm at) w new m o =
    in_order_still w new i (Confirm at) (step_adds i (Confirm at) w new m) refl (ap (λ v. v.sessions) m.sends.result ∙ sessions-sent i (confirms at m.number m.changes) w) o

pub legal_in_order : (start : World) (readings : List ℕ) (w : World) → AreInOrder start → IsLegal start readings w → AreInOrder w
unfolding read_clock
legal_in_order start rs w o opens = o
legal_in_order start rs w o (reads before v reading l) = legal_in_order start before v o l
legal_in_order start rs w o (steps before v new actor step l timely m) = step_in_order actor step v new m (legal_in_order start before v o l)

-- the scripts of a legal world are those with which it began, and there are as many sessions
pub legal_scripts : (start : World) (readings : List ℕ) (w : World) → IsLegal start readings w → w.scripts ≡ start.scripts
unfolding read_clock
legal_scripts start rs w opens = refl
legal_scripts start rs w (reads before v reading l) = legal_scripts start before v l
legal_scripts start rs w (steps before v new actor step l timely m) = (step_adds actor step v new m).scripts ∙ legal_scripts start before v l
