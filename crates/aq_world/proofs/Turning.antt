-- What turns come to.
use Rattle.std.proofs.Common.{◌≡◌, ◌<◌, ◌≤◌, ◌-◌, ◌^◌, inl, inr, ℕ, suc, Bool, true, false, not, Option, Some, None, Result, refl, sym, ap, subst, ◌∙◌, option_map, arith}
use Rattle.std.specs.Prelude.{Ok, Err, OnOk, OnErr, IfErr, ◌||◌, ◌&&◌, ◌==◌, nat_lt, slice_get, is_some, if◌then◌else◌, IfSome, IsSome, length}
use Rattle.std.proofs.lemmas.Bool.{or_left, or_right, lt-ltb, le-ltb, false≢true}
use Rattle.std.proofs.lemmas.Option.{none-some, slice_get_within}
use Rattle.queue_rows.specs.Order.{IsFront}
use Rattle.queue_rows.specs.Session.{Session, Untold}
use Rattle.queue_rows.specs.declared.history.Step.TheVariants.{Timer}
use Rattle.sessions.specs.declared.state.SessionState.{SessionState}
use Rattle.sessions.specs.declared.state.Untold as kept
use Rattle.queue_rows.specs.World.{World, read_clock}
use Rattle.queue_rows.specs.Sending.{next_sending}
use Rattle.queue_rows.specs.Statements.{next_statement}
use Rattle.queue_rows.specs.Turns.{is_due, timed, caught_up, begun, own_turn, flushed, told, any_live, propagated, drained, drained_once, is_still, session_turn, timer_turn, propagator_turn, closing_turn, DrainsIn}
use Rattle.queue_rows.specs.Legal.{is_actor, is_sender}
use Rattle.run_laws.specs.ValidRun.{IsValidWorld}
use Rattle.run_laws.proofs.Worlds.{step_keeps_valid}
use Rattle.run_turns.proofs.Growing.{front_same, front_trans, drained_longer, grows_drained, grows_flushed, grows_told}
use Rattle.run_turns.proofs.Oneness.{sessions-begun}
use Rattle.run_turns.proofs.Parts.{session_none, session_tells, session_over, session_calls, session_grows_begun, session_grows_read, timer_goes, timer_rests, propagator_goes, propagator_rests, timer_grows_read, propagator_grows_read}
use Rattle.run_turns.proofs.Resting.{drained_once-still}
use Rattle.run_state.specs.Entries.{IsUntold}
use Rattle.session_registry.specs.Sessions.{OfSession, session_of, untold_as, unmarked}
use Rattle.durable_state.specs.declared.broken.Broken.{Broken}
use Rattle.durable_state.specs.declared.broken.Broken.TheVariants as reasons
use Rattle.next_steps.specs.Sound.{IsSound}
use Rattle.aq_world.specs.Turning.{IsOwed, IsCalling, IsUndone, IsBrokenOff, IsPartOfStep, IsPartDrained, IsDrainable, IsUnclosed, broken_if, reads_clock, is_owed, is_session, next_meaning, end_by, session_end, background_end}
use Rattle.aq_world.specs.declared.turn_end.TurnEnd.{TurnEnd}
use Rattle.aq_world.specs.declared.turn_end.TurnEnd.TheVariants.{Done, Idle, Ended}
use Rattle.aq_world.proofs.Soundness.{sound_read, step_sound}

of_some : {T : Type 0} (P : T → Type 0) (o : Option T) (x : T) → o ≡ Some x → IfSome o P → P x
of_some P o x e p = subst (λ o. IfSome o P) e p

pub at_err : {T E P : Type 0} (r : Result T E) → P → OnErr r P
at_err (Ok x) p = _
at_err (Err e) p = p

-- ---- actors

own_actor : (w : World) (i : ℕ) (s : Session) → slice_get w.sessions i ≡ Some s → is_actor w i ≡ true
own_actor w i s there = or_left (nat_lt i (length w.sessions) || (i == 64)) (is_sender i) (or_left (nat_lt i (length w.sessions)) (i == 64) (lt-ltb i (length w.sessions) (slice_get_within w.sessions i s there)))

pub timer_actor : (w : World) → is_actor w 64 ≡ true
timer_actor w = or_left (nat_lt 64 (length w.sessions) || true) (is_sender 64) (or_right (nat_lt 64 (length w.sessions)) true refl)

pub sender_actor : (w : World) (actor : ℕ) → is_sender actor ≡ true → is_actor w actor ≡ true
sender_actor w actor e = or_right (nat_lt actor (length w.sessions) || (actor == 64)) (is_sender actor) e

-- ---- due work

valid_if : (b : Bool) (actor : ℕ) (w : World) → is_due w ≡ b → is_actor w actor ≡ true → IsValidWorld w → IsValidWorld (if b then timed actor w else w)
valid_if true actor w e by v = step_keeps_valid w (timed actor w) actor Timer v (record { by = by; wanted = e; result = refl })
valid_if false actor w e by v = v

-- a world in which due work was done is valid
valid_caught : (actor : ℕ) (w : World) → is_actor w actor ≡ true → IsValidWorld w → IsValidWorld (caught_up actor w)
unfolding caught_up
valid_caught actor w by v = valid_if (is_due w) actor w refl by v

sound_if : (b : Bool) (actor : ℕ) (w : World) → is_due w ≡ b → is_actor w actor ≡ true → IsSound w → IsSound (if b then timed actor w else w)
sound_if true actor w e by k = step_sound w (timed actor w) actor Timer k (record { by = by; wanted = e; result = refl })
sound_if false actor w e by k = k

sound_caught : (actor : ℕ) (w : World) → is_actor w actor ≡ true → IsSound w → IsSound (caught_up actor w)
unfolding caught_up
sound_caught actor w by k = sound_if (is_due w) actor w refl by k

actor-read : (reading actor : ℕ) (w : World) → is_actor (read_clock reading w) actor ≡ is_actor w actor
unfolding read_clock
actor-read reading actor w = refl

-- what a turn began with is sound
sound_begun : (actor reading : ℕ) (w v : World) → v ≡ begun actor reading w → is_actor w actor ≡ true → IsSound w → IsSound v
sound_begun actor reading w v e by k = subst IsSound (sym e) (sound_caught actor (read_clock reading w) (actor-read reading actor w ∙ by) (sound_read w reading k))

pub sound_at_call : (reading : ℕ) (w v : World) (i : ℕ) → IsCalling w i → v ≡ begun i reading w → IsSound w → IsSound v
sound_at_call reading w v i k e sound = sound_begun i reading w v e (own_actor w i k.session k.there) sound

-- ---- tellings

pub told_whole : (w new : World) (i n : ℕ) → IsOwed w i n → OfSession i w (λ s. new ≡ told i s n w) → (reading : ℕ) → new ≡ session_turn reading i w
told_whole w new i n k is reading =
    of_some (λ s. new ≡ told i s n w) (slice_get w.sessions i) k.session k.there is
    ∙ ap (λ m. told i k.session m w) (sym k.number_is) ∙ sym (session_tells reading i k.session k.untold w k.there k.called)

told_front : (reading : ℕ) (w : World) (i n : ℕ) → IsOwed w i n → IsFront (flushed i w).entries (session_turn reading i w).entries
told_front reading w i n k =
    subst (λ v. IsFront (flushed i w).entries v.entries) (sym (session_tells reading i k.session k.untold w k.there k.called)) (grows_told i k.session k.untold.number w)

pub untold_front : (w new : World) (i n : ℕ) → IsOwed w i n → new ≡ w → (reading : ℕ) → IsFront new.entries (session_turn reading i w).entries
untold_front w new i n k e reading =
    subst (λ v. IsFront v.entries (session_turn reading i w).entries) (sym e)
    (front_trans w.entries (flushed i w).entries (session_turn reading i w).entries (grows_flushed i w) (told_front reading w i n k))

-- what is said for each reading is said for one
pub ok_at : {T E : Type 0} (P : ℕ → Type 0) (r : Result T E) (n : ℕ) → OnOk r ((m : ℕ) → P m) → OnOk r (P n)
ok_at P (Ok x) n p = p n
ok_at P (Err x) n p = _

pub err_at : {T E : Type 0} (P : ℕ → Type 0) (r : Result T E) (n : ℕ) → OnErr r ((m : ℕ) → P m) → OnErr r (P n)
err_at P (Ok x) n p = _
err_at P (Err x) n p = p n

-- ---- calls, waits and ends

there_begun : (reading : ℕ) (w v : World) (i : ℕ) (s : Session) → v ≡ begun i reading w → slice_get w.sessions i ≡ Some s → slice_get v.sessions i ≡ Some s
there_begun reading w v i s e there = ap (λ x. slice_get x.sessions i) e ∙ ap (λ ss. slice_get ss i) (sessions-begun i reading w) ∙ there

pub called_whole : (reading : ℕ) (w v new : World) (i : ℕ) → IsCalling w i → v ≡ begun i reading w → OfSession i v (λ s. new ≡ own_turn i s (next_statement v i s) v) → new ≡ session_turn reading i w
called_whole reading w v new i k e is =
    let s = k.session in
    of_some (λ t. new ≡ own_turn i t (next_statement v i t) v) (slice_get v.sessions i) s (there_begun reading w v i s e k.there) is
    ∙ ap (λ x. own_turn i s (next_statement x i s) x) e ∙ sym (session_calls reading i s w k.there k.told k.live)

end_calls : (reading i : ℕ) (s : Session) (w : World) (o : Option Session) → o ≡ Some s → s.untold ≡ None → s.live ≡ true → session_end reading i o w ≡ end_by (next_meaning (begun i reading w) i s)
end_calls reading i s w o e told live = ap (λ x. session_end reading i x w) e ∙ rw (told, live) refl

pub called_end : (reading : ℕ) (w v : World) (i : ℕ) (end : TurnEnd) → IsCalling w i → v ≡ begun i reading w → OfSession i v (λ s. end ≡ end_by (next_meaning v i s))
    → end ≡ session_end reading i (slice_get w.sessions i) w
called_end reading w v i end k e is =
    let s = k.session in
    of_some (λ t. end ≡ end_by (next_meaning v i t)) (slice_get v.sessions i) s (there_begun reading w v i s e k.there) is
    ∙ ap (λ x. end_by (next_meaning x i s)) e ∙ sym (end_calls reading i s w (slice_get w.sessions i) k.there k.told k.live)

pub begun_front : (reading : ℕ) (w v new : World) (i : ℕ) → IsCalling w i → v ≡ begun i reading w → new ≡ v → IsFront new.entries (session_turn reading i w).entries
begun_front reading w v new i k e f =
    subst (λ x. IsFront x.entries (session_turn reading i w).entries) (sym (f ∙ e)) (session_grows_begun reading i k.session w k.there k.told k.live)

pub read_front : (reading : ℕ) (w new : World) (i : ℕ) → IsCalling w i → new ≡ read_clock reading w → IsFront new.entries (session_turn reading i w).entries
read_front reading w new i k e = subst (λ x. IsFront x.entries (session_turn reading i w).entries) (sym e) (session_grows_read reading i k.session w k.there k.told k.live)

-- ---- a session's turn

-- the session that was found
pub found : (o : Option Session) (state : SessionState) → option_map session_of (Some state) ≡ option_map unmarked o → (s : Session) × (o ≡ Some s) × (session_of state ≡ unmarked s)
found None state e = absurd (none-some (session_of state) (sym e))
found (Some s) state e = (s, refl, let h : Some (session_of state) ≡ Some (unmarked s) = e in cc)

pub missing : (o : Option Session) → None ≡ option_map unmarked o → o ≡ None
missing None e = refl
missing (Some s) e = absurd (none-some (unmarked s) e)

untold_by : (o : Option kept.Untold) (u : kept.Untold) (p : Option Untold) → o ≡ Some u → option_map untold_as o ≡ p → p ≡ Some (untold_as u)
untold_by o u p e f = sym f ∙ ap (option_map untold_as) e

pub owed_so : (w : World) (i : ℕ) (state : SessionState) (u : kept.Untold) → option_map session_of (Some state) ≡ option_map unmarked (slice_get w.sessions i) → state.untold ≡ Some u → IsOwed w i u.number
owed_so w i state u e f =
    let s = found (slice_get w.sessions i) state e in
    record { session = s.0; untold = untold_as u; there = s.1; called = untold_by state.untold u s.0.untold f (ap (λ t. t.untold) s.2); number_is = refl }

pub calling_so : (w : World) (i : ℕ) (state : SessionState) → option_map session_of (Some state) ≡ option_map unmarked (slice_get w.sessions i) → state.untold ≡ None → state.live ≡ true → IsCalling w i
calling_so w i state e f live =
    let s = found (slice_get w.sessions i) state e in
    record { session = s.0; there = s.1; told = sym (ap (λ t. t.untold) s.2) ∙ ap (option_map untold_as) f; live = sym (ap (λ t. t.live) s.2) ∙ live }

pub none_whole : (reading : ℕ) (w : World) (i : ℕ) → None ≡ option_map unmarked (slice_get w.sessions i) → w ≡ session_turn reading i w
none_whole reading w i e = sym (session_none reading i w (missing (slice_get w.sessions i) e))

pub none_end : (reading : ℕ) (w : World) (i : ℕ) → None ≡ option_map unmarked (slice_get w.sessions i) → Ended ≡ session_end reading i (slice_get w.sessions i) w
none_end reading w i e = sym (ap (λ o. session_end reading i o w) (missing (slice_get w.sessions i) e))

pub over_whole : (reading : ℕ) (w : World) (i : ℕ) (state : SessionState) → option_map session_of (Some state) ≡ option_map unmarked (slice_get w.sessions i) → state.untold ≡ None → state.live ≡ false → w ≡ session_turn reading i w
over_whole reading w i state e f dead =
    let s = found (slice_get w.sessions i) state e in
    sym (session_over reading i s.0 w s.1 (sym (ap (λ t. t.untold) s.2) ∙ ap (option_map untold_as) f) (sym (ap (λ t. t.live) s.2) ∙ dead))

end_over : (reading i : ℕ) (s : Session) (w : World) (o : Option Session) → o ≡ Some s → s.untold ≡ None → s.live ≡ false → session_end reading i o w ≡ Ended
end_over reading i s w o e told dead = ap (λ x. session_end reading i x w) e ∙ rw (told, dead) refl

pub over_end : (reading : ℕ) (w : World) (i : ℕ) (state : SessionState) → option_map session_of (Some state) ≡ option_map unmarked (slice_get w.sessions i) → state.untold ≡ None → state.live ≡ false → Ended ≡ session_end reading i (slice_get w.sessions i) w
over_end reading w i state e f dead =
    let s = found (slice_get w.sessions i) state e in
    sym (end_over reading i s.0 w (slice_get w.sessions i) s.1 (sym (ap (λ t. t.untold) s.2) ∙ ap (option_map untold_as) f) (sym (ap (λ t. t.live) s.2) ∙ dead))

end_owed : (reading i : ℕ) (s : Session) (u : Untold) (w : World) (o : Option Session) → o ≡ Some s → s.untold ≡ Some u → session_end reading i o w ≡ Done
end_owed reading i s u w o e told = ap (λ x. session_end reading i x w) e ∙ rw told refl

pub told_end : (reading : ℕ) (w : World) (i n : ℕ) (end : TurnEnd) → IsOwed w i n → end ≡ Done → end ≡ session_end reading i (slice_get w.sessions i) w
told_end reading w i n end k e = e ∙ sym (end_owed reading i k.session k.untold w (slice_get w.sessions i) k.there k.called)

-- ---- who is owed a reply

pub owed_end : (reading i : ℕ) (o : Option Session) (w : World) → is_owed o ≡ true → session_end reading i o w ≡ Done
owed_end reading i None w owed = absurd (false≢true owed)
owed_end reading i (Some s) w owed = ap (λ b. if b then Done else (if s.live then end_by (next_meaning (begun i reading w) i s) else Ended)) owed

pub owed_there : (w : World) (i : ℕ) (o : Option Session) → slice_get w.sessions i ≡ o → is_owed o ≡ true → i < length w.sessions
owed_there w i None there owed = absurd (false≢true owed)
owed_there w i (Some s) there owed = slice_get_within w.sessions i s there

-- no session that was told all
pub told_all : {T : Type 0} (turn : Result T Broken) (w : World) (i : ℕ) → IsCalling w i → is_owed (slice_get w.sessions i) ≡ true → IfErr turn (λ why. why ≡ reasons.Halted)
told_all turn w i k owed = absurd (false≢true (sym (ap is_owed k.there ∙ ap is_some k.told) ∙ owed))

-- nor the timer and the propagator
pub never_owed : {T : Type 0} (turn : Result T Broken) (w : World) (actor : ℕ) → length w.sessions ≤ 64 → 64 ≤ actor → is_owed (slice_get w.sessions actor) ≡ true → IfErr turn (λ why. why ≡ reasons.Halted)
never_owed turn w actor few past owed = let there = owed_there w actor (slice_get w.sessions actor) refl owed in absurd (omega (arith, few, past, there))

-- ---- turns that are broken off

pub undone_broken : (actor reading : ℕ) (w new : World) → reads_clock actor w ≡ true → IsUndone actor reading w new → IsBrokenOff actor reading w new
undone_broken actor reading w new e u = subst (λ b. broken_if b actor reading w new) (sym e) u

pub untold_broken : (actor reading : ℕ) (w new : World) → reads_clock actor w ≡ false → IsUntold actor w new → IsBrokenOff actor reading w new
untold_broken actor reading w new e u = subst (λ b. broken_if b actor reading w new) (sym e) u

below : (i : ℕ) → i < 64 → is_session i ≡ true
below i lt = lt-ltb i 64 lt

reads_told : (b : Bool) → b ≡ true → (not (not b && true) && not (true && false)) ≡ true
reads_told b e = rw e refl

calling_reads : (w : World) (i : ℕ) → i < 64 → IsCalling w i → reads_clock i w ≡ true
calling_reads w i lt k = rw (below i lt, k.there, k.told) (reads_told k.session.live k.live)

reads_owed : (b : Bool) → (not (not b && false) && not (true && true)) ≡ false
reads_owed true = refl
reads_owed false = refl

owed_reads : (w : World) (i n : ℕ) → i < 64 → IsOwed w i n → reads_clock i w ≡ false
owed_reads w i n lt k = rw (below i lt, k.there, k.called) (reads_owed k.session.live)

pub calling_broken : (reading : ℕ) (w new : World) (i : ℕ) → i < 64 → IsCalling w i → IsUndone i reading w new → IsBrokenOff i reading w new
calling_broken reading w new i lt k u = undone_broken i reading w new (calling_reads w i lt k) u

pub owed_broken : (reading : ℕ) (w new : World) (i n : ℕ) → i < 64 → IsOwed w i n → new ≡ w → IsBrokenOff i reading w new
owed_broken reading w new i n lt k e = untold_broken i reading w new (owed_reads w i n lt k) (inl e)

-- who is owed a reply was not told yet
pub owed_some : (w : World) (i n : ℕ) → IsOwed w i n → OfSession i w (λ s. IsSome s.untold)
owed_some w i n k = subst (λ o. IfSome o (λ s. IsSome s.untold)) (sym k.there) (subst IsSome (sym k.called) refl)

-- ---- the timer and the propagator

timer_reads : (w : World) → any_live w ≡ true → reads_clock 64 w ≡ true
timer_reads w e = rw e refl

propagator_reads : (w : World) → any_live w ≡ true → reads_clock 65 w ≡ true
propagator_reads w e = rw e refl

pub timer_broken : (reading : ℕ) (w new : World) → any_live w ≡ true → new ≡ read_clock reading w → IsBrokenOff 64 reading w new
timer_broken reading w new e f = undone_broken 64 reading w new (timer_reads w e) (inl f)

pub propagator_broken_read : (reading : ℕ) (w new : World) → any_live w ≡ true → new ≡ read_clock reading w → IsBrokenOff 65 reading w new
propagator_broken_read reading w new e f = undone_broken 65 reading w new (propagator_reads w e) (inl f)

undone_untold : (actor reading : ℕ) (w v new : World) → v ≡ begun actor reading w → IsUntold actor v new → IsUndone actor reading w new
undone_untold actor reading w v new e (inl f) = inr (inl (f ∙ e))
undone_untold actor reading w v new e (inr f) = inr (inr (f ∙ ap (flushed actor) e))

pub propagator_broken : (reading : ℕ) (w v new : World) → any_live w ≡ true → v ≡ begun 65 reading w → IsUntold 65 v new → IsBrokenOff 65 reading w new
propagator_broken reading w v new e f u = undone_broken 65 reading w new (propagator_reads w e) (undone_untold 65 reading w v new f u)

pub timer_whole : (reading : ℕ) (w new : World) → any_live w ≡ true → new ≡ begun 64 reading w → new ≡ timer_turn reading w
timer_whole reading w new e f = f ∙ sym (timer_goes reading w e)

pub timer_over : (reading : ℕ) (w : World) → any_live w ≡ false → w ≡ timer_turn reading w
timer_over reading w e = sym (timer_rests reading w e)

pub timer_front : (reading : ℕ) (w new : World) → any_live w ≡ true → new ≡ read_clock reading w → IsFront new.entries (timer_turn reading w).entries
timer_front reading w new e f = subst (λ x. IsFront x.entries (timer_turn reading w).entries) (sym f) (timer_grows_read reading w e)

pub propagator_whole : (reading : ℕ) (w v new : World) → any_live w ≡ true → v ≡ begun 65 reading w → new ≡ propagated 65 v → new ≡ propagator_turn reading w
propagator_whole reading w v new e f g = g ∙ ap (propagated 65) f ∙ sym (propagator_goes reading w e)

pub propagator_over : (reading : ℕ) (w : World) → any_live w ≡ false → w ≡ propagator_turn reading w
propagator_over reading w e = sym (propagator_rests reading w e)

pub propagator_read_front : (reading : ℕ) (w new : World) → any_live w ≡ true → new ≡ read_clock reading w → IsFront new.entries (propagator_turn reading w).entries
propagator_read_front reading w new e f = subst (λ x. IsFront x.entries (propagator_turn reading w).entries) (sym f) (propagator_grows_read reading w e)

pub propagator_front : (reading : ℕ) (w v new : World) → any_live w ≡ true → v ≡ begun 65 reading w → IsFront new.entries (propagated 65 v).entries → IsFront new.entries (propagator_turn reading w).entries
propagator_front reading w v new e f g = subst (λ x. IsFront new.entries x.entries) (propagator_whole reading w v (propagated 65 v) e f refl) g

pub over_ends : (reading actor : ℕ) (w : World) → any_live w ≡ false → Ended ≡ background_end reading actor w
over_ends reading actor w e = rw e refl

pub timer_ends : (reading : ℕ) (w : World) (due : Bool) → any_live w ≡ true → due ≡ is_due (read_clock reading w) → (if due then Done else Idle) ≡ background_end reading 64 w
timer_ends reading w due e f = ap (λ b. if b then Done else Idle) f ∙ sym (rw e refl)

pub propagator_ends : (reading : ℕ) (w v : World) (due sends : Bool) → any_live w ≡ true → due ≡ is_due (read_clock reading w) → v ≡ begun 65 reading w → sends ≡ is_some (next_sending v)
    → (if due || sends then Done else Idle) ≡ background_end reading 65 w
propagator_ends reading w v due sends e f g h =
    let s : sends ≡ is_some (next_sending (begun 65 reading w)) = h ∙ ap (λ x. is_some (next_sending x)) g in
    ap (λ b. if b || sends then Done else Idle) f ∙ ap (λ b. if is_due (read_clock reading w) || b then Done else Idle) s ∙ sym (rw e refl)

-- the propagator's world, once it has begun, is valid
pub valid_begun : (reading : ℕ) (w v : World) → v ≡ begun 65 reading w → IsSound w → IsValidWorld v
valid_begun reading w v e k = (sound_begun 65 reading w v e (sender_actor w 65 refl) k).valid

-- ---- the closing turn

pub valid_drained : (w v : World) → v ≡ caught_up 66 w → IsValidWorld w → IsValidWorld v
valid_drained w v e k = subst IsValidWorld (sym e) (valid_caught 66 w (sender_actor w 66 refl) k)

pub step_front : (w v new : World) → v ≡ caught_up 66 w → IsFront new.entries (propagated 66 v).entries → IsFront new.entries (drained_once w).entries
step_front w v new e f = subst (λ x. IsFront new.entries (propagated 66 x).entries) e f

pub untouched_step : (w new : World) → new ≡ w → IsFront new.entries (drained_once w).entries
untouched_step w new e = subst (λ x. IsFront x.entries (drained_once w).entries) (sym e) (grows_drained w)

pub part_of_step : (w v new : World) → v ≡ caught_up 66 w → IsUntold 66 v new → IsPartOfStep w new
part_of_step w v new e u = inr (subst (λ x. IsUntold 66 x new) e u)

more_if : (b : Bool) (w new : World) (n m : ℕ) → is_still w ≡ b → n ≡ length w.entries → m ≡ length new.entries → new ≡ drained_once w → nat_lt n m ≡ not b
more_if true w new n m e p q f =
    let same : m ≡ n = q ∙ ap (λ x. length x.entries) (f ∙ drained_once-still w e) ∙ sym p in
    let lt : nat_lt n m ≡ nat_lt n n = ap (nat_lt n) same in
    lt ∙ le-ltb n n (omega arith)
more_if false w new n m e p q f =
    let longer = drained_longer w e in
    let same = ap (λ x. length x.entries) f in
    lt-ltb n m (omega (arith, longer, same, p, q))

-- there is more to do where entries were added
pub more_so : (w new : World) (n m : ℕ) → n ≡ length w.entries → m ≡ length new.entries → new ≡ drained_once w → nat_lt n m ≡ not (is_still w)
more_so w new n m p q f = more_if (is_still w) w new n m refl p q f

-- no step yet
pub none_drained : (w : World) → w ≡ drained 0 w
unfolding drained
none_drained w = refl

-- a step more
pub drained_more : (n : ℕ) (w v new : World) → v ≡ drained n w → new ≡ drained_once v → new ≡ drained (suc n) w
unfolding drained
drained_more n w v new e f = f ∙ ap drained_once e

pub drained_front : (n : ℕ) (w v new : World) → v ≡ drained n w → IsFront new.entries (drained_once v).entries → IsFront new.entries (drained (suc n) w).entries
drained_front n w v new e f = subst (λ x. IsFront new.entries x.entries) (drained_more n w v (drained_once v) e refl) f

not_so : (b more : Bool) → more ≡ not b → more ≡ false → b ≡ true
not_so true more e f = refl
not_so false more e f = sym f ∙ e

so_not : (b more : Bool) → more ≡ not b → more ≡ true → b ≡ false
so_not true more e f = sym f ∙ e
so_not false more e f = refl

-- nothing was left to do
pub drains_so : (n : ℕ) (w v new : World) (more : Bool) → v ≡ drained n w → more ≡ not (is_still v) → more ≡ false → new ≡ drained_once v → (steps : ℕ) × DrainsIn w steps × (new ≡ drained steps w)
drains_so n w v new more e f g h =
    let still = not_so (is_still v) more f g in
    (n, sym (ap is_still e) ∙ still, h ∙ drained_once-still v still ∙ e)

-- there is less room for entries
pub less_room : (v new : World) (more : Bool) → more ≡ not (is_still v) → more ≡ true → new ≡ drained_once v → length new.entries < 2 ^ 64 → 2 ^ 64 - length new.entries < 2 ^ 64 - length v.entries
less_room v new more f g h room =
    let longer = drained_longer v (so_not (is_still v) more f g) in
    let same = ap (λ x. length x.entries) h in
    omega (arith, longer, same, room)

pub drainable_behind : (reading : ℕ) (w v : World) → v ≡ read_clock reading w → IsDrainable (read_clock reading w) → IsDrainable v
drainable_behind reading w v e d = subst IsDrainable (sym e) d

pub closed_so : (reading : ℕ) (w v u new : World) → v ≡ read_clock reading w → (steps : ℕ) × DrainsIn v steps × (u ≡ drained steps v) → new ≡ flushed 66 u → (steps : ℕ) × DrainsIn (read_clock reading w) steps × (new ≡ closing_turn reading steps w)
unfolding closing_turn
closed_so reading w v u new e d f = (d.0, subst (λ x. DrainsIn x d.0) e d.1, f ∙ ap (flushed 66) (d.2 ∙ ap (drained d.0) e))

pub part_behind : (reading : ℕ) (w v new : World) → v ≡ read_clock reading w → IsPartDrained v new → IsPartDrained (read_clock reading w) new
part_behind reading w v new e p = subst (λ x. IsPartDrained x new) e p

pub closed_part : (reading : ℕ) (w v u new : World) → v ≡ read_clock reading w → (steps : ℕ) × DrainsIn v steps × (u ≡ drained steps v) → new ≡ u → IsPartDrained (read_clock reading w) new
closed_part reading w v u new e d f = (d.0, inl (f ∙ d.2 ∙ ap (drained d.0) e))

pub unclosed_behind : (reading : ℕ) (w v new : World) → v ≡ read_clock reading w → (steps : ℕ) × IsFront new.entries (drained steps v).entries → IsUnclosed reading w new
unclosed_behind reading w v new e f = subst (λ x. (steps : ℕ) × IsFront new.entries (drained steps x).entries) e f

pub unclosed_at_flush : (reading : ℕ) (w v u new : World) → v ≡ read_clock reading w → (steps : ℕ) × DrainsIn v steps × (u ≡ drained steps v) → new ≡ u → IsUnclosed reading w new
unclosed_at_flush reading w v u new e d f = (d.0, front_same (ap (λ x. x.entries) (sym (f ∙ d.2 ∙ ap (drained d.0) e))))
