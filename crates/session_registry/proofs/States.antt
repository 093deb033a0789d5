-- What is kept of sessions, where that of one of them changes.
use Rattle.std.proofs.Common.{◌≡◌, ℕ, zero, suc, ◌+◌, length, List, [], ◌∷◌, Option, Some, None, IfSome, refl, sym, ap, subst, ◌∙◌}
use Rattle.std.specs.Prelude.{◌||◌, map, slice_get, slice_set, option_map}
use Rattle.std.specs.List.{AllZip, list_any}
use Rattle.queue_rows.specs.Session.{Session}
use Rattle.queue_rows.specs.Turns.{is_live}
use Rattle.queue_rows.specs.World.{fresh}
use Rattle.queue_rows.specs.declared.history.SessionScript.{SessionScript}
use Rattle.sessions.specs.States.{IsStateOf}
use Rattle.sessions.specs.declared.state.SessionState.{SessionState}
use Rattle.session_registry.specs.Locks.{shown_from, shown}
use Rattle.session_registry.specs.Sessions.{fresh_state, session_of, changed_in, changed_at}
use Rattle.session_registry.specs.declared.locks.Locks.{Locks}

pub got_state : (xs : List SessionState) (i : ℕ) → slice_get (map session_of xs) i ≡ option_map session_of (slice_get xs i)
got_state [] i = refl
got_state (x ∷ xs) zero = refl
got_state (x ∷ xs) (suc i) = got_state xs i

got_some : (P : Session → Type 0) (o : Option SessionState) → IfSome (option_map session_of o) P → IfSome o (λ x. P (session_of x))
got_some P None h = tt
got_some P (Some x) h = h

-- what is asked of the session is asked of what is kept of it
pub got_of : (P : Session → Type 0) (xs : List SessionState) (i : ℕ) → IfSome (slice_get (map session_of xs) i) P → IfSome (slice_get xs i) (λ x. P (session_of x))
got_of P xs i h = got_some P (slice_get xs i) (subst (λ o. IfSome o P) (got_state xs i) h)

set_state : (xs : List SessionState) (i : ℕ) (x : SessionState) → map session_of (slice_set xs i x) ≡ slice_set (map session_of xs) i (session_of x)
set_state [] i x = refl
set_state (y ∷ ys) zero x = refl
set_state (y ∷ ys) (suc i) x = ap (λ more. session_of y ∷ more) (set_state ys i x)

-- it stays as it is
pub set_same : (xs : List SessionState) (i : ℕ) (x y : SessionState) → slice_get xs i ≡ Some x → y ≡ x → slice_set xs i y ≡ xs
set_same [] i x y there is = refl
set_same (z ∷ zs) zero x y there is = let same : z ≡ x = (let e : Some z ≡ Some x = there in cc) in ap (λ w. w ∷ zs) (is ∙ sym same)
set_same (z ∷ zs) (suc i) x y there is = ap (λ more. z ∷ more) (set_same zs i x y there is)

-- the one of that number becomes another one
pub state_changes : (f : Session → Session) (xs : List SessionState) (i : ℕ) (x y : SessionState) → slice_get xs i ≡ Some x → session_of y ≡ f (session_of x) → map session_of (slice_set xs i y) ≡ changed_at i f (map session_of xs)
state_changes f xs i x y there is =
    set_state xs i y ∙ ap (slice_set (map session_of xs) i) is ∙ sym (ap (changed_in i f (map session_of xs)) (got_state xs i ∙ ap (option_map session_of) there))

-- there is none of that number
pub no_state_changes : (f : Session → Session) (xs : List SessionState) (i : ℕ) → slice_get xs i ≡ None → map session_of xs ≡ changed_at i f (map session_of xs)
no_state_changes f xs i none = sym (ap (changed_in i f (map session_of xs)) (got_state xs i ∙ ap (option_map session_of) none))

states_from : (n : ℕ) (l : Locks) (xs : List SessionState) → AllZip IsStateOf xs (shown_from n l (map session_of xs))
states_from n l [] = tt
states_from n l (x ∷ xs) = (record { at = refl; next = refl; pending = refl; positions = refl; parked = refl }, states_from (n + 1) l xs)

-- they are those of the sessions with their marks
pub states_are : (l : Locks) (xs : List SessionState) → AllZip IsStateOf xs (shown l (map session_of xs))
states_are l xs = states_from 0 l xs

-- ---- the beginning

pub fresh_states : (scripts : List SessionScript) → map session_of (map (λ script. fresh_state script.at) scripts) ≡ map fresh scripts
fresh_states [] = refl
fresh_states (x ∷ xs) = ap (λ more. fresh x ∷ more) (fresh_states xs)

pub any_live_state : (xs : List SessionState) → list_any (λ x. x.live) xs ≡ list_any is_live (map session_of xs)
any_live_state [] = refl
any_live_state (x ∷ xs) = ap (λ b. x.live || b) (any_live_state xs)

pub count_states : (xs : List SessionState) → length (map session_of xs) ≡ length xs
count_states [] = refl
count_states (x ∷ xs) = ap suc (count_states xs)
