-- Entries only grow from turn to turn.
use Rattle.std.proofs.Common.{◌≡◌, ℕ, zero, suc, ◌+◌, ◌-◌, ◌<◌, List, Option, Some, None, sym, ap, subst, ◌∙◌, arith, length, add-one, refl}
use Rattle.std.specs.Prelude.{◌++◌, slice_get}
use Rattle.queue_rows.specs.Session.{Session, Untold}
use Rattle.queue_rows.specs.Order.{IsFront}
use Rattle.queue_rows.specs.declared.history.Entry.{Entry}
use Rattle.queue_rows.specs.World.{World}
use Rattle.queue_rows.specs.Turns.{next_reading, telling_of, telling_of_some, telling_turn}
use Rattle.queue_rows.specs.Serial.{each, next_session_turn, next_timer_turn, next_propagator_turn, session_turns, telling_turns, round}
use Rattle.run_turns.proofs.Growing.{Grows, front_trans, grows_trans, grows_self}
use Rattle.aq_world.proofs.Fronts.{propagator_grows, session_grows, timer_grows, told_grows}

-- the entries so far are those of the first world
pub front_of : {xs ys zs : List Entry} → xs ≡ ys → IsFront ys zs → IsFront xs zs
front_of e f = (f.0, ap (λ es. es ++ f.0) e ∙ f.1)

-- ---- each turn

pub grows-session_turn : (i : ℕ) (w : World) → Grows w (next_session_turn i w)
grows-session_turn i w = session_grows (next_reading w) i w

telling_by : (i : ℕ) (s : Session) (o : Option Untold) (w : World) → Grows w (telling_of i s o w)
telling_by i s None w = grows_self w
telling_by i s (Some u) w = told_grows i s u.number w

telling_some : (i : ℕ) (o : Option Session) (w : World) → Grows w (telling_of_some i o w)
telling_some i None w = grows_self w
telling_some i (Some s) w = telling_by i s s.untold w

pub grows-telling_turn : (i : ℕ) (w : World) → Grows w (telling_turn i w)
unfolding telling_turn
grows-telling_turn i w = telling_some i (slice_get w.sessions i) w

grows-timer : (w : World) → Grows w (next_timer_turn w)
grows-timer w = timer_grows (next_reading w) w

grows-propagator : (w : World) → Grows w (next_propagator_turn w)
grows-propagator w = propagator_grows (next_reading w) w

-- ---- the turns of several sessions, one after another

module _ (f : ℕ → World → World) where
  pub each_next : (at : ℕ) (w v new : World) → v ≡ each f at w → new ≡ f at v → new ≡ each f (at + 1) w
  each_next at w v new e is = is ∙ ap (f at) e ∙ sym (ap (λ n. each f n w) (add-one at))

  module _ (g : (i : ℕ) (w : World) → Grows w (f i w)) where
    grows-each : (n : ℕ) (w : World) → Grows w (each f n w)
    grows-each zero w = grows_self w
    grows-each (suc n) w = grows_trans w (each f n w) (each f (suc n) w) (grows-each n w) (g n (each f n w))

    -- the turns of the first sessions begin those of more
    grows-more : (n k : ℕ) (w : World) → Grows (each f n w) (each f (k + n) w)
    grows-more n zero w = let e : n ≡ zero + n = omega arith in subst (λ m. Grows (each f n w) (each f m w)) e (grows_self (each f n w))
    grows-more n (suc k) w =
        let e : suc (k + n) ≡ suc k + n = omega arith in
        subst (λ m. Grows (each f n w) (each f m w)) e (grows_trans (each f n w) (each f (k + n) w) (each f (suc (k + n)) w) (grows-more n k w) (g (k + n) (each f (k + n) w)))

    -- what begins the entries of one turn more begins those of all turns
    pub each_front : (at n : ℕ) (w v : World) (es : List Entry) → v ≡ each f at w → at < n → IsFront es (f at v).entries → IsFront es (each f n w).entries
    each_front at n w v es e lt front =
        let rest : n - suc at + suc at ≡ n = omega (arith, lt) in
        let here : IsFront es (each f (suc at) w).entries = subst (λ u. IsFront es (f at u).entries) e front in
        let all : IsFront (each f (suc at) w).entries (each f n w).entries = subst (λ m. IsFront (each f (suc at) w).entries (each f m w).entries) rest (grows-more (suc at) (n - suc at) w) in
        front_trans es (each f (suc at) w).entries (each f n w).entries here all

-- ---- what begins the entries of a part of a round begins those of the round

grows_behind : (w : World) → Grows w (telling_turns w)
grows_behind w = grows-each telling_turn grows-telling_turn (length w.sessions) w

pub front_sessions : (w : World) (es : List Entry) → IsFront es (session_turns w).entries → IsFront es (round w).entries
unfolding round
front_sessions w es front =
    let a = session_turns w in
    let b = next_timer_turn a in
    let c = next_propagator_turn b in
    front_trans es a.entries (telling_turns c).entries front
    (grows_trans a b (telling_turns c) (grows-timer a) (grows_trans b c (telling_turns c) (grows-propagator b) (grows_behind c)))

pub front_timer : (w v : World) (es : List Entry) → v ≡ session_turns w → IsFront es (next_timer_turn v).entries → IsFront es (round w).entries
unfolding round
front_timer w v es e front =
    let b = next_timer_turn (session_turns w) in
    let c = next_propagator_turn b in
    let here : IsFront es b.entries = subst (λ x. IsFront es (next_timer_turn x).entries) e front in
    front_trans es b.entries (telling_turns c).entries here (grows_trans b c (telling_turns c) (grows-propagator b) (grows_behind c))

pub front_propagator : (w u v : World) (es : List Entry) → u ≡ session_turns w → v ≡ next_timer_turn u → IsFront es (next_propagator_turn v).entries → IsFront es (round w).entries
unfolding round
front_propagator w u v es e so front =
    let c = next_propagator_turn (next_timer_turn (session_turns w)) in
    let same : v ≡ next_timer_turn (session_turns w) = so ∙ ap next_timer_turn e in
    let here : IsFront es c.entries = subst (λ x. IsFront es (next_propagator_turn x).entries) same front in
    front_trans es c.entries (telling_turns c).entries here (grows_behind c)

along : (w a b c : World) → a ≡ session_turns w → b ≡ next_timer_turn a → c ≡ next_propagator_turn b → c ≡ next_propagator_turn (next_timer_turn (session_turns w))
along w a b c e f g = g ∙ ap next_propagator_turn (f ∙ ap next_timer_turn e)

pub round_is : (w a b c new : World) → a ≡ session_turns w → b ≡ next_timer_turn a → c ≡ next_propagator_turn b → new ≡ telling_turns c → new ≡ round w
unfolding round
round_is w a b c new e f g h = h ∙ ap telling_turns (along w a b c e f g)

pub front_telling : (w a b c : World) (es : List Entry) → a ≡ session_turns w → b ≡ next_timer_turn a → c ≡ next_propagator_turn b → IsFront es (telling_turns c).entries → IsFront es (round w).entries
front_telling w a b c es e f g front = subst (λ v. IsFront es v.entries) (round_is w a b c (telling_turns c) e f g refl) front
