-- The serial history is legal, and so is a first part of it.
use Rattle.std.proofs.Common.{◌≡◌, ℕ, ◌⊎◌, inl, inr, List, [], ◌∷◌, ◌++◌, refl, sym, subst, ◌∙◌, map}
use Rattle.queue_rows.specs.World.{opening_moment, uncounted, World, opened, read_clock, entry_of}
use Rattle.queue_rows.specs.Order.{IsFront}
use Rattle.queue_rows.specs.Turns.{step_readings, drained}
use Rattle.queue_rows.specs.declared.tables.Tables.{Tables}
use Rattle.queue_rows.specs.declared.history.Entry.{Entry}
use Rattle.queue_rows.specs.declared.history.History.{History}
use Rattle.queue_rows.specs.declared.history.SessionScript.{SessionScript}
use Rattle.run_laws.specs.WorldLaws.{MayBegin}
use Rattle.queue_rows.specs.Serial.{rounds, at_closing, next_closing_turn, IsSerial, IsSerialFront, AreSerial, IsOnTheWay, in_rounds, in_closing, in_all}
use Rattle.queue_rows.specs.Legal.{IsLegal, opens, reads, steps, IsLegalBy, IsLegalHistory}
use Rattle.run_laws.proofs.Worlds.{opens_valid}
use Rattle.run_turns.proofs.Adding.{step_adds}
use Rattle.run_turns.proofs.Calling.{entries-opened}
use Rattle.run_turns.proofs.Sounding.{opened_sound}
use Rattle.run_turns.proofs.OnClock.{IsOnClock, rounds_on, draining_on, closing_on}

-- ---- first entries of a legal history

-- a front of a list with one more item is all of it, or a front of the list
front_snoc : (es rest xs : List Entry) (x : Entry) → es ++ rest ≡ xs ++ x ∷ [] → (es ≡ xs ++ x ∷ []) ⊎ ((more : List Entry) × (es ++ more ≡ xs))
front_snoc [] rest xs x e = inr (xs, refl)
front_snoc (y ∷ es) rest [] x e = let h : y ≡ x = cc in let t : es ++ rest ≡ [] = cc in inl (λ i. h i ∷ no_items es rest t i)
  where
    no_items : (es rest : List Entry) → es ++ rest ≡ [] → es ≡ []
    no_items [] rest e = refl
    no_items (z ∷ es) rest e = cc
front_snoc (y ∷ es) rest (z ∷ xs) x e = let h : y ≡ z = cc in let t : es ++ rest ≡ xs ++ x ∷ [] = cc in joined h (front_snoc es rest xs x t)
  where
    joined : y ≡ z → (es ≡ xs ++ x ∷ []) ⊎ ((more : List Entry) × (es ++ more ≡ xs)) → (y ∷ es ≡ z ∷ xs ++ x ∷ []) ⊎ ((more : List Entry) × (y ∷ es ++ more ≡ z ∷ xs))
    joined h (inl p) = inl (λ i. h i ∷ p i)
    joined h (inr (more, p)) = inr (more, λ i. h i ∷ p i)

-- the entries are those of a legal world
record AreLegal (start : World) (entries : List Entry) : Type 0 where
  readings : List ℕ
  end : World
  legal : IsLegal start readings end
  entries_are : end.entries ≡ entries

by_front : (start : World) (before : List ℕ) (v new : World) (es : List Entry) → IsLegal start before new → (f : IsFront es v.entries → AreLegal start es)
    → (es ≡ new.entries) ⊎ ((more : List Entry) × (es ++ more ≡ v.entries)) → AreLegal start es
by_front start before v new es l f (inl e) = record { readings = before; end = new; legal = l; entries_are = sym e }
by_front start before v new es l f (inr (more, e)) = f (more, e)

legal_front : (start : World) (readings : List ℕ) (w : World) (es : List Entry) → start.entries ≡ [] → IsLegal start readings w → IsFront es w.entries → AreLegal start es
unfolding read_clock
legal_front start rs w es none opens f = record { readings = []; end = start; legal = opens; entries_are = none ∙ sym (nothing_first es f.0 (f.1 ∙ none)) }
  where
    nothing_first : (es rest : List Entry) → es ++ rest ≡ [] → es ≡ []
    nothing_first [] rest e = refl
    nothing_first (z ∷ es) rest e = cc
legal_front start rs w es none (reads before v reading l) f = legal_front start before v es none l f
legal_front start rs w es none (steps before v new actor step l timely m) f =
    let a = step_adds actor step v new m in
    let added = entry_of actor v a.home a.away step in
    by_front start before v new es (steps before v new actor step l timely m) (legal_front start before v es none l) (whole a.entries (front_snoc es f.0 v.entries added (f.1 ∙ a.entries)))
  where
    whole : {xs : List Entry} → new.entries ≡ xs → (es ≡ xs) ⊎ ((more : List Entry) × (es ++ more ≡ v.entries)) → (es ≡ new.entries) ⊎ ((more : List Entry) × (es ++ more ≡ v.entries))
    whole e (inl p) = inl (p ∙ sym e)
    whole e (inr q) = inr q

-- ---- from the opening

readings-opened : (home away : Tables) (scripts : List SessionScript) → (opened home away scripts).readings ≡ 0
unfolding opened
readings-opened home away scripts = refl

opening-opened : (home away : Tables) (scripts : List SessionScript) → (opened home away scripts).opening ≡ opening_moment home away
unfolding opened
opening-opened home away scripts = refl

pub opened_on : (home away : Tables) (scripts : List SessionScript) → IsOnClock (opened home away scripts) (opened home away scripts)
opened_on home away scripts =
    let start = opened home away scripts in
    record { legal = subst (λ n. IsLegal start (step_readings start.opening n) start) (sym (readings-opened home away scripts)) opens; opening = refl }

module _ (home away : Tables) (scripts : List SessionScript) (b : MayBegin home away scripts) where
  abbrev start : World
  start = opened home away scripts

  rounds_here : (n : ℕ) → IsOnClock start (rounds n start)
  rounds_here n = rounds_on start (opens_valid home away scripts b) (opened_sound home away scripts) (entries-opened home away scripts) n start (opened_on home away scripts)

  closing_here : (n k : ℕ) → IsOnClock start (next_closing_turn k (rounds n start))
  closing_here n k = closing_on start (opens_valid home away scripts b) (opened_sound home away scripts) (entries-opened home away scripts) k (rounds n start) (rounds_here n)

  draining_here : (n k : ℕ) → IsOnClock start (drained k (at_closing (rounds n start)))
  draining_here n k = draining_on start (opens_valid home away scripts b) (opened_sound home away scripts) (entries-opened home away scripts) k (rounds n start) (rounds_here n)

  front_of : (w : World) (es : List Entry) → IsOnClock start w → IsFront es w.entries → AreLegal start es
  front_of w es c f = legal_front start (step_readings start.opening w.readings) w es (entries-opened home away scripts) c.legal f

  serial_front : (all es : List Entry) → AreSerial start all → IsFront es all → AreLegal start es
  serial_front all es s f = front_of (next_closing_turn s.steps (rounds s.count start)) es (closing_here s.count s.steps) (subst (IsFront es) s.entries_are f)

  way_legal : (es : List Entry) → IsOnTheWay start es → AreLegal start es
  way_legal es (in_rounds n f) = front_of (rounds n start) es (rounds_here n) f
  way_legal es (in_closing n ends k f) = front_of (drained k (at_closing (rounds n start))) es (draining_here n k) f
  way_legal es (in_all all s f) = serial_front all es s f

pub serial_is_legal : (home away : Tables) (scripts : List SessionScript) (h : History) → MayBegin home away scripts → IsSerial home away scripts h → (count : ℕ) × IsLegalBy (step_readings h.opening count) home away scripts h
serial_is_legal home away scripts h b s =
    let end = next_closing_turn s.turns.steps (rounds s.turns.count (opened home away scripts)) in
    let c = closing_here home away scripts b s.turns.count s.turns.steps in
    (end.readings, subst (λ o. IsLegalBy (step_readings o end.readings) home away scripts h) (opening-opened home away scripts ∙ sym s.begins.opening_is) (record { begins = s.begins; end = end; entries_are = s.turns.entries_are; legal = c.legal }))

pub serial_front_is_legal : (home away : Tables) (scripts : List SessionScript) (h : History) → MayBegin home away scripts → IsSerialFront home away scripts h → IsLegalHistory home away scripts h
serial_front_is_legal home away scripts h b front =
    let a = way_legal home away scripts b (map uncounted h.entries) front.way in
    (a.readings, record { begins = front.begins; end = a.end; entries_are = sym a.entries_are; legal = a.legal })
