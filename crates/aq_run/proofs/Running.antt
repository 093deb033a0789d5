-- Rounds until no session goes on.
use Rattle.std.proofs.Common.{◌≡◌, ◌≤◌, ◌<◌, ◌+◌, ◌-◌, ◌*◌, ◌⊎◌, inl, inr, ℕ, zero, suc, List, [], ◌∷◌, Bool, true, false, length, map, refl, sym, ap, subst, ◌∙◌, arith}
use Rattle.std.specs.Prelude.{◌^◌, ◌&&◌, slice_get, nat_le, if◌then◌else◌}
use Rattle.std.specs.List.{sum_by, list_all}
use Rattle.std.specs.Str.{bytes_eq}
use Rattle.std.proofs.lemmas.Bool.{and_parts, leb-true, cases_lt}
use Rattle.std.proofs.lemmas.List.Sums.{sum-map, sum_by-cons}
use Rattle.aq_base.specs.declared.limits.TheConstants.{SESSION_LIMIT, STATEMENT_LIMIT}
use Rattle.queue_rows.specs.Distinct.{are_distinct}
use Rattle.queue_rows.specs.Order.{IsFront}
use Rattle.queue_rows.specs.Within.{are_within, statement_count, is_script_within}
use Rattle.queue_rows.specs.declared.history.Entry.{Entry}
use Rattle.queue_rows.specs.declared.history.SessionScript.{SessionScript}
use Rattle.queue_rows.specs.World.{World}
use Rattle.queue_rows.specs.Turns.{next_reading, any_live, drained, DrainsIn}
use Rattle.queue_rows.specs.Serial.{rounds, round, at_closing, next_closing_turn, AreSerial, IsOnTheWay, in_rounds, in_closing}
use Rattle.aq_world.specs.Turning.{IsUnclosed}
use Rattle.aq_run.specs.Progress.{asked, asked_by, AreAt, AreTold}
use Rattle.aq_run.specs.Rounds.{IsClosed}
use Rattle.aq_run.proofs.Progress.{is_round, stays_at, one_further, live_within}

-- ---- so many rounds

-- the world is that after some number of rounds
pub record IsAfter (start w : World) : Type 0 where
  pub count : ℕ
  pub world : w ≡ rounds count start

pub after_none : (w : World) → IsAfter w w
unfolding rounds
after_none w = record { count = 0; world = refl }

rounds_next : (n : ℕ) (w v new : World) → v ≡ rounds n w → new ≡ round v → new ≡ rounds (suc n) w
unfolding rounds
rounds_next n w v new e is = is ∙ ap round e

pub after_next : (start w new : World) → IsAfter start w → new ≡ round w → IsAfter start new
after_next start w new a e = record { count = suc a.count; world = rounds_next a.count start w new a.world e }

-- broken off in a round
pub way_in_round : (start w : World) (es : List Entry) → IsAfter start w → IsFront es (round w).entries → IsOnTheWay start es
way_in_round start w es a front = in_rounds (suc a.count) (subst (λ u. IsFront es u.entries) (rounds_next a.count start w (round w) a.world refl) front)

-- broken off in the closing turn
pub way_in_closing : (start w new : World) → IsAfter start w → any_live w ≡ false → IsUnclosed (next_reading w) w new → IsOnTheWay start new.entries
way_in_closing start w new a over closed =
    in_closing a.count (ap any_live (sym a.world) ∙ over) closed.0
    (subst (λ v. IsFront new.entries (drained closed.0 (at_closing v)).entries) a.world closed.1)

pub whole_way : (start w new : World) → IsAfter start w → any_live w ≡ false → IsClosed w new → AreSerial start new.entries
whole_way start w new a over closed = record {
  count = a.count;
  ends = ap any_live (sym a.world) ∙ over;
  steps = closed.0;
  drains = subst (λ v. DrainsIn (at_closing v) closed.0) a.world closed.1;
  entries_are = ap (λ v. v.entries) closed.2 ∙ ap (λ v. (next_closing_turn closed.0 v).entries) a.world;
}

-- ---- how long it goes on

-- how many rounds have been taken so late that each session that goes on called a statement
pub record IsOnTime (w : World) : Type 0 where
  pub late : ℕ
  pub most : late ≤ 1000001
  pub at : AreAt late w
  pub told : AreTold w
  pub few : (i : ℕ) → asked w i ≤ 1000000
  pub readings : w.readings ≤ 2 ^ 62 + 66 + 66 * late

within_count : (scripts : List SessionScript) (i : ℕ) → asked_by (slice_get scripts i) ≤ sum_by (λ script. length script.statements) scripts
within_count [] i = omega arith
within_count (script ∷ more) zero =
    let e = sum_by-cons (λ (s : SessionScript). length s.statements) script more in
    omega (arith, e)
within_count (script ∷ more) (suc i) =
    let e = sum_by-cons (λ (s : SessionScript). length s.statements) script more in
    let rest = within_count more i in
    omega (arith, e, rest)

count_few : (scripts : List SessionScript) → are_within scripts ≡ true → statement_count scripts ≤ 1000000
unfolding are_within
count_few scripts h =
    let p3 = and_parts (nat_le (length scripts) SESSION_LIMIT && nat_le (statement_count scripts) STATEMENT_LIMIT && are_distinct bytes_eq (map (λ script. script.name) scripts)) (list_all is_script_within scripts) h in
    let p2 = and_parts (nat_le (length scripts) SESSION_LIMIT && nat_le (statement_count scripts) STATEMENT_LIMIT) (are_distinct bytes_eq (map (λ script. script.name) scripts)) p3.0 in
    leb-true (statement_count scripts) STATEMENT_LIMIT (and_parts (nat_le (length scripts) SESSION_LIMIT) (nat_le (statement_count scripts) STATEMENT_LIMIT) p2.0).1

asked_few : (w : World) → are_within w.scripts ≡ true → (i : ℕ) → asked w i ≤ 1000000
asked_few w h i =
    let here = within_count w.scripts i in
    let e : statement_count w.scripts ≡ sum_by (λ script. length script.statements) w.scripts = sum-map (λ (s : SessionScript). length s.statements) w.scripts in
    let few = count_few w.scripts h in
    omega (arith, here, e, few)

pub on_time : (w : World) → w.readings ≡ 0 → AreAt 0 w → AreTold w → are_within w.scripts ≡ true → IsOnTime w
on_time w readings at told within = record { late = 0; most = omega arith; at = at; told = told; few = asked_few w within; readings = omega (arith, readings) }

-- while a session goes on there are not many readings
pub few_so_far : (w : World) → IsOnTime w → any_live w ≡ true → w.readings < 2 ^ 62 + 2 ^ 30
few_so_far w t live =
    let late = live_within t.late 1000000 w live t.at t.few in
    let r = t.readings in
    omega (arith, late, r)

-- nor are there in all
pub few_in_all : (w : World) → IsOnTime w → w.readings < 2 ^ 63
few_in_all w t =
    let most = t.most in
    let r = t.readings in
    omega (arith, most, r)

few_next : (w : World) (i : ℕ) → ((i : ℕ) → asked w i ≤ 1000000) → asked (round w) i ≤ 1000000
few_next w i few =
    let e : asked (round w) i ≡ asked w i = ap (λ scripts. asked_by (slice_get scripts i)) (is_round w).on.scripts in
    let h = few i in
    omega (arith, e, h)

time_by : (w : World) → IsOnTime w → any_live w ≡ true → length w.sessions ≤ 64 → (w.readings < 2 ^ 62) ⊎ (2 ^ 62 ≤ w.readings) → IsOnTime (round w)
time_by w t live few (inl early) = record {
  late = t.late;
  most = t.most;
  at = stays_at t.late w t.at;
  told = (is_round w).told;
  few = λ i. few_next w i t.few;
  readings = let most = (is_round w).most in omega (arith, most, few, early);
}
time_by w t live few (inr late) = record {
  late = t.late + 1;
  most = let top = live_within t.late 1000000 w live t.at t.few in omega (arith, top);
  at = one_further t.late w late t.told t.at;
  told = (is_round w).told;
  few = λ i. few_next w i t.few;
  readings = let most = (is_round w).most in let before = t.readings in omega (arith, most, few, before);
}

pub on_time_next : (w new : World) → IsOnTime w → any_live w ≡ true → length w.sessions ≤ 64 → new ≡ round w → IsOnTime new
on_time_next w new t live few e = subst IsOnTime (sym e) (time_by w t live few (cases_lt w.readings (2 ^ 62)))

-- ---- it ends

abbrev live_left : Bool → ℕ
live_left b = if b then 1 else 0

-- how many rounds there can be yet
abbrev pub left_of : World → ℕ
left_of w = 2 ^ 62 + 2 ^ 30 - w.readings + live_left (any_live w)

left_if : (w : World) (b : Bool) → any_live w ≡ true → w.readings < 2 ^ 62 + 2 ^ 30 → any_live (round w) ≡ b → left_of (round w) < left_of w
left_if w true live few e =
    let more = (is_round w).reads e in
    let a : live_left (any_live w) ≡ 1 = ap live_left live in
    let b : live_left (any_live (round w)) ≡ 1 = ap live_left e in
    omega (arith, more, a, b, few)
left_if w false live few e =
    let more = (is_round w).on.least in
    let a : live_left (any_live w) ≡ 1 = ap live_left live in
    let b : live_left (any_live (round w)) ≡ 0 = ap live_left e in
    omega (arith, more, a, b)

pub left_less : (w new : World) → IsOnTime w → any_live w ≡ true → new ≡ round w → left_of new < left_of w
left_less w new t live e = subst (λ v. left_of v < left_of w) (sym e) (left_if w (any_live (round w)) live (few_so_far w t live) refl)
