-- Of a session that is told of its statements in order a number says which those are.
use Rattle.std.proofs.Common.{◌≡◌, ◌≢◌, ℕ, ◌+◌, ◌<◌, ◌≤◌, ◌⊎◌, inl, inr, List, Bool, true, false, ◌&&◌, ◌||◌, Option, Some, None, refl, ap, ◌∙◌, arith, length}
use Rattle.std.specs.Prelude.{nat_le, nat_lt, ◌==◌, slice_get, slice_set, replicate}
use Rattle.std.proofs.lemmas.Bool.{cases_lt, false≢true}
use Rattle.std.proofs.lemmas.Grind.{common_steps}
use Rattle.std.proofs.lemmas.List.{get_or-replicate, length-replicate}
use Rattle.std.proofs.lemmas.Option.{slice_get-get_or, slice_get_past, slice_get_within}
use Rattle.queue_rows.proofs.Sessions.{get_set-same, get_set-other, same_or_not}
use Rattle.transcript.specs.Told.{is_next, is_up_to}

-- ---- before the first one

none_up_to : (n : ℕ) → (nat_lt 0 n && nat_le n 0) ≡ false
none_up_to n = grind (arith, common_steps)

-- a count of nothing for each session
abbrev pub zeros : ℕ → List ℕ
zeros sessions = replicate sessions 0

none_by : (sessions s n : ℕ) → (s < sessions) ⊎ (sessions ≤ s) → is_up_to (slice_get (zeros sessions) s) n ≡ false
none_by sessions s n (inl h) =
    let within : s < length (zeros sessions) = rw (length-replicate {A = ℕ} sessions 0) h in
    rw (slice_get-get_or (zeros sessions) s 0 within, get_or-replicate {A = ℕ} sessions s 0 0 h) (none_up_to n)
none_by sessions s n (inr h) =
    let past : length (zeros sessions) ≤ s = rw (length-replicate {A = ℕ} sessions 0) h in
    rw (slice_get_past (zeros sessions) s past) refl

pub none_counted : (sessions s n : ℕ) → is_up_to (slice_get (zeros sessions) s) n ≡ false
none_counted sessions s n = none_by sessions s n (cases_lt s sessions)

-- ---- with one more

within_by : (counts : List ℕ) (session number : ℕ) (o : Option ℕ) → slice_get counts session ≡ o → is_next o number ≡ true → session < length counts
within_by counts session number None e h = absurd (false≢true h)
within_by counts session number (Some count) e h = slice_get_within counts session count e

-- whose statement is the next one has a count
pub next_within : (counts : List ℕ) (session number : ℕ) → is_next (slice_get counts session) number ≡ true → session < length counts
next_within counts session number h = within_by counts session number (slice_get counts session) refl h

one_more : (count number n session s : ℕ) (rest : Bool) → (number == count + 1) ≡ true → s ≡ session
    → (is_up_to (Some number) n || rest) ≡ (((session == s) && (number == n)) || (is_up_to (Some count) n || rest))
one_more count number n session s rest h e = grind (arith, common_steps)

other_session : (session s number n : ℕ) (had rest : Bool) → s ≢ session → (had || rest) ≡ (((session == s) && (number == n)) || (had || rest))
other_session session s number n had rest d = grind (arith, common_steps)

module _ (counts : List ℕ) (session number s n : ℕ) (rest : Bool) where
  abbrev pub Goes : Option ℕ → Type 0
  Goes before = (is_up_to (slice_get (slice_set counts session number) s) n || rest) ≡ (((session == s) && (number == n)) || (is_up_to before n || rest))

  goes_by : (o : Option ℕ) → slice_get counts session ≡ o → is_next o number ≡ true → (s ≡ session) ⊎ (s ≢ session) → Goes (slice_get counts s)
  goes_by None e h d = absurd (false≢true h)
  goes_by (Some count) e h (inl same) =
      let now : slice_get (slice_set counts session number) s ≡ Some number = ap (slice_get (slice_set counts session number)) same ∙ get_set-same counts session number (slice_get_within counts session count e) in
      let before : slice_get counts s ≡ Some count = ap (slice_get counts) same ∙ e in
      rw (now, before) (one_more count number n session s rest h same)
  goes_by (Some count) e h (inr other) =
      rw (get_set-other counts session s number other) (other_session session s number n (is_up_to (slice_get counts s) n) rest other)

  -- the number goes on by one statement, and so does what it says
  pub goes_on : is_next (slice_get counts session) number ≡ true → Goes (slice_get counts s)
  goes_on h = goes_by (slice_get counts session) refl h (same_or_not session s)
