-- Entries of which each flush made few calls, and one more.
use Rattle.std.proofs.Common.{◌≡◌, ◌≤◌, ◌+◌, ◌++◌, ℕ, false, List, [], ◌∷◌, sym, ◌∙◌, arith}
use Rattle.std.proofs.lemmas.Bool.{false≢true}
use Rattle.history_laws.specs.Durability.{is_flush}
use Rattle.queue_rows.specs.declared.history.Entry.{Entry}
use Rattle.durable_state.specs.Brief.{AreBrief, AreBriefBehind, EndsAt, EndsBehind, IsBriefBehind}

-- ---- an entry that is no flush

quiet : (before e : Entry) → is_flush e.step ≡ false → IsBriefBehind before e
quiet before e still is = absurd (false≢true (sym still ∙ is))

quiet_behind : (before : Entry) (es : List Entry) (e : Entry) → is_flush e.step ≡ false → AreBriefBehind before es → AreBriefBehind before (es ++ e ∷ [])
quiet_behind before [] e still all = (quiet before e still, tt)
quiet_behind before (x ∷ es) e still all = (all.0, quiet_behind x es e still all.1)

pub quiet_push : (es : List Entry) (e : Entry) → is_flush e.step ≡ false → AreBrief es → AreBrief (es ++ e ∷ [])
quiet_push [] e still all = tt
quiet_push (x ∷ es) e still all = quiet_behind x es e still all

-- ---- a flush

module _ (home away : ℕ) (e : Entry) (at_home : e.home_calls ≤ home + 4) (at_away : e.away_calls ≤ away + 4) where
  flush_behind : (before : Entry) (es : List Entry) → AreBriefBehind before es → EndsBehind home away before es → AreBriefBehind before (es ++ e ∷ [])
  flush_behind before [] all ends = (λ is. (let h = ends.0 in omega (arith, at_home, h), let a = ends.1 in omega (arith, at_away, a)), tt)
  flush_behind before (x ∷ es) all ends = (all.0, flush_behind x es all.1 ends)

  pub flush_push : (es : List Entry) → AreBrief es → EndsAt home away es → AreBrief (es ++ e ∷ [])
  flush_push [] all ends = tt
  flush_push (x ∷ es) all ends = flush_behind x es all ends

-- ---- the last entry

module _ (home away : ℕ) (e : Entry) (at_home : e.home_calls ≡ home) (at_away : e.away_calls ≡ away) where
  ends_behind : (before : Entry) (es : List Entry) → EndsBehind home away before (es ++ e ∷ [])
  ends_behind before [] = (at_home, at_away)
  ends_behind before (x ∷ es) = ends_behind x es

  pub ends_push : (es : List Entry) → EndsAt home away (es ++ e ∷ [])
  ends_push [] = (at_home, at_away)
  ends_push (x ∷ es) = ends_behind x es
