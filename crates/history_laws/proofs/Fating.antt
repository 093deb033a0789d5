-- Proper changes have the facts on fates.
use Rattle.std.proofs.Common.{◌≡◌, ◌≤◌, ℕ, List, [], ◌∷◌, ◌++◌, true, false, refl, sym, ap, ◌∙◌, subst, Option, Some, None, append-nil}
use Rattle.std.specs.Prelude.{option_map, is_some, count_by}
use Rattle.std.specs.List.{list_any}
use Rattle.queue_rows.specs.Rows.{find_message, slot_of}
use Rattle.queue_rows.specs.Tables.{after_all}
use Rattle.queue_rows.specs.Valid.{is_valid}
use Rattle.history_laws.specs.Made.{changes_of, commits_of, after_commits, opening_of}
use Rattle.history_laws.specs.Fates.{fate_in, SlotFate, slot_fate_of, slot_fate_in, slot_fate_by, fate_by, fate, names, is_done}
use Rattle.history_laws.specs.Proper.{AreProper}
use Rattle.valid_laws.specs.Touching.{are_proper}
use Rattle.history_laws.specs.Lasting.{has_final, Agrees, HasFates}
use Rattle.queue_rows.specs.declared.tables.Tables.{Tables}
use Rattle.queue_rows.specs.declared.rows.MsgRow.{MsgRow}
use Rattle.queue_rows.specs.declared.rows.SlotRow.{SlotRow}
use Rattle.queue_rows.specs.declared.change.Change.{Change}
use Rattle.queue_rows.specs.declared.change.Commit.{Commit}
use Rattle.queue_rows.specs.declared.history.History.{History}
use Rattle.aq_base.specs.declared.DbId.{DbId}
use Rattle.history_laws.proofs.ProperCommits.{finds_after_commits}
use Rattle.history_laws.proofs.SlotFates.{AgreesSo, final_slot_fate}
use Rattle.history_laws.proofs.Holding.{Holds, holds_at, proper_parts}
use Rattle.history_laws.proofs.Naming.{unnamed, each_named, done_once}
use Rattle.history_laws.proofs.Opening.{holds_at_first}

-- ---- slot fates and fates

fate_of_final : (slot_fate : Option SlotFate) → has_final (option_map (λ c. c.fate) slot_fate) ≡ final_slot_fate slot_fate
fate_of_final None = refl
fate_of_final (Some c) = refl

fate_of_some : (slot_fate : Option SlotFate) → is_some (option_map (λ c. c.fate) slot_fate) ≡ is_some slot_fate
fate_of_some None = refl
fate_of_some (Some c) = refl

fate_of_row : (m : MsgRow) (slot : ℕ) (o : Option SlotRow) → slot_of m slot ≡ o → option_map (λ c. c.fate) (slot_fate_of slot m) ≡ option_map (λ s. fate_in s.state) (slot_of m slot)
fate_of_row m slot None e = rw e refl
fate_of_row m slot (Some s) e = rw e refl

agree_fates : (o : Option MsgRow) (slot : ℕ) (slot_fate : Option SlotFate) → AgreesSo o slot slot_fate → Agrees o slot (option_map (λ c. c.fate) slot_fate)
agree_fates None slot slot_fate k = λ some. fate_of_final slot_fate ∙ k (sym (fate_of_some slot_fate) ∙ some)
agree_fates (Some m) slot slot_fate k = ap (option_map (λ c. c.fate)) k ∙ fate_of_row m slot (slot_of m slot) refl

fate_is : (opening : Tables) (commits : List Commit) (id slot : ℕ) → fate opening commits id slot ≡ fate_by opening (changes_of commits) id slot
unfolding fate
fate_is opening commits id slot = refl

-- ---- the facts

module _ (opening : Tables) (commits : List Commit) (v : is_valid opening ≡ true) (p : AreProper opening (changes_of commits)) where
  abbrev all_changes : List Change
  all_changes = changes_of commits

  at_end : (id slot : ℕ) → AgreesSo (find_message (after_all opening (changes_of commits)) id) slot (slot_fate_by opening (changes_of commits) id slot)
  at_end id slot =
      let cs = changes_of commits in
      let whole : cs ++ [] ≡ cs = append-nil cs in
      let h = holds_at id slot cs [] opening (slot_fate_in opening id slot) (ap (are_proper opening) whole ∙ p.proper) (subst (Holds id slot opening (slot_fate_in opening id slot)) (sym whole) (holds_at_first opening cs id slot v p)) in
      h.holds.agrees

  pub agree : (id slot : ℕ) → Agrees (find_message (after_commits opening commits) id) slot (fate opening commits id slot)
  agree id slot =
      subst (λ o. Agrees o slot (fate opening commits id slot)) (sym (finds_after_commits opening commits id))
      (subst (Agrees (find_message (after_all opening (changes_of commits)) id) slot) (sym (fate_is opening commits id slot))
      (agree_fates (find_message (after_all opening (changes_of commits)) id) slot (slot_fate_by opening (changes_of commits) id slot) (at_end id slot)))

  pub each : (id slot : ℕ) → list_any (names id slot) (changes_of commits) ≡ true → is_some (fate opening commits id slot) ≡ true
  each id slot e =
      ap is_some (fate_is opening commits id slot) ∙ fate_of_some (slot_fate_by opening (changes_of commits) id slot)
      ∙ each_named (changes_of commits) opening id slot (slot_fate_in opening id slot) p.proper (holds_at_first opening (changes_of commits) id slot v p) e

  pub final : (id slot : ℕ) (before : List Change) (c : Change) (rest : List Change) → changes_of commits ≡ before ++ c ∷ rest → has_final (fate_by opening before id slot) ≡ true → names id slot c ≡ false
  final id slot before c rest e f =
      let h = holds_at id slot before (c ∷ rest) opening (slot_fate_in opening id slot) (ap (are_proper opening) (sym e) ∙ p.proper)
      (subst (Holds id slot opening (slot_fate_in opening id slot)) e (holds_at_first opening (changes_of commits) id slot v p)) in
      unnamed (after_all opening before) c rest id slot (slot_fate_by opening before id slot) (proper_parts (after_all opening before) c rest h.proper).0 h.holds (sym (fate_of_final (slot_fate_by opening before id slot)) ∙ f)

  pub once : (id slot : ℕ) → count_by (is_done id slot) (changes_of commits) ≤ 1
  once id slot = done_once (changes_of commits) opening id slot (slot_fate_in opening id slot) p.proper (holds_at_first opening (changes_of commits) id slot v p)

pub proper_has_fates : (db : DbId) (h : History) → is_valid (opening_of db h) ≡ true → AreProper (opening_of db h) (changes_of (commits_of db h.entries)) → HasFates db h
proper_has_fates db h v p = record {
  agree = agree (opening_of db h) (commits_of db h.entries) v p;
  each = each (opening_of db h) (commits_of db h.entries) v p;
  final = final (opening_of db h) (commits_of db h.entries) v p;
  once = once (opening_of db h) (commits_of db h.entries) v p;
}
