-- Marks and pending removals agree after a slot was taken.
use Rattle.std.proofs.Common.{◌≡◌, ℕ, List, [], ◌∷◌, ◌++◌, Bool, true, false, not, refl, sym, ap, ◌∙◌, ◌==◌, ◌&&◌, ◌||◌}
use Rattle.std.specs.Prelude.{map, if◌then◌else◌}
use Rattle.std.specs.List.{list_any}
use Rattle.std.proofs.lemmas.Bool.{and_parts, or_parts, eqb-true}
use Rattle.slot_marks.specs.Marks.{is_on, has_slot, kept_beside, taken}
use Rattle.slot_marks.specs.declared.mark.Mark.{Mark}
use Rattle.queue_rows.specs.Session.{marks_slot, without_mark}
use Rattle.queue_rows.specs.declared.rows.MsgRow.{MsgRow}
use Rattle.queue_rows.specs.declared.session.Pending.{Pending}
use Rattle.queue_rows.specs.declared.session.Pending.TheVariants.{Add, Remove}
use Rattle.row_laws.proofs.Finding.{filter-yes, filter-no}
use Rattle.statement_laws.specs.Sessions.{is_removal_of}
use Rattle.statement_laws.proofs.Among.{any_last}

abbrev pub removes_at : ℕ → ℕ → Mark → Bool
removes_at id slot mark = mark.removed && marks_slot id slot mark

abbrev pub Agree : List Mark → List Pending → Type 0
Agree marks pending = (id slot : ℕ) → list_any (removes_at id slot) marks ≡ list_any (is_removal_of id slot) pending

-- ---- a slot is marked

or_off : (a : Bool) → (a || false) ≡ a
or_off true = refl
or_off false = refl

both_or : (x y a : Bool) → ((x || y) && a) ≡ ((x && a) || (y && a))
both_or true true true = refl
both_or true true false = refl
both_or true false true = refl
both_or true false false = refl
both_or false true a = refl
both_or false false a = refl

gathered : (a o z r h : Bool) → ((a || (o && z)) || (r || (h && z))) ≡ ((a || r) || ((o || h) && z))
gathered true o z r h = refl
gathered false true true true h = refl
gathered false true true false h = refl
gathered false true false true h = refl
gathered false true false false true = refl
gathered false true false false false = refl
gathered false false z r h = refl

module _ (mark : Mark) (id slot : ℕ) where
  -- the mark removes that slot
  abbrev hit : Bool
  hit = removes_at id slot mark

  on_same : (own : Mark) → is_on mark.id mark.slot own ≡ true → marks_slot id slot own ≡ marks_slot id slot mark
  on_same own e =
      let p = and_parts (own.id == mark.id) (own.slot == mark.slot) e in
      ap (λ n. (n == id) && (own.slot == slot)) (eqb-true own.id mark.id p.0) ∙ ap (λ n. (mark.id == id) && (n == slot)) (eqb-true own.slot mark.slot p.1)

  kept_by : (own : Mark) (b : Bool) → is_on mark.id mark.slot own ≡ b → removes_at id slot (if b then record own { removed = own.removed || mark.removed } else own) ≡ (removes_at id slot own || (b && hit))
  kept_by own true e = both_or own.removed mark.removed (marks_slot id slot own) ∙ ap (λ a. (own.removed && marks_slot id slot own) || (mark.removed && a)) (on_same own e)
  kept_by own false e = sym (or_off (removes_at id slot own))

  kept_so : (own : Mark) → removes_at id slot (kept_beside mark own) ≡ (removes_at id slot own || (is_on mark.id mark.slot own && hit))
  kept_so own = kept_by own (is_on mark.id mark.slot own) refl

  all_kept : (marks : List Mark) → list_any (removes_at id slot) (map (kept_beside mark) marks) ≡ (list_any (removes_at id slot) marks || (has_slot mark.id mark.slot marks && hit))
  all_kept [] = refl
  all_kept (own ∷ marks) =
      ap (λ b. b || list_any (removes_at id slot) (map (kept_beside mark) marks)) (kept_so own)
      ∙ ap (λ b. (removes_at id slot own || (is_on mark.id mark.slot own && hit)) || b) (all_kept marks)
      ∙ gathered (removes_at id slot own) (is_on mark.id mark.slot own) hit (list_any (removes_at id slot) marks) (has_slot mark.id mark.slot marks)

  taken_by : (marks : List Mark) (b : Bool) → has_slot mark.id mark.slot marks ≡ b → list_any (removes_at id slot) (if b then map (kept_beside mark) marks else marks ++ mark ∷ []) ≡ (list_any (removes_at id slot) marks || hit)
  taken_by marks true e = all_kept marks ∙ ap (λ b. list_any (removes_at id slot) marks || (b && hit)) e
  taken_by marks false e = any_last (removes_at id slot) marks mark

  pub taken_removes : (marks : List Mark) → list_any (removes_at id slot) (taken marks mark) ≡ (list_any (removes_at id slot) marks || hit)
  taken_removes marks = taken_by marks (has_slot mark.id mark.slot marks) refl

-- the slot is marked as removed, and its removal pending
pub agree_later : (mark : Mark) (marks : List Mark) (pending : List Pending) → mark.removed ≡ true → Agree marks pending → Agree (taken marks mark) (pending ++ Remove mark.id mark.slot ∷ [])
agree_later mark marks pending e h id slot =
    taken_removes mark id slot marks
    ∙ ap (λ b. list_any (removes_at id slot) marks || (b && marks_slot id slot mark)) e
    ∙ ap (λ b. b || marks_slot id slot mark) (h id slot)
    ∙ sym (any_last (is_removal_of id slot) pending (Remove mark.id mark.slot))

-- the slot is only locked
pub agree_locked : (mark : Mark) (marks : List Mark) (pending : List Pending) → mark.removed ≡ false → Agree marks pending → Agree (taken marks mark) pending
agree_locked mark marks pending e h id slot =
    taken_removes mark id slot marks
    ∙ ap (λ b. list_any (removes_at id slot) marks || (b && marks_slot id slot mark)) e
    ∙ or_off (list_any (removes_at id slot) marks) ∙ h id slot

-- an addition removes nothing
pub pending_agree : (id slot : ℕ) (pending : List Pending) (m : MsgRow) → list_any (is_removal_of id slot) (pending ++ Add m ∷ []) ≡ list_any (is_removal_of id slot) pending
pending_agree id slot pending m = any_last (is_removal_of id slot) pending (Add m) ∙ or_off (list_any (is_removal_of id slot) pending)

-- ---- the marks on a slot go

not_both : (a b : Bool) → b ≡ true → (a && b) ≡ false → a ≡ false
not_both true b e h = absurd (let no : true ≡ false = sym e ∙ h in cc)
not_both false b e h = refl

module _ (id slot other behind : ℕ) where
  without_step : (own : Mark) (marks : List Mark) (b : Bool) → marks_slot id slot own ≡ b → removes_at id slot own ≡ false → list_any (removes_at other behind) (without_mark id slot marks) ≡ list_any (removes_at other behind) marks
      → list_any (removes_at other behind) (without_mark id slot (own ∷ marks)) ≡ list_any (removes_at other behind) (own ∷ marks)
  without_step own marks true e h ih =
      let off : own.removed ≡ false = not_both own.removed (marks_slot id slot own) e h in
      ap (list_any (removes_at other behind)) (filter-no (λ mark. not (marks_slot id slot mark)) (λ mark. not (marks_slot id slot mark)) own marks (ap not e))
      ∙ ih ∙ ap (λ a. (a && marks_slot other behind own) || list_any (removes_at other behind) marks) (sym off)
  without_step own marks false e h ih =
      ap (list_any (removes_at other behind)) (filter-yes (λ mark. not (marks_slot id slot mark)) (λ mark. not (marks_slot id slot mark)) own marks (ap not e))
      ∙ ap (λ b. removes_at other behind own || b) ih

  pub without_removes : (marks : List Mark) → list_any (removes_at id slot) marks ≡ false → list_any (removes_at other behind) (without_mark id slot marks) ≡ list_any (removes_at other behind) marks
  without_removes [] h = refl
  without_removes (own ∷ marks) h =
      let p = or_parts (removes_at id slot own) (list_any (removes_at id slot) marks) h in
      without_step own marks (marks_slot id slot own) refl p.0 (without_removes marks p.1)

pub agree_at_once : (id slot : ℕ) (marks : List Mark) (pending : List Pending) → list_any (removes_at id slot) marks ≡ false → Agree marks pending → Agree (without_mark id slot marks) pending
agree_at_once id slot marks pending e h other behind = without_removes id slot other behind marks e ∙ h other behind
