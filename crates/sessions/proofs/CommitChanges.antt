-- The changes of a commit, one after another, by the queues alone; and how low these come.
use Rattle.std.proofs.Common.{◌≡◌, ℕ, ◌+◌, ◌<◌, ◌≤◌, ◌^◌, suc, List, [], ◌∷◌, ◌++◌, true, false, Option, Some, None, All, IfSome, length, length-append, refl, ap, sym, subst, ◌∙◌, append_assoc, arith, inl, inr}
use Rattle.std.specs.Prelude.{ℤ, pos, int_lt, find}
use Rattle.std.specs.List.{list_any}
use Rattle.std.specs.Str.{bytes_eq}
use Rattle.std.proofs.lemmas.Bool.{cases_Bool}
use Rattle.std.proofs.lemmas.Int.{ints}
use Rattle.std.proofs.lemmas.List.Elements.{All-head, All-same, All-weaker}
use Rattle.queue_rows.specs.Rows.{find_table, find_queue}
use Rattle.queue_rows.specs.Tables.{lane_of, min_int, is_grouped, lowered_to, after_change}
use Rattle.queue_rows.specs.Commits.{has_before, lane_at_commit, place_at_commit, completed_in, completed_by, completed, change_of, changes_from}
use Rattle.queue_rows.specs.declared.tables.Tables.{Tables}
use Rattle.queue_rows.specs.declared.rows.TableRow.{TableRow}
use Rattle.queue_rows.specs.declared.rows.QueueRow.{QueueRow}
use Rattle.queue_rows.specs.declared.rows.MsgRow.{MsgRow}
use Rattle.queue_rows.specs.declared.session.Pending.{Pending}
use Rattle.queue_rows.specs.declared.session.Pending.TheVariants.{Add, Remove}
use Rattle.queue_rows.specs.declared.change.Change.{Change}
use Rattle.queue_rows.specs.declared.change.Change.TheVariants.{Enqueued}
use Rattle.sessions.specs.Numbers.{IsAbove, IsLowest, IsPendable}
use Rattle.sessions.specs.Running.{is_addition, with_queues, queues_after}
use Rattle.sessions.proofs.Each.{found_each, first_each}

-- ---- only the queue tables and the queues matter

completed_by_same : (u v : Tables) (q : Option QueueRow) (group moment : ℕ) (m : MsgRow) → u.tables ≡ v.tables → completed_by u q group moment m ≡ completed_by v q group moment m
completed_by_same u v None group moment m e = refl
completed_by_same u v (Some q) group moment m e = ap (λ tables. completed_in (find (λ r. bytes_eq r.name q.table) tables) q group moment m) e

completed_same : (u v : Tables) (group moment : ℕ) (m : MsgRow) → u.tables ≡ v.tables → u.queues ≡ v.queues → completed u group moment m ≡ completed v group moment m
completed_same u v group moment m e f =
    completed_by_same u v (find_queue u m.queue) group moment m e
    ∙ ap (λ queues. completed_by v (find (λ r. bytes_eq r.name m.queue) queues) group moment m) f

change_same : (u v : Tables) (group moment : ℕ) (p : Pending) → u.tables ≡ v.tables → u.queues ≡ v.queues → change_of u group moment p ≡ change_of v group moment p
change_same u v group moment (Add m) e f = ap (λ row. Enqueued row) (completed_same u v group moment m e f)
change_same u v group moment (Remove id slot) e f = refl

tables_after : (u : Tables) (group moment : ℕ) (p : Pending) → (after_change u (change_of u group moment p)).tables ≡ u.tables
tables_after u group moment (Add m) = refl
tables_after u group moment (Remove id slot) = refl

queues_are : (u : Tables) (group moment : ℕ) (p : Pending) → (after_change u (change_of u group moment p)).queues ≡ queues_after u.tables u.queues (change_of u group moment p)
queues_are u group moment (Add m) = refl
queues_are u group moment (Remove id slot) = refl

queues_same : (u v : Tables) (group moment : ℕ) (p : Pending) → u.tables ≡ v.tables → u.queues ≡ v.queues
    → (after_change u (change_of u group moment p)).queues ≡ (after_change v (change_of v group moment p)).queues
queues_same u v group moment p e f =
    queues_are u group moment p
    ∙ ap (λ tables. queues_after tables u.queues (change_of u group moment p)) e
    ∙ ap (λ queues. queues_after v.tables queues (change_of u group moment p)) f
    ∙ ap (λ c. queues_after v.tables v.queues c) (change_same u v group moment p e f)
    ∙ sym (queues_are v group moment p)

changes_same : (u v : Tables) (group moment : ℕ) (ps : List Pending) → u.tables ≡ v.tables → u.queues ≡ v.queues → changes_from u group moment ps ≡ changes_from v group moment ps
changes_same u v group moment [] e f = refl
changes_same u v group moment (p ∷ more) e f =
    ap (λ c. c ∷ changes_from (after_change u (change_of u group moment p)) group moment more) (change_same u v group moment p e f)
    ∙ ap (λ rest. change_of v group moment p ∷ rest) (changes_same (after_change u (change_of u group moment p)) (after_change v (change_of v group moment p)) group moment more
    (tables_after u group moment p ∙ e ∙ sym (tables_after v group moment p)) (queues_same u v group moment p e f))

-- the first change, and those behind it in the queues that it leaves
pub next_change : (t : Tables) (queues : List QueueRow) (group moment : ℕ) (p : Pending) (more : List Pending)
    → changes_from (with_queues t queues) group moment (p ∷ more)
    ≡ change_of (with_queues t queues) group moment p ∷ changes_from (with_queues t (queues_after t.tables queues (change_of (with_queues t queues) group moment p))) group moment more
next_change t queues group moment p more =
    let u : Tables = with_queues t queues in
    ap (λ rest. change_of u group moment p ∷ rest) (changes_same (after_change u (change_of u group moment p)) (with_queues t (queues_after t.tables queues (change_of u group moment p))) group moment more
    (tables_after u group moment p) (queues_are u group moment p))

removals_same : (u v : Tables) (group moment : ℕ) (ps : List Pending) → list_any is_addition ps ≡ false → changes_from u group moment ps ≡ changes_from v group moment ps
removals_same u v group moment [] none = refl
removals_same u v group moment (Add m ∷ more) none = absurd (let e : true ≡ false = none in cc)
removals_same u v group moment (Remove id slot ∷ more) none =
    ap (λ rest. change_of u group moment (Remove id slot) ∷ rest) (removals_same (after_change u (change_of u group moment (Remove id slot))) (after_change v (change_of v group moment (Remove id slot))) group moment more none)

-- removals look at no queue
pub removals_alone : (t : Tables) (queues : List QueueRow) (group moment : ℕ) (ps : List Pending) → list_any is_addition ps ≡ false
    → changes_from (with_queues t queues) group moment ps ≡ changes_from t group moment ps
removals_alone t queues group moment ps none = removals_same (with_queues t queues) t group moment ps none

-- ---- how low queues come

pub lowest_within : (n k : ℕ) (queues : List QueueRow) → n ≤ k → All (IsLowest n) queues → All (IsLowest k) queues
lowest_within n k queues le all = All-weaker (IsLowest n) (IsLowest k) (λ q h. omega (arith, ints, h, le)) queues all

new_above : (table : TableRow) (queue : QueueRow) (group n : ℕ) (place : List ℤ) → IsLowest n queue → IsAbove (n + 1) (lane_at_commit table queue group place)
new_above table queue group n place low = elim (cases_Bool table.grouped) [
  | inl grouped ↦ rw grouped (omega (arith, ints))
  | inr single ↦ rw single (elim (cases_Bool (int_lt (lane_of place) (pos 0))) [
    | inl top ↦ rw top (omega (arith, ints, low))
    | inr not_top ↦ rw not_top (omega (arith, ints))
  ])
]

place_above : (table : TableRow) (queue : QueueRow) (group n moment : ℕ) (m : MsgRow) → IsAbove n (lane_of m.place) → IsLowest n queue
    → IsAbove (n + 1) (lane_of (place_at_commit table queue group moment m))
place_above table queue group n moment m lane low = elim (cases_Bool (has_before table.columns m.place)) [
  | inl before ↦ rw before (omega (arith, ints, lane))
  | inr new ↦ rw new (new_above table queue group n m.place low)
]

in_above : (table : Option TableRow) (queue : QueueRow) (group n moment : ℕ) (m : MsgRow) → IsAbove n (lane_of m.place) → IsLowest n queue
    → IsAbove (n + 1) (lane_of (completed_in table queue group moment m).place)
in_above None queue group n moment m lane low = omega (arith, ints, lane)
in_above (Some table) queue group n moment m lane low = place_above table queue group n moment m lane low

by_above : (t : Tables) (queue : Option QueueRow) (group n moment : ℕ) (m : MsgRow) → IsAbove n (lane_of m.place) → IfSome queue (IsLowest n)
    → IsAbove (n + 1) (lane_of (completed_by t queue group moment m).place)
by_above t None group n moment m lane low = omega (arith, ints, lane)
by_above t (Some queue) group n moment m lane low = in_above (find_table t queue.table) queue group n moment m lane low

pub min_above : (n : ℕ) (a b : ℤ) → IsAbove n a → IsAbove n b → IsAbove n (min_int a b)
min_above n a b h k = elim (cases_Bool (int_lt a b)) [ inl less ↦ rw less h | inr more ↦ rw more k ]

lowered_above : (tables : List TableRow) (place : List ℤ) (n : ℕ) (queue : QueueRow) → IsAbove n (lane_of place) → IsLowest n queue → IsLowest n (lowered_to tables place queue)
lowered_above tables place n queue lane low = elim (cases_Bool (is_grouped tables queue)) [
  | inl grouped ↦ rw grouped low
  | inr single ↦ rw single (min_above n queue.lowest (lane_of place) low lane)
]

after_above : (t : Tables) (queues : List QueueRow) (group moment n b : ℕ) (p : Pending) → b ≤ n → 2 ^ 62 ≡ b → IsPendable p → All (IsLowest n) queues
    → All (IsLowest (n + 1)) (queues_after t.tables queues (change_of (with_queues t queues) group moment p))
after_above t queues group moment n b (Remove id slot) le is h all = lowest_within n (n + 1) queues (omega arith) all
after_above t queues group moment n b (Add m) le is h all =
    let old : IsAbove b (lane_of m.place) = subst (λ k. IsAbove k (lane_of m.place)) is h.lane in
    let lane : IsAbove n (lane_of m.place) = omega (arith, ints, old, le) in
    let row : MsgRow = completed (with_queues t queues) group moment m in
    let new : IsAbove (n + 1) (lane_of row.place) = by_above (with_queues t queues) (find_queue (with_queues t queues) m.queue) group n moment m lane (found_each (IsLowest n) (λ r. bytes_eq r.name m.queue) queues all) in
    first_each (IsLowest (n + 1)) (λ q. bytes_eq q.name row.queue) (lowered_to t.tables row.place) queues (λ q low. lowered_above t.tables row.place (n + 1) q new low) (lowest_within n (n + 1) queues (omega arith) all)

-- the same, where the changes so far are counted
pub next_lowest : (t : Tables) (queues : List QueueRow) (group moment b : ℕ) (p : Pending) (changes : List Change) (c : Change) → 2 ^ 62 ≡ b → IsPendable p
    → All (IsLowest (b + length changes)) queues
    → All (IsLowest (b + length (changes ++ c ∷ []))) (queues_after t.tables queues (change_of (with_queues t queues) group moment p))
next_lowest t queues group moment b p changes c is h all =
    let e : b + length changes + 1 ≡ b + length (changes ++ c ∷ []) = rw length-append (omega arith) in
    subst (λ n. All (IsLowest n) (queues_after t.tables queues (change_of (with_queues t queues) group moment p))) e
    (after_above t queues group moment (b + length changes) b p (omega arith) is h all)

-- ---- a step of the walk over the pending changes

pub step_changes : (t : Tables) (queues left : List QueueRow) (group moment : ℕ) (changes longer : List Change) (p : Pending) (rest ps : List Pending) (c : Change) (all : List Change)
    → ps ≡ p ∷ rest → c ≡ change_of (with_queues t queues) group moment p → left ≡ queues_after t.tables queues c → longer ≡ changes ++ c ∷ []
    → changes ++ changes_from (with_queues t queues) group moment ps ≡ all
    → longer ++ changes_from (with_queues t left) group moment rest ≡ all
step_changes t queues left group moment changes longer p rest ps c all steps is lowered pushed before =
    let first : Change = change_of (with_queues t queues) group moment p in
    let more : List Change = changes_from (with_queues t (queues_after t.tables queues first)) group moment rest in
    let next : changes_from (with_queues t queues) group moment ps ≡ first ∷ more = ap (λ qs. changes_from (with_queues t queues) group moment qs) steps ∙ next_change t queues group moment p rest in
    let queues_left : left ≡ queues_after t.tables queues first = lowered ∙ ap (λ d. queues_after t.tables queues d) is in
    let changes_left : longer ≡ changes ++ first ∷ [] = pushed ∙ ap (λ d. changes ++ d ∷ []) is in
    ap (λ cs. cs ++ changes_from (with_queues t left) group moment rest) changes_left
    ∙ ap (λ qs. (changes ++ first ∷ []) ++ changes_from (with_queues t qs) group moment rest) queues_left
    ∙ append_assoc changes (first ∷ []) more
    ∙ ap (λ cs. changes ++ cs) (sym next)
    ∙ before

pub step_count : (changes longer : List Change) (c : Change) (p : Pending) (rest ps : List Pending) (n : ℕ) → ps ≡ p ∷ rest → longer ≡ changes ++ c ∷ []
    → length changes + length ps < n → length longer + length rest < n
step_count changes longer c p rest ps n steps pushed before =
    let e : length longer ≡ length changes + 1 = ap length pushed ∙ length-append changes (c ∷ []) in
    let f : length ps ≡ suc (length rest) = ap length steps in
    omega arith

pub step_lowest : (t : Tables) (queues left : List QueueRow) (group moment b : ℕ) (changes longer : List Change) (p : Pending) (rest ps : List Pending) (c : Change)
    → 2 ^ 62 ≡ b → ps ≡ p ∷ rest → c ≡ change_of (with_queues t queues) group moment p → left ≡ queues_after t.tables queues c → longer ≡ changes ++ c ∷ []
    → All IsPendable ps → All (IsLowest (b + length changes)) queues → All (IsLowest (b + length longer)) left
step_lowest t queues left group moment b changes longer p rest ps c is_b steps is lowered pushed pendable low =
    let h : IsPendable p = All-head IsPendable p rest (All-same IsPendable (p ∷ rest) ps (sym steps) pendable) in
    let queues_left : queues_after t.tables queues (change_of (with_queues t queues) group moment p) ≡ left = sym (lowered ∙ ap (λ d. queues_after t.tables queues d) is) in
    let e : b + length (changes ++ c ∷ []) ≡ b + length longer = ap (λ cs. b + length cs) (sym pushed) in
    subst (λ n. All (IsLowest n) left) e (subst (λ qs. All (IsLowest (b + length (changes ++ c ∷ []))) qs) queues_left
    (next_lowest t queues group moment b p changes c is_b h low))
