-- The rows of what is due, when a message goes and when one comes, and what they name.
use Rattle.std.proofs.Common.{◌≡◌, ◌≢◌, ℕ, ◌==◌, ◌≤◌, List, [], ◌∷◌, Bool, true, false, cond, Option, Some, refl, sym, ap, ◌∙◌, subst, arith, All}
use Rattle.std.specs.Prelude.{◌&&◌, ◌||◌, not, find}
use Rattle.std.specs.List.{AllByRecursion}
use Rattle.std.specs.Option.{option_map_or}
use Rattle.std.specs.Str.{bytes_eq}
use Rattle.std.proofs.lemmas.Bool.{false_from_ne_true, or_left, or_right}
use Rattle.std.proofs.lemmas.List.Elements.{All-head, All-tail}
use Rattle.std.proofs.lemmas.Option.{none-some}
use Rattle.std.proofs.lemmas.Slice.Eq.{bytes_eq-Decides}
use Rattle.due_index.specs.declared.row.DueRow.{DueRow}
use Rattle.due_slots.specs.Edits.{joined, without}
use Rattle.due_slots.specs.Indexed.{has}
use Rattle.due_slots.specs.Laws.{JoinedTells, RowsHaveItsNumber, RowsNameDue, WithoutTells}
use Rattle.due_slots.specs.Named.{NamesDue}
use Rattle.due_slots.specs.Rows.{rows_of}
use Rattle.queue_rows.specs.declared.rows.MsgRow.{MsgRow}
use Rattle.queue_rows.specs.declared.tables.Tables.{Tables}
use Rattle.message_index.specs.DueKept.{HasRows, keeps_in, retention_in}
use Rattle.message_index.specs.declared.due_cache.KeepRow.{KeepRow}

-- ---- edits

module _ (keeps : List ℕ → ℕ) (m : MsgRow) (rows now : List DueRow) where
  module _ (tells : WithoutTells) (numbered : RowsHaveItsNumber) (is : now ≡ without rows (rows_of (keeps m.queue) m)) where
    stays : (other : MsgRow) → other.id ≢ m.id → HasRows keeps rows other → HasRows keeps now other
    stays other differs own row here =
        let taken = rows_of (keeps m.queue) m in
        let apart : has taken row ≡ false = false_from_ne_true (has taken row) (λ some. differs (numbered (keeps other.queue) other row here ∙ sym (numbered (keeps m.queue) m row some))) in
        ap (λ (rows : List DueRow). has rows row) is ∙ tells rows taken row ∙ (λ i. own row here i && not (apart i))

    pub rows_stay : (ms : List MsgRow) → AllByRecursion (λ o. o.id ≢ m.id) ms → AllByRecursion (HasRows keeps rows) ms → AllByRecursion (HasRows keeps now) ms
    rows_stay [] others all = tt
    rows_stay (o ∷ os) others all = (stays o others.0 all.0, rows_stay os others.1 all.1)

  module _ (tells : JoinedTells) (is : now ≡ joined rows (rows_of (keeps m.queue) m)) where
    told : (row : DueRow) → has now row ≡ (has rows row || has (rows_of (keeps m.queue) m) row)
    told row = ap (λ (rows : List DueRow). has rows row) is ∙ tells rows (rows_of (keeps m.queue) m) row

    more : (ms : List MsgRow) → AllByRecursion (HasRows keeps rows) ms → AllByRecursion (HasRows keeps now) ms
    more [] all = tt
    more (o ∷ os) all = ((λ row here. told row ∙ or_left (has rows row) (has (rows_of (keeps m.queue) m) row) (all.0 row here)), more os all.1)

    pub rows_come : (ms : List MsgRow) → AllByRecursion (HasRows keeps rows) ms → AllByRecursion (HasRows keeps now) (m ∷ ms)
    rows_come ms all = ((λ row here. told row ∙ or_right (has rows row) (has (rows_of (keeps m.queue) m) row) here), more ms all)

-- ---- what is named

keeps_by : (t : Tables) (queue : List ℕ) (k : KeepRow) (rest : ℕ) (b : Bool) → bytes_eq k.queue queue ≡ b → k.retention ≤ retention_in t k.queue → rest ≤ retention_in t queue
    → cond b k.retention rest ≤ retention_in t queue
keeps_by t queue k rest true same most later = subst (λ (q : List ℕ). k.retention ≤ retention_in t q) ((bytes_eq-Decides k.queue queue).0 same) most
keeps_by t queue k rest false other most later = later

found_keep : (queue : List ℕ) (k : KeepRow) (ks : List KeepRow) (b : Bool) → bytes_eq k.queue queue ≡ b
    → keeps_in (k ∷ ks) queue ≡ cond b k.retention (keeps_in ks queue)
found_keep queue k ks true same = ap (λ b. option_map_or (λ (k : KeepRow). k.retention) (cond b (Some k) (find (λ (k : KeepRow). bytes_eq k.queue queue) ks)) 0) same
found_keep queue k ks false other = ap (λ b. option_map_or (λ (k : KeepRow). k.retention) (cond b (Some k) (find (λ (k : KeepRow). bytes_eq k.queue queue) ks)) 0) other

-- no queue keeps messages for less long than the list says
pub keeps_at_most : (t : Tables) (keeps : List KeepRow) → All (λ k. k.retention ≤ retention_in t k.queue) keeps → (queue : List ℕ) → keeps_in keeps queue ≤ retention_in t queue
keeps_at_most t [] all queue = omega arith
keeps_at_most t (k ∷ ks) all queue =
    let P : KeepRow → Type 0 = λ k. k.retention ≤ retention_in t k.queue in
    let b = bytes_eq k.queue queue in
    subst (λ (n : ℕ). n ≤ retention_in t queue) (sym (found_keep queue k ks b refl))
    (keeps_by t queue k (keeps_in ks queue) b refl (All-head P k ks all) (keeps_at_most t ks (All-tail P k ks all) queue))

found_by : {X : Type 0} (P : X → Type 0) (b : Bool) (x y : X) (otherwise : Option X) → P x → (otherwise ≡ Some y → P y) → cond b (Some x) otherwise ≡ Some y → P y
found_by P true x y otherwise own later e = let same : x ≡ y = cc in subst P same own
found_by P false x y otherwise own later e = later e

found_all : {X : Type 0} (P : X → Type 0) (p : X → Bool) (xs : List X) (y : X) → AllByRecursion P xs → find p xs ≡ Some y → P y
found_all P p [] y all e = absurd (none-some y e)
found_all P p (x ∷ xs) y all e = found_by P (p x) x y (find p xs) all.0 (λ later. found_all P p xs y all.1 later) e

-- the rows of all messages name what is due
pub rows_name : (t : Tables) (keeps : List KeepRow) (rows : List DueRow) → RowsNameDue → All (λ k. k.retention ≤ retention_in t k.queue) keeps
    → AllByRecursion (HasRows (keeps_in keeps) rows) t.messages → NamesDue t rows
rows_name t keeps rows names most all =
    names t (keeps_in keeps) rows (λ m known. keeps_at_most t keeps most m.queue)
    (λ m row known here. found_all (HasRows (keeps_in keeps) rows) (λ o. o.id == m.id) t.messages m all known row here)
