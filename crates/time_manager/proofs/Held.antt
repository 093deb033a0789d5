-- Whether somebody holds a slot, as the locks show it and as the sessions say.
use Rattle.std.proofs.Common.{◌≡◌, ℕ, ◌==◌, suc, zero, List, [], ◌∷◌, Bool, true, false, Option, Some, None, refl, sym, ap, ◌∙◌, subst, inl, inr, eq-eqb}
use Rattle.std.specs.Prelude.{◌&&◌, ◌||◌, ◌⊎◌, slice_get, option_and_then, is_some, IfSome, IfNone, if◌then◌else◌}
use Rattle.std.specs.List.{list_any}
use Rattle.std.specs.Option.{option_eq}
use Rattle.std.specs.Str.{bytes_eq}
use Rattle.std.proofs.lemmas.Bool.{false≢true, or_cases, or_left, or_right, and_parts, and_from, eqb-true, both_ways, false_from_ne_true}
use Rattle.std.proofs.lemmas.Slice.Eq.{bytes_eq-Decides}
use Rattle.aq_base.specs.declared.DbId.{DbId}
use Rattle.aq_base.specs.declared.DbId.TheVariants.{Home, Away}
use Rattle.slot_marks.specs.declared.mark.Mark.{Mark}
use Rattle.slot_marks.specs.declared.mark.Group.{Group}
use Rattle.slot_marks.specs.Marks.{SessionMarks, marks_of, is_in_group, has_slot, has_any_group, IsFreeSlot, IsFreeGroup, IsHolder}
use Rattle.slot_marks.specs.Marks as row
use Rattle.queue_rows.specs.Session as session
use Rattle.queue_rows.specs.Session.{Session, is_same_db, holds, marks_slot, marks_group}
use Rattle.queue_rows.specs.Rows.{table_of}
use Rattle.queue_rows.specs.Groups.{consumer_of, group_of}
use Rattle.queue_rows.specs.Due.{group_in, is_held_by_any}
use Rattle.queue_rows.specs.declared.tables.Tables.{Tables}
use Rattle.queue_rows.specs.declared.rows.MsgRow.{MsgRow}
use Rattle.queue_rows.specs.declared.rows.TableRow.{TableRow}
use Rattle.row_locks.specs.Groups.{group_asked}
use Rattle.queue_rows.specs.Session.{AreMarks}
use Rattle.time_manager.specs.Watching.{session_with, sessions_with, group_number}

-- ---- tests

same_test : (a b : Bool) → (a ≡ true → b ≡ true) → (b ≡ true → a ≡ true) → a ≡ b
same_test true b f g = sym (f refl)
same_test false true f g = g refl
same_test false false f g = refl

or_between : (a b c d : Bool) → ((a || b) || (c || d)) ≡ ((a || c) || (b || d))
or_between true b c d = refl
or_between false true true d = refl
or_between false true false d = refl
or_between false false true d = refl
or_between false false false d = refl

module _ {X : Type 0} where
  list_any-same : (p q : X → Bool) (xs : List X) → ((x : X) → p x ≡ q x) → list_any p xs ≡ list_any q xs
  list_any-same p q [] h = refl
  list_any-same p q (x ∷ xs) h = ap (λ b. b || list_any p xs) (h x) ∙ ap (λ b. q x || b) (list_any-same p q xs h)

  list_any-either : (p q : X → Bool) (xs : List X) → list_any (λ x. p x || q x) xs ≡ (list_any p xs || list_any q xs)
  list_any-either p q [] = refl
  list_any-either p q (x ∷ xs) = ap (λ b. (p x || q x) || b) (list_any-either p q xs) ∙ or_between (p x) (q x) (list_any p xs) (list_any q xs)

  list_any-none : (xs : List X) → list_any (λ x. false) xs ≡ false
  list_any-none [] = refl
  list_any-none (x ∷ xs) = list_any-none xs

  record Passing (p : X → Bool) (xs : List X) : Type 0 where
    at : ℕ
    item : X
    there : slice_get xs at ≡ Some item
    passes : p item ≡ true

  any-at : (p : X → Bool) (xs : List X) (i : ℕ) (x : X) → slice_get xs i ≡ Some x → p x ≡ true → list_any p xs ≡ true
  any-at p [] i x e h = cc
  any-at p (y ∷ ys) zero x e h = let same : y ≡ x = cc e in or_left (p y) (list_any p ys) (ap p same ∙ h)
  any-at p (y ∷ ys) (suc i) x e h = or_right (p y) (list_any p ys) (any-at p ys i x e h)

  any-got : (p : X → Bool) (xs : List X) → list_any p xs ≡ true → Passing p xs
  any-got p [] h = absurd (false≢true h)
  any-got p (y ∷ ys) h = elim (or_cases (p y) (list_any p ys) h) [
    | inl here ↦ record { at = 0; item = y; there = refl; passes = here }
    | inr later ↦
        let r = any-got p ys later in
        record { at = suc r.at; item = r.item; there = r.there; passes = r.passes }
  ]

-- ---- groups

same_consumer : (a b : Option (List ℕ)) → option_eq bytes_eq a b ≡ true → a ≡ b
same_consumer None None e = refl
same_consumer None (Some y) e = absurd (false≢true e)
same_consumer (Some x) None e = absurd (false≢true e)
same_consumer (Some x) (Some y) e = ap Some ((bytes_eq-Decides x y).0 e)

consumer_self : (c : Option (List ℕ)) → option_eq bytes_eq c c ≡ true
consumer_self None = refl
consumer_self (Some name) = (bytes_eq-Decides name name).1 refl

row_same : (a b : Group) → row.is_same_group a b ≡ true → a ≡ b
row_same a b e =
    let outer = and_parts ((a.number == b.number) && bytes_eq a.queue b.queue) (option_eq bytes_eq a.consumer b.consumer) e in
    let inner = and_parts (a.number == b.number) (bytes_eq a.queue b.queue) outer.0 in
    let number = eqb-true a.number b.number inner.0 in
    let queue = (bytes_eq-Decides a.queue b.queue).0 inner.1 in
    let consumer = same_consumer a.consumer b.consumer outer.1 in
    λ i. record { queue = queue i; number = number i; consumer = consumer i }

row_self : (g : Group) → row.is_same_group g g ≡ true
row_self g = and_from ((g.number == g.number) && bytes_eq g.queue g.queue) (option_eq bytes_eq g.consumer g.consumer)
    (and_from (g.number == g.number) (bytes_eq g.queue g.queue) (eq-eqb g.number g.number refl) ((bytes_eq-Decides g.queue g.queue).1 refl)) (consumer_self g.consumer)

session_same : (a b : Group) → session.is_same_group a b ≡ true → a ≡ b
session_same a b e =
    let outer = and_parts (bytes_eq a.queue b.queue && (a.number == b.number)) (option_eq bytes_eq a.consumer b.consumer) e in
    let inner = and_parts (bytes_eq a.queue b.queue) (a.number == b.number) outer.0 in
    let number = eqb-true a.number b.number inner.1 in
    let queue = (bytes_eq-Decides a.queue b.queue).0 inner.0 in
    let consumer = same_consumer a.consumer b.consumer outer.1 in
    λ i. record { queue = queue i; number = number i; consumer = consumer i }

session_self : (g : Group) → session.is_same_group g g ≡ true
session_self g = and_from (bytes_eq g.queue g.queue && (g.number == g.number)) (option_eq bytes_eq g.consumer g.consumer)
    (and_from (bytes_eq g.queue g.queue) (g.number == g.number) ((bytes_eq-Decides g.queue g.queue).1 refl) (eq-eqb g.number g.number refl)) (consumer_self g.consumer)

-- the two definitions of a group that is the same agree
same_groups : (group own : Group) → session.is_same_group group own ≡ row.is_same_group own group
same_groups group own = same_test (session.is_same_group group own) (row.is_same_group own group)
    (λ e. subst (λ (g : Group). row.is_same_group own g ≡ true) (sym (session_same group own e)) (row_self own))
    (λ e. subst (λ (g : Group). session.is_same_group group g ≡ true) (sym (row_same own group e)) (session_self group))

group_by : (group : Group) (mark : Mark) → marks_group (Some group) mark ≡ is_in_group group mark
group_by group mark = by mark.group refl
  where
    by : (own : Option Group) → mark.group ≡ own → marks_group (Some group) mark ≡ is_in_group group mark
    by None e =
        let m : Mark = record mark { group = None } in
        cc
    by (Some own) e = cc (same_groups group own)

-- ---- what a session has

-- the slot, or its group
abbrev has_either : ℕ → ℕ → Option Group → List Mark → Bool
has_either id slot group marks = has_slot id slot marks || has_any_group group marks

group_any : (group : Option Group) (marks : List Mark) → list_any (marks_group group) marks ≡ has_any_group group marks
group_any None marks = list_any-none marks
group_any (Some group) marks = list_any-same (marks_group (Some group)) (is_in_group group) marks (group_by group)

holds-either : (id slot : ℕ) (group : Option Group) (marks : List Mark) → list_any (holds id slot group) marks ≡ has_either id slot group marks
holds-either id slot group marks =
    list_any-either (marks_slot id slot) (marks_group group) marks
    ∙ ap (λ b. list_any (marks_slot id slot) marks || b) (group_any group marks)

none_has : (id slot : ℕ) (group : Option Group) → has_either id slot group [] ≡ false
none_has id slot None = refl
none_has id slot (Some g) = refl

-- ---- by sessions and by locks

-- a session has the slot or its group
record Holder (locks : List SessionMarks) (id slot : ℕ) (group : Option Group) : Type 0 where
  number : ℕ
  has : has_either id slot group (marks_of locks number) ≡ true

same_db : (db : DbId) → is_same_db db db ≡ true
same_db Home = refl
same_db Away = refl

db_same : (a b : DbId) → is_same_db a b ≡ true → a ≡ b
db_same Home Home e = refl
db_same Home Away e = absurd (false≢true e)
db_same Away Home e = absurd (false≢true e)
db_same Away Away e = refl

module _ (db : DbId) (sessions : List Session) (locks : List SessionMarks) (are : AreMarks db sessions locks) (id slot : ℕ) (group : Option Group) where
  held-got : is_held_by_any sessions db id slot group ≡ true → Holder locks id slot group
  held-got e =
      let r = any-got (λ s. is_same_db s.at db && list_any (holds id slot group) s.marks) sessions e in
      let both = and_parts (is_same_db r.item.at db) (list_any (holds id slot group) r.item.marks) r.passes in
      let own = are.own r.at r.item r.there (db_same r.item.at db both.0) in
      record {
        number = r.at;
        has = ap (has_either id slot group) (sym own) ∙ sym (holds-either id slot group r.item.marks) ∙ both.1;
      }

  shown_by : (number : ℕ) → has_either id slot group (marks_of locks number) ≡ true → (marks_of locks number ≡ []) ⊎ ((s : Session) × (slice_get sessions number ≡ Some s) × (s.at ≡ db)) → is_held_by_any sessions db id slot group ≡ true
  shown_by number has (inl none) = absurd (false≢true (sym (none_has id slot group) ∙ sym (ap (has_either id slot group) none) ∙ has))
  shown_by number has (inr (s, there, at)) =
      let own = are.own number s there at in
      any-at (λ s. is_same_db s.at db && list_any (holds id slot group) s.marks) sessions number s there
      (and_from (is_same_db s.at db) (list_any (holds id slot group) s.marks)
      (ap (λ (x : DbId). is_same_db x db) at ∙ same_db db)
      (holds-either id slot group s.marks ∙ ap (has_either id slot group) own ∙ has))

  held-from : Holder locks id slot group → is_held_by_any sessions db id slot group ≡ true
  held-from r = shown_by r.number r.has (are.only r.number)

-- sessions with the same marks hold the same
pub held-same : (db : DbId) (sessions sessions₂ : List Session) (locks : List SessionMarks) → AreMarks db sessions locks → AreMarks db sessions₂ locks
    → (id slot : ℕ) (group : Option Group) → is_held_by_any sessions db id slot group ≡ is_held_by_any sessions₂ db id slot group
held-same db sessions sessions₂ locks are are₂ id slot group =
    same_test (is_held_by_any sessions db id slot group) (is_held_by_any sessions₂ db id slot group)
    (λ e. held-from db sessions₂ locks are₂ id slot group (held-got db sessions locks are id slot group e))
    (λ e. held-from db sessions locks are id slot group (held-got db sessions₂ locks are₂ id slot group e))

-- ---- the plainest sessions

got_own : (db : DbId) (locks : List SessionMarks) (i : ℕ) (s : Session) → slice_get (sessions_with db locks) i ≡ Some s → s.marks ≡ marks_of locks i
got_own db [] i s e = cc
got_own db (x ∷ xs) zero s e = cc
got_own db (x ∷ xs) (suc i) s e = got_own db xs i s e

got_only : (db : DbId) (locks : List SessionMarks) (i : ℕ) → (marks_of locks i ≡ []) ⊎ ((s : Session) × (slice_get (sessions_with db locks) i ≡ Some s) × (s.at ≡ db))
got_only db [] i = inl refl
got_only db (x ∷ xs) zero = inr (session_with db x.marks, refl, refl)
got_only db (x ∷ xs) (suc i) = got_only db xs i

-- the locks keep their marks
pub are_plain : (db : DbId) (locks : List SessionMarks) → AreMarks db (sessions_with db locks) locks
are_plain db locks = record { own = λ i s there at. got_own db locks i s there; only = got_only db locks }

-- ---- by the holder that the locks tell

held_by_none : (db : DbId) (locks : List SessionMarks) (id slot : ℕ) (group : Option Group) → IsFreeSlot locks id slot → IsFreeGroup locks group
    → is_held_by_any (sessions_with db locks) db id slot group ≡ false
held_by_none db locks id slot group slot_free group_free =
    false_from_ne_true (is_held_by_any (sessions_with db locks) db id slot group) (λ e.
    let r = held-got db (sessions_with db locks) locks (are_plain db locks) id slot group e in
    elim (or_cases (has_slot id slot (marks_of locks r.number)) (has_any_group group (marks_of locks r.number)) r.has) [
      | inl has ↦ both_ways (has_slot id slot (marks_of locks r.number)) (slot_free r.number) has
      | inr has ↦ both_ways (has_any_group group (marks_of locks r.number)) (group_free r.number) has
    ])

has_of : (locks : List SessionMarks) (id slot : ℕ) (group : Option Group) (holder : ℕ) → IsHolder locks id slot group holder → has_either id slot group (marks_of locks holder) ≡ true
has_of locks id slot group holder (inl has) = or_left (has_slot id slot (marks_of locks holder)) (has_any_group group (marks_of locks holder)) has
has_of locks id slot group holder (inr (free, has)) = or_right (has_slot id slot (marks_of locks holder)) (has_any_group group (marks_of locks holder)) has

held_by : (db : DbId) (locks : List SessionMarks) (id slot : ℕ) (group : Option Group) (holder : ℕ) → IsHolder locks id slot group holder
    → is_held_by_any (sessions_with db locks) db id slot group ≡ true
held_by db locks id slot group holder holds =
    held-from db (sessions_with db locks) locks (are_plain db locks) id slot group (record { number = holder; has = has_of locks id slot group holder holds })

-- ---- the group that is asked for

asked_by : (m : MsgRow) (slot : ℕ) (table : Option TableRow)
    → group_asked m.queue (option_and_then (λ t. if t.grouped then Some m.group else None) table) (consumer_of m slot) ≡ option_and_then (λ t. group_of t m slot) table
asked_by m slot None = refl
asked_by m slot (Some table) = by table.grouped
  where
    by : (b : Bool) → group_asked m.queue (if b then Some m.group else None) (consumer_of m slot)
        ≡ (if b then Some (record { queue = m.queue; number = m.group; consumer = consumer_of m slot }) else None)
    by true = refl
    by false = refl

pub asked : (t : Tables) (m : MsgRow) (slot : ℕ) → group_asked m.queue (group_number t m) (consumer_of m slot) ≡ group_in t m slot
asked t m slot = asked_by m slot (table_of t m.queue)

-- the slot is held exactly where the locks tell a holder
pub held_where : (db : DbId) (locks : List SessionMarks) (id slot : ℕ) (group : Option Group) (holder : Option ℕ)
    → IfSome holder (IsHolder locks id slot group) → IfNone holder (IsFreeSlot locks id slot) → IfNone holder (IsFreeGroup locks group)
    → is_some holder ≡ is_held_by_any (sessions_with db locks) db id slot group
held_where db locks id slot group None some free_slot free_group = sym (held_by_none db locks id slot group free_slot free_group)
held_where db locks id slot group (Some holder) some free_slot free_group = sym (held_by db locks id slot group holder some)
