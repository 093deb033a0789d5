-- Marks in the groups of their slots stay there, and show the groups.
use Rattle.std.proofs.Common.{◌≡◌, ◌⊎◌, inl, inr, ℕ, List, [], ◌∷◌, true, false, refl, sym, ap, ◌∙◌, Option, Some, None, ◌==◌, ◌&&◌, get_or}
use Rattle.std.specs.Prelude.{option_and_then, IfSome, All, if◌then◌else◌}
use Rattle.std.specs.List.{list_any}
use Rattle.std.specs.Option.{option_eq, option_map_or}
use Rattle.std.specs.Str.{bytes_eq}
use Rattle.std.proofs.lemmas.Bool.{and_parts, and_from, eqb-true, eq-eqb, or_left, or_right, or_cases, false≢true}
use Rattle.std.proofs.lemmas.List.Elements.{All-nil, All-cons, All-head, All-tail}
use Rattle.slot_marks.specs.Marks.{is_on, has_slot, is_same_group, is_in_group, has_group}
use Rattle.slot_marks.specs.declared.mark.Group.{Group}
use Rattle.slot_marks.specs.declared.mark.Mark.{Mark}
use Rattle.queue_rows.specs.Rows.{find_message, find_table, table_of}
use Rattle.queue_rows.specs.Due.{group_in}
use Rattle.queue_rows.specs.Groups.{group_of}
use Rattle.queue_rows.specs.Session.{marks_slot}
use Rattle.queue_rows.specs.declared.tables.Tables.{Tables}
use Rattle.queue_rows.specs.declared.rows.TableRow.{TableRow}
use Rattle.queue_rows.specs.declared.rows.MsgRow.{MsgRow}
use Rattle.message_choice.specs.Sound.{IsInGroups}
use Rattle.valid_laws.specs.Openness.{is_open_at}
use Rattle.valid_laws.proofs.Opened.{open_at}
use Rattle.valid_laws.proofs.Cataloguing.{own_name}
use Rattle.statement_laws.proofs.Among.{Each, IsFoundIn}
use Rattle.statement_laws.proofs.Framing.{any_at}
use Rattle.run_laws.specs.GroupedMarks.{group_at, AreOfGroups}
use Rattle.run_laws.proofs.Staying.{group_of_slot}
use Rattle.run_laws.proofs.Tabling.{TablesStay}

-- ---- the group of a slot

abbrev in_table : Option TableRow → Group → Option Group
in_table o g = option_and_then (λ table. if table.grouped then Some g else None) o

group_at_is : (t : Tables) (id slot : ℕ) (m : MsgRow) → find_message t id ≡ Some m → group_at t id slot ≡ in_table (table_of t m.queue) (group_of_slot slot m)
group_at_is t id slot m f = ap (option_and_then (λ x. group_in t x slot)) f

-- it stays where the slot can be taken before and after, its message's group stays, and so does the table of the queue
pub same_group_at : (t u : Tables) (id slot : ℕ) → is_open_at t id slot ≡ true → is_open_at u id slot ≡ true → ((m n : MsgRow) → find_message t id ≡ Some m → find_message u id ≡ Some n → group_of_slot slot n ≡ group_of_slot slot m) → TablesStay t u
    → group_at u id slot ≡ group_at t id slot
same_group_at t u id slot o k same tables =
    let m = open_at t id slot o in
    let n = open_at u id slot k in
    let g = same m.message n.message m.found n.found in
    let queue : n.message.queue ≡ m.message.queue = ap (λ x. x.queue) g in
    group_at_is u id slot n.message n.found ∙ ap (λ q. in_table (table_of u q) (group_of_slot slot n.message)) queue ∙ ap (in_table (table_of u m.message.queue)) g
    ∙ ap (λ o. in_table o (group_of_slot slot m.message)) (tables id m.message n.message m.found n.found queue) ∙ sym (group_at_is t id slot m.message m.found)

-- so marks stay in their groups where each slot that is marked has the same one
pub regrouped : (t u : Tables) (marks : List Mark) → ((id slot : ℕ) → list_any (marks_slot id slot) marks ≡ true → group_at u id slot ≡ group_at t id slot) → AreOfGroups t marks → AreOfGroups u marks
regrouped t u marks k h j d lt =
    let mark = get_or marks j d in
    h j d lt ∙ sym (k mark.id mark.slot (any_at (marks_slot mark.id mark.slot) marks j d lt (and_from (mark.id == mark.id) (mark.slot == mark.slot) (eq-eqb mark.id mark.id refl) (eq-eqb mark.slot mark.slot refl))))

-- ---- what the marks show

same_consumer : (o : Option (List ℕ)) → option_eq bytes_eq o o ≡ true
same_consumer None = refl
same_consumer (Some name) = own_name name

own_group : (g : Group) → is_same_group g g ≡ true
own_group g = and_from ((g.number == g.number) && bytes_eq g.queue g.queue) (option_eq bytes_eq g.consumer g.consumer) (and_from (g.number == g.number) (bytes_eq g.queue g.queue) (eq-eqb g.number g.number refl) (own_name g.queue)) (same_consumer g.consumer)

module _ (t : Tables) where
  marked_in : (id slot : ℕ) (g : Group) (marks : List Mark) → group_at t id slot ≡ Some g → AreOfGroups t marks → has_slot id slot marks ≡ true → has_group g marks ≡ true
  marked_in id slot g [] e h k = absurd (false≢true k)
  marked_in id slot g (mark ∷ marks) e h k = by (or_cases (is_on id slot mark) (has_slot id slot marks) k) (marked_in id slot g marks e (All-tail (λ x. x.group ≡ group_at t x.id x.slot) mark marks h))
    where
      by : (is_on id slot mark ≡ true) ⊎ (has_slot id slot marks ≡ true) → (has_slot id slot marks ≡ true → has_group g marks ≡ true) → has_group g (mark ∷ marks) ≡ true
      by (inl own) ih =
          let p = and_parts (mark.id == id) (mark.slot == slot) own in
          let its : mark.group ≡ Some g =
          All-head (λ x. x.group ≡ group_at t x.id x.slot) mark marks h ∙ ap (λ n. group_at t n mark.slot) (eqb-true mark.id id p.0) ∙ ap (group_at t id) (eqb-true mark.slot slot p.1) ∙ e in
          or_left (is_in_group g mark) (has_group g marks) (ap (λ o. option_map_or (λ x. is_same_group x g) o false) its ∙ own_group g)
      by (inr more) ih = or_right (is_in_group g mark) (has_group g marks) (ih more)

  shown_by : (id slot : ℕ) (marks : List Mark) (o : Option Group) → group_at t id slot ≡ o → AreOfGroups t marks → has_slot id slot marks ≡ true → IfSome o (λ g. has_group g marks ≡ true)
  shown_by id slot marks None e h k = tt
  shown_by id slot marks (Some g) e h k = marked_in id slot g marks e h k

  message_in_groups : (marks : List Mark) (m : MsgRow) → AreOfGroups t marks → find_message t m.id ≡ Some m → IsInGroups t marks m
  message_in_groups marks m h f queue table q e slot k =
      let its : table_of t m.queue ≡ Some table = ap (option_and_then (λ x. find_table t x.table)) q ∙ e in
      shown_by m.id slot marks (group_of table m slot) (ap (option_and_then (λ x. group_in t x slot)) f ∙ ap (option_and_then (λ x. group_of x m slot)) its) h k

  pub all_in_groups : (marks : List Mark) (ms : List MsgRow) → AreOfGroups t marks → Each (IsFoundIn t.messages) ms → All (IsInGroups t marks) ms
  all_in_groups marks [] h f = All-nil (IsInGroups t marks)
  all_in_groups marks (m ∷ ms) h f = All-cons (IsInGroups t marks) m ms (message_in_groups marks m h f.0) (all_in_groups marks ms h f.1)
