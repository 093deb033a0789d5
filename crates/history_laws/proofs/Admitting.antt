-- What arrives as a copy may be taken in.
use Rattle.std.proofs.Common.{◌≡◌, ◌≤◌, ◌-◌, ℕ, suc, List, [], ◌∷◌, Bool, true, false, not, refl, sym, ap, ◌∙◌, arith, Option, Some, None, ◌==◌, ◌&&◌, length}
use Rattle.std.specs.Prelude.{option_and_then, is_some, nat_le, zip, take, ◌^◌, if◌then◌else◌}
use Rattle.std.specs.List.{list_all}
use Rattle.std.specs.Str.{bytes_eq}
use Rattle.std.proofs.Math.Seq.{take-length}
use Rattle.std.proofs.lemmas.Bool.{eqb-true, eq-eqb, and_parts, and_from, not-false, leb-false, false≢true}
use Rattle.std.proofs.lemmas.Option.{none-some}
use Rattle.payload_records.specs.declared.kind.Kind.{Kind}
use Rattle.payload_records.specs.declared.kind.Kind.TheVariants as field_kinds
use Rattle.payload_records.specs.declared.kind.Field.{Field}
use Rattle.payload_records.specs.declared.record.Datum.{Datum}
use Rattle.queue_rows.specs.Rows.{find_table, find_queue, find_message, slot_index, recipient_slots}
use Rattle.queue_rows.specs.Settling.{is_exception}
use Rattle.queue_rows.specs.Propagating.{Parcel, Dispatch, is_same_kind, is_same_field, is_same_type, cause_at_table, cause_at_queue, cause_of, copy_of, is_last_failure, arriving_by, has_seen, arriving, dispatch}
use Rattle.queue_rows.specs.Valid.{is_valid, is_of_kind, are_of_kinds, is_nameless, has_right_props}
use Rattle.queue_rows.specs.declared.tables.Tables.{Tables}
use Rattle.queue_rows.specs.declared.rows.TableRow.{TableRow}
use Rattle.queue_rows.specs.declared.rows.QueueRow.{QueueRow}
use Rattle.queue_rows.specs.declared.rows.MsgRow.{MsgRow}
use Rattle.queue_rows.specs.declared.history.SlotRef.{SlotRef}
use Rattle.queue_rows.specs.declared.history.Cause.{Cause}
use Rattle.queue_rows.specs.declared.history.Cause.TheVariants as causes
use Rattle.queue_rows.specs.declared.history.Arrival.TheVariants.{Copied, Seen, Failed}
use Rattle.row_laws.proofs.Slots.{slot_at}
use Rattle.valid_laws.specs.ArrivalLaws.{MayTakeIn}
use Rattle.history_laws.proofs.Worlds.{all_at}
use Rattle.history_laws.proofs.Sending.{IsSentBy, by_message, StandsNormal, sent_normal}

-- ---- no cause stands against it

if_no : {X : Type 0} (b : Bool) (x : X) (o : Option X) → (if b then Some x else o) ≡ None → (b ≡ false) × (o ≡ None)
if_no true x o e = absurd (none-some x (sym e))
if_no false x o e = (refl, e)

record IsAdmitted (there : Tables) (p : Parcel) (next : ℕ) : Type 0 where
  pub queue : QueueRow
  pub table : TableRow
  pub queue_is : find_queue there p.to ≡ Some queue
  pub table_is : find_table there queue.table ≡ Some table
  pub normal : is_exception queue.kind ≡ false
  pub same : is_same_type table.fields p.fields ≡ true
  pub within : nat_le (2 ^ 61) next ≡ false

by_table : (there : Tables) (p : Parcel) (next : ℕ) (q : QueueRow) (o : Option TableRow) → find_queue there p.to ≡ Some q → is_exception q.kind ≡ false → find_table there q.table ≡ o → cause_at_table p next o ≡ None → IsAdmitted there p next
by_table there p next q None f n g e = absurd (none-some causes.NoQueue (sym e))
by_table there p next q (Some table) f n g e =
    let a = if_no (not (is_same_type table.fields p.fields)) causes.Payload (if nat_le (2 ^ 61) next then Some causes.Limit else None) e in
    let b = if_no (nat_le (2 ^ 61) next) causes.Limit None a.1 in
    record { queue = q; table = table; queue_is = f; table_is = g; normal = n; same = not-false (is_same_type table.fields p.fields) a.0; within = b.0 }

by_queue : (there : Tables) (p : Parcel) (next : ℕ) (o : Option QueueRow) → find_queue there p.to ≡ o → cause_at_queue there p next o ≡ None → IsAdmitted there p next
by_queue there p next None f e = absurd (none-some causes.NoQueue (sym e))
by_queue there p next (Some q) f e =
    let at_table = cause_at_table p next (find_table there q.table) in
    let a = if_no (is_exception q.kind) causes.WrongKind (if not q.enqueue then Some causes.EnqueueOff else at_table) e in
    let b = if_no (not q.enqueue) causes.EnqueueOff at_table a.1 in
    by_table there p next q (find_table there q.table) f a.0 refl b.1

admitted : (there : Tables) (p : Parcel) (next : ℕ) → cause_of there p next ≡ None → IsAdmitted there p next
unfolding cause_of
admitted there p next e = by_queue there p next (find_queue there p.to) refl e

-- ---- the same record type

kind_same : (a b : Kind) → is_same_kind a b ≡ true → a ≡ b
kind_same field_kinds.Num field_kinds.Num h = refl
kind_same field_kinds.Num field_kinds.Text h = absurd (false≢true h)
kind_same field_kinds.Text field_kinds.Num h = absurd (false≢true h)
kind_same field_kinds.Text field_kinds.Text h = refl

kinds_same : (a b : List Field) (cells : List Datum) → length a ≡ length b → list_all (λ pair. is_same_field pair.0 pair.1) (zip a b) ≡ true → are_of_kinds b cells ≡ true → are_of_kinds a cells ≡ true
kinds_same [] b cells n s h = refl
kinds_same (x ∷ a) [] cells n s h = absurd (let no : suc (length a) ≡ 0 = n in omega (arith, no))
kinds_same (x ∷ a) (y ∷ b) [] n s h = refl
kinds_same (x ∷ a) (y ∷ b) (c ∷ cells) n s h =
    let p = and_parts (is_same_field x y) (list_all (λ pair. is_same_field pair.0 pair.1) (zip a b)) s in
    let q = and_parts (is_of_kind y.kind c) (are_of_kinds b cells) h in
    let kind = kind_same x.kind y.kind (and_parts (bytes_eq x.name y.name) (is_same_kind x.kind y.kind) p.0).1 in
    let shorter : length a ≡ length b = (let m : suc (length a) ≡ suc (length b) = n in omega (arith, m)) in
    and_from (is_of_kind x.kind c) (are_of_kinds a cells) (ap (λ k. is_of_kind k c) kind ∙ q.0) (kinds_same a b cells shorter p.1 q.1)

cells_same : (a b : List Field) (cells : List Datum) → is_same_type a b ≡ true → (length cells == length b && are_of_kinds b cells) ≡ true → (length cells == length a && are_of_kinds a cells) ≡ true
cells_same a b cells s h =
    let p = and_parts (length a == length b) (list_all (λ pair. is_same_field pair.0 pair.1) (zip a b)) s in
    let q = and_parts (length cells == length b) (are_of_kinds b cells) h in
    let n = eqb-true (length a) (length b) p.0 in
    let m = eqb-true (length cells) (length b) q.0 in
    and_from (length cells == length a) (are_of_kinds a cells) (eq-eqb (length cells) (length a) (m ∙ sym n)) (kinds_same a b cells n p.1 q.1)

-- ---- what was sent

-- an arrival that ends with a copy met no cause, and the pair was not seen
module _ (there : Tables) (at : SlotRef) (d : Dispatch) (next moment id : ℕ) where
  when_none : (o : Option Cause) → (arriving_by there at d next moment o).outcome ≡ Copied id → o ≡ None
  when_none None k = refl
  when_none (Some cause) k = absurd (let no : Failed cause (is_last_failure d.schedule) ≡ Copied id = k in cc)

  when_unseen : (b : Bool) → (if b then record { outcome = Seen; origin = []; there = [] } else arriving_by there at d next moment (cause_of there d.parcel next)).outcome ≡ Copied id → (b ≡ false) × (cause_of there d.parcel next ≡ None)
  when_unseen true k = absurd (let no : Seen ≡ Copied id = k in cc)
  when_unseen false k = (refl, when_none (cause_of there d.parcel next) k)

  when_copied : (arriving there at d next moment).outcome ≡ Copied id → (has_seen there at ≡ false) × (cause_of there d.parcel next ≡ None)
  unfolding arriving
  when_copied k = when_unseen (has_seen there at) k

named_if : (m : MsgRow) (b : Bool) → (if b then list_all (λ s. is_some s.name) (recipient_slots m) else list_all is_nameless m.slots) ≡ true → b ≡ true → list_all (λ s. is_some s.name) (recipient_slots m) ≡ true
named_if m true h e = h
named_if m false h e = absurd (false≢true e)

all_recipients : (m : MsgRow) → m.moved ≡ false → recipient_slots m ≡ m.slots
all_recipients m u = ap (λ b. take (if b then length m.slots - 1 else length m.slots) m.slots) u ∙ take-length m.slots

module _ (t there : Tables) (at : SlotRef) (d : Dispatch) (next moment id : ℕ) (v : is_valid t ≡ true) (up : there.next ≤ next) (e : dispatch t at ≡ Some d) (k : (arriving there at d next moment).outcome ≡ Copied id) where
  abbrev from : IsSentBy t (find_message t at.id) at.slot d
  from = by_message t at.slot d (find_message t at.id) e

  stands : StandsNormal t from.message
  stands = sent_normal t v at d from

  same_table : from.table ≡ stands.table
  same_table =
      let a : Some from.table ≡ Some stands.table = sym from.table_is ∙ ap (option_and_then (λ q. find_table t q.table)) stands.queue_is ∙ stands.table_is in
      cc

  admits : IsAdmitted there d.parcel next
  admits = admitted there d.parcel next (when_copied there at d next moment id k).1

  cells_right : (length d.parcel.facts.cells.cells == length d.parcel.fields && are_of_kinds d.parcel.fields d.parcel.facts.cells.cells) ≡ true
  cells_right =
      ap (λ x. length x.facts.cells.cells == length x.fields && are_of_kinds x.fields x.facts.cells.cells) from.parcel_is
      ∙ ap (λ y. length from.message.facts.cells.cells == length y.fields && are_of_kinds y.fields from.message.facts.cells.cells) same_table ∙ stands.right.cells

  row_named : is_some from.row.name ≡ true
  row_named =
      all_at (λ s. is_some s.name) from.message.slots (slot_index from.message at.slot) from.row
      (ap (list_all (λ s. is_some s.name)) (sym (all_recipients from.message stands.unmoved)) ∙ named_if from.message stands.table.multi stands.right.names stands.many)
      (slot_at from.message at.slot from.row from.slot_is)

  pub copy_may_be_taken_in : MayTakeIn there at d.parcel next moment
  copy_may_be_taken_in = record {
    queue = admits.queue;
    table = admits.table;
    queue_is = admits.queue_is;
    table_is = admits.table_is;
    normal = admits.normal;
    typed = cells_same admits.table.fields d.parcel.fields d.parcel.facts.cells.cells admits.same cells_right;
    props = ap (λ x. has_right_props (copy_of admits.table x next there.transaction moment)) from.parcel_is ∙ stands.right.props;
    named = λ many. ap (λ x. is_some x.name) from.parcel_is ∙ row_named;
    next_up = up;
    within = leb-false (2 ^ 61) next admits.within;
    unseen = (when_copied there at d next moment id k).0;
  }
