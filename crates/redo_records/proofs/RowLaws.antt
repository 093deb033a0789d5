-- Rows are read exactly as they are spelled.
use Rattle.std.proofs.Common.{◌≡◌, ℕ, Bool, true, false, cond, eqb, List, [], ◌++◌, Some, refl, sym, ap, subst, ◌∙◌, append_assoc, arith}
use Rattle.std.proofs.lemmas.Bool.{eqb-true, eqb-false}
use Rattle.std.proofs.lemmas.Option.{same_Some}
use Rattle.payload_records.specs.Order.{is_in_order}
use Rattle.payload_records.specs.declared.kind.Field.{Field}
use Rattle.payload_records.specs.declared.props.Prop.{Prop}
use Rattle.place_keys.specs.declared.sort_list.Column.{Column}
use Rattle.queue_rows.specs.declared.rows.TableRow.{TableRow}
use Rattle.queue_rows.specs.declared.rows.QueueRow.{QueueRow}
use Rattle.queue_rows.specs.declared.rows.SubRow.{SubRow}
use Rattle.queue_rows.specs.declared.rows.ScheduleRow.{ScheduleRow}
use Rattle.queue_rows.specs.declared.rows.MsgRow.{MsgRow}
use Rattle.queue_rows.specs.declared.rows.SlotRow.{SlotRow}
use Rattle.queue_rows.specs.declared.rows.SeenRow.{SeenRow}
use Rattle.redo_journal.specs.Num.{num, run, listed, listed_at}
use Rattle.redo_records.specs.Laws.{IsBytes}
use Rattle.redo_records.specs.Reading.{is_sort_list, fields_at, columns_at, props_at, prop_at, table_row_at, queue_row_at, sub_row_at, schedule_row_at, slot_row_at, msg_row_at, seen_row_at}
use Rattle.redo_records.specs.Spelled.{AreFields, AreColumns, AreProps, IsTableRow, IsQueueRow, IsSubRow, IsScheduleRow, IsSlotRow, IsMsgRow, IsSeenRow}
use Rattle.redo_records.specs.Spelling.{field, column, queue_kind, state, flag, int, datum, prop, optional, rule, props, table_row, queue_row, sub_row, schedule_row, slot_row, msg_row, seen_row}
use Rattle.redo_records.proofs.Exact.{Takes, join, Exact, then, num_exact}
use Rattle.redo_records.proofs.Fields.{only, as_is, optional_exact, listed_exact, flag_exact, name_exact, text_exact, int_exact}
use Rattle.redo_records.proofs.Sorts.{is_sort_list_to, is_sort_list_from}
use Rattle.redo_records.proofs.Pieces.{again_then, field_exact, column_exact, queue_kind_exact, state_exact, datum_exact, prop_exact, rule_exact}

-- ---- texts one behind the other

pub regroup_2 : (t0 t1 rest : List ℕ) → (t0 ++ t1) ++ rest ≡ t0 ++ (t1 ++ rest)
regroup_2 t0 t1 rest = append_assoc t0 t1 rest

pub regroup_3 : (t0 t1 t2 rest : List ℕ) → (t0 ++ t1 ++ t2) ++ rest ≡ t0 ++ (t1 ++ (t2 ++ rest))
regroup_3 t0 t1 t2 rest = append_assoc (t0 ++ t1) t2 rest ∙ regroup_2 t0 t1 (t2 ++ rest)

pub regroup_4 : (t0 t1 t2 t3 rest : List ℕ) → (t0 ++ t1 ++ t2 ++ t3) ++ rest ≡ t0 ++ (t1 ++ (t2 ++ (t3 ++ rest)))
regroup_4 t0 t1 t2 t3 rest = append_assoc (t0 ++ t1 ++ t2) t3 rest ∙ regroup_3 t0 t1 t2 (t3 ++ rest)

pub regroup_5 : (t0 t1 t2 t3 t4 rest : List ℕ) → (t0 ++ t1 ++ t2 ++ t3 ++ t4) ++ rest ≡ t0 ++ (t1 ++ (t2 ++ (t3 ++ (t4 ++ rest))))
regroup_5 t0 t1 t2 t3 t4 rest = append_assoc (t0 ++ t1 ++ t2 ++ t3) t4 rest ∙ regroup_4 t0 t1 t2 t3 (t4 ++ rest)

pub regroup_6 : (t0 t1 t2 t3 t4 t5 rest : List ℕ) → (t0 ++ t1 ++ t2 ++ t3 ++ t4 ++ t5) ++ rest ≡ t0 ++ (t1 ++ (t2 ++ (t3 ++ (t4 ++ (t5 ++ rest)))))
regroup_6 t0 t1 t2 t3 t4 t5 rest = append_assoc (t0 ++ t1 ++ t2 ++ t3 ++ t4) t5 rest ∙ regroup_5 t0 t1 t2 t3 t4 (t5 ++ rest)

pub regroup_7 : (t0 t1 t2 t3 t4 t5 t6 rest : List ℕ) → (t0 ++ t1 ++ t2 ++ t3 ++ t4 ++ t5 ++ t6) ++ rest ≡ t0 ++ (t1 ++ (t2 ++ (t3 ++ (t4 ++ (t5 ++ (t6 ++ rest))))))
regroup_7 t0 t1 t2 t3 t4 t5 t6 rest = append_assoc (t0 ++ t1 ++ t2 ++ t3 ++ t4 ++ t5) t6 rest ∙ regroup_6 t0 t1 t2 t3 t4 t5 (t6 ++ rest)

pub regroup_8 : (t0 t1 t2 t3 t4 t5 t6 t7 rest : List ℕ) → (t0 ++ t1 ++ t2 ++ t3 ++ t4 ++ t5 ++ t6 ++ t7) ++ rest ≡ t0 ++ (t1 ++ (t2 ++ (t3 ++ (t4 ++ (t5 ++ (t6 ++ (t7 ++ rest)))))))
regroup_8 t0 t1 t2 t3 t4 t5 t6 t7 rest = append_assoc (t0 ++ t1 ++ t2 ++ t3 ++ t4 ++ t5 ++ t6) t7 rest ∙ regroup_7 t0 t1 t2 t3 t4 t5 t6 (t7 ++ rest)

pub regroup_9 : (t0 t1 t2 t3 t4 t5 t6 t7 t8 rest : List ℕ) → (t0 ++ t1 ++ t2 ++ t3 ++ t4 ++ t5 ++ t6 ++ t7 ++ t8) ++ rest ≡ t0 ++ (t1 ++ (t2 ++ (t3 ++ (t4 ++ (t5 ++ (t6 ++ (t7 ++ (t8 ++ rest))))))))
regroup_9 t0 t1 t2 t3 t4 t5 t6 t7 t8 rest = append_assoc (t0 ++ t1 ++ t2 ++ t3 ++ t4 ++ t5 ++ t6 ++ t7) t8 rest ∙ regroup_8 t0 t1 t2 t3 t4 t5 t6 t7 (t8 ++ rest)

pub regroup_10 : (t0 t1 t2 t3 t4 t5 t6 t7 t8 t9 rest : List ℕ) → (t0 ++ t1 ++ t2 ++ t3 ++ t4 ++ t5 ++ t6 ++ t7 ++ t8 ++ t9) ++ rest ≡ t0 ++ (t1 ++ (t2 ++ (t3 ++ (t4 ++ (t5 ++ (t6 ++ (t7 ++ (t8 ++ (t9 ++ rest)))))))))
regroup_10 t0 t1 t2 t3 t4 t5 t6 t7 t8 t9 rest = append_assoc (t0 ++ t1 ++ t2 ++ t3 ++ t4 ++ t5 ++ t6 ++ t7 ++ t8) t9 rest ∙ regroup_9 t0 t1 t2 t3 t4 t5 t6 t7 t8 (t9 ++ rest)

pub regroup_11 : (t0 t1 t2 t3 t4 t5 t6 t7 t8 t9 t10 rest : List ℕ) → (t0 ++ t1 ++ t2 ++ t3 ++ t4 ++ t5 ++ t6 ++ t7 ++ t8 ++ t9 ++ t10) ++ rest ≡ t0 ++ (t1 ++ (t2 ++ (t3 ++ (t4 ++ (t5 ++ (t6 ++ (t7 ++ (t8 ++ (t9 ++ (t10 ++ rest))))))))))
regroup_11 t0 t1 t2 t3 t4 t5 t6 t7 t8 t9 t10 rest = append_assoc (t0 ++ t1 ++ t2 ++ t3 ++ t4 ++ t5 ++ t6 ++ t7 ++ t8 ++ t9) t10 rest ∙ regroup_10 t0 t1 t2 t3 t4 t5 t6 t7 t8 t9 (t10 ++ rest)

pub regroup_12 : (t0 t1 t2 t3 t4 t5 t6 t7 t8 t9 t10 t11 rest : List ℕ) → (t0 ++ t1 ++ t2 ++ t3 ++ t4 ++ t5 ++ t6 ++ t7 ++ t8 ++ t9 ++ t10 ++ t11) ++ rest ≡ t0 ++ (t1 ++ (t2 ++ (t3 ++ (t4 ++ (t5 ++ (t6 ++ (t7 ++ (t8 ++ (t9 ++ (t10 ++ (t11 ++ rest)))))))))))
regroup_12 t0 t1 t2 t3 t4 t5 t6 t7 t8 t9 t10 t11 rest = append_assoc (t0 ++ t1 ++ t2 ++ t3 ++ t4 ++ t5 ++ t6 ++ t7 ++ t8 ++ t9 ++ t10) t11 rest ∙ regroup_11 t0 t1 t2 t3 t4 t5 t6 t7 t8 t9 t10 (t11 ++ rest)

-- ---- lists in rows

fields_exact : Exact (List Field) fields_at (listed field) AreFields
fields_exact = only (listed_exact field_exact) is_in_order

columns_exact : Exact (List Column) columns_at (listed column) AreColumns
columns_exact = as_is (only (listed_exact column_exact) is_sort_list) AreColumns (λ columns is. (is.0, is_sort_list_to columns is.1)) (λ columns is. (is.0, is_sort_list_from columns is.1))

-- ---- rows

table_row_takes : (bytes : List ℕ) (x : TableRow × List ℕ) → IsBytes bytes → table_row_at bytes ≡ Some x → Takes bytes (table_row x.0) x.1 × IsTableRow x.0
unfolding table_row_at
table_row_takes bytes x fits e =
    then name_exact bytes fits _ x e (λ name t0 i0 e0.
    then fields_exact name.1 t0.rest_fits _ x e0 (λ fields t1 i1 e1.
    then columns_exact fields.1 t1.rest_fits _ x e1 (λ sort t2 i2 e2.
    then flag_exact sort.1 t2.rest_fits _ x e2 (λ multi t3 i3 e3.
    then flag_exact multi.1 t3.rest_fits _ x e3 (λ grouped t4 i4 e4.
    subst (λ (y : TableRow × List ℕ). Takes bytes (table_row y.0) y.1 × IsTableRow y.0) (same_Some (record { name = name.0; fields = fields.0; columns = sort.0; multi = multi.0; grouped = grouped.0 }, grouped.1) x e4)
    ((join (join (join (join t0 t1) t2) t3) t4), record { name = i0; fields = i1; columns = i2 }))))))

table_row_again : (r : TableRow) (rest : List ℕ) → IsTableRow r → table_row_at (table_row r ++ rest) ≡ Some (r, rest)
unfolding table_row_at
table_row_again r rest is =
    let a4 = flag r.grouped ++ rest in
    let a3 = flag r.multi ++ a4 in
    let a2 = listed column r.columns ++ a3 in
    let a1 = listed field r.fields ++ a2 in
    ap (table_row_at) (regroup_5 (run r.name) (listed field r.fields) (listed column r.columns) (flag r.multi) (flag r.grouped) rest) ∙
    again_then name_exact _ r.name a1 is.name _
    (again_then fields_exact _ r.fields a2 is.fields _
    (again_then columns_exact _ r.columns a3 is.columns _
    (again_then flag_exact _ r.multi a4 tt _
    (again_then flag_exact _ r.grouped rest tt _ refl))))

pub table_row_exact : Exact TableRow table_row_at table_row IsTableRow
table_row_exact = record { takes = table_row_takes; again = table_row_again }

queue_row_takes : (bytes : List ℕ) (x : QueueRow × List ℕ) → IsBytes bytes → queue_row_at bytes ≡ Some x → Takes bytes (queue_row x.0) x.1 × IsQueueRow x.0
unfolding queue_row_at
queue_row_takes bytes x fits e =
    then name_exact bytes fits _ x e (λ name t0 i0 e0.
    then name_exact name.1 t0.rest_fits _ x e0 (λ table t1 i1 e1.
    then queue_kind_exact table.1 t1.rest_fits _ x e1 (λ kind t2 i2 e2.
    then flag_exact kind.1 t2.rest_fits _ x e2 (λ enqueue t3 i3 e3.
    then flag_exact enqueue.1 t3.rest_fits _ x e3 (λ dequeue t4 i4 e4.
    then num_exact dequeue.1 t4.rest_fits _ x e4 (λ max_retries t5 i5 e5.
    then num_exact max_retries.1 t5.rest_fits _ x e5 (λ retry_delay t6 i6 e6.
    then num_exact retry_delay.1 t6.rest_fits _ x e6 (λ retention t7 i7 e7.
    then int_exact retention.1 t7.rest_fits _ x e7 (λ lowest t8 i8 e8.
    subst (λ (y : QueueRow × List ℕ). Takes bytes (queue_row y.0) y.1 × IsQueueRow y.0) (same_Some (record { name = name.0; table = table.0; kind = kind.0; enqueue = enqueue.0; dequeue = dequeue.0; max_retries = max_retries.0; retry_delay = retry_delay.0; retention = retention.0; lowest = lowest.0 }, lowest.1) x e8)
    ((join (join (join (join (join (join (join (join t0 t1) t2) t3) t4) t5) t6) t7) t8), record { name = i0; table = i1; max_retries = i5; retry_delay = i6; retention = i7; lowest = i8 }))))))))))

queue_row_again : (r : QueueRow) (rest : List ℕ) → IsQueueRow r → queue_row_at (queue_row r ++ rest) ≡ Some (r, rest)
unfolding queue_row_at
queue_row_again r rest is =
    let a8 = int r.lowest ++ rest in
    let a7 = num r.retention ++ a8 in
    let a6 = num r.retry_delay ++ a7 in
    let a5 = num r.max_retries ++ a6 in
    let a4 = flag r.dequeue ++ a5 in
    let a3 = flag r.enqueue ++ a4 in
    let a2 = queue_kind r.kind ++ a3 in
    let a1 = run r.table ++ a2 in
    ap (queue_row_at) (regroup_9 (run r.name) (run r.table) (queue_kind r.kind) (flag r.enqueue) (flag r.dequeue) (num r.max_retries) (num r.retry_delay) (num r.retention) (int r.lowest) rest) ∙
    again_then name_exact _ r.name a1 is.name _
    (again_then name_exact _ r.table a2 is.table _
    (again_then queue_kind_exact _ r.kind a3 tt _
    (again_then flag_exact _ r.enqueue a4 tt _
    (again_then flag_exact _ r.dequeue a5 tt _
    (again_then num_exact _ r.max_retries a6 is.max_retries _
    (again_then num_exact _ r.retry_delay a7 is.retry_delay _
    (again_then num_exact _ r.retention a8 is.retention _
    (again_then int_exact _ r.lowest rest is.lowest _ refl))))))))

pub queue_row_exact : Exact QueueRow queue_row_at queue_row IsQueueRow
queue_row_exact = record { takes = queue_row_takes; again = queue_row_again }

sub_row_takes : (bytes : List ℕ) (x : SubRow × List ℕ) → IsBytes bytes → sub_row_at bytes ≡ Some x → Takes bytes (sub_row x.0) x.1 × IsSubRow x.0
unfolding sub_row_at
sub_row_takes bytes x fits e =
    then name_exact bytes fits _ x e (λ queue t0 i0 e0.
    then name_exact queue.1 t0.rest_fits _ x e0 (λ name t1 i1 e1.
    then (optional_exact name_exact) name.1 t1.rest_fits _ x e1 (λ address t2 i2 e2.
    then (optional_exact rule_exact) address.1 t2.rest_fits _ x e2 (λ given t3 i3 e3.
    subst (λ (y : SubRow × List ℕ). Takes bytes (sub_row y.0) y.1 × IsSubRow y.0) (same_Some (record { queue = queue.0; name = name.0; address = address.0; rule = given.0 }, given.1) x e3)
    ((join (join (join t0 t1) t2) t3), record { queue = i0; name = i1; address = i2; rule = i3 })))))

sub_row_again : (r : SubRow) (rest : List ℕ) → IsSubRow r → sub_row_at (sub_row r ++ rest) ≡ Some (r, rest)
unfolding sub_row_at
sub_row_again r rest is =
    let a3 = optional rule r.rule ++ rest in
    let a2 = optional run r.address ++ a3 in
    let a1 = run r.name ++ a2 in
    ap (sub_row_at) (regroup_4 (run r.queue) (run r.name) (optional run r.address) (optional rule r.rule) rest) ∙
    again_then name_exact _ r.queue a1 is.queue _
    (again_then name_exact _ r.name a2 is.name _
    (again_then (optional_exact name_exact) _ r.address a3 is.address _
    (again_then (optional_exact rule_exact) _ r.rule rest is.rule _ refl)))

pub sub_row_exact : Exact SubRow sub_row_at sub_row IsSubRow
sub_row_exact = record { takes = sub_row_takes; again = sub_row_again }

schedule_row_takes : (bytes : List ℕ) (x : ScheduleRow × List ℕ) → IsBytes bytes → schedule_row_at bytes ≡ Some x → Takes bytes (schedule_row x.0) x.1 × IsScheduleRow x.0
unfolding schedule_row_at
schedule_row_takes bytes x fits e =
    then name_exact bytes fits _ x e (λ queue t0 i0 e0.
    then name_exact queue.1 t0.rest_fits _ x e0 (λ to t1 i1 e1.
    then flag_exact to.1 t1.rest_fits _ x e1 (λ enabled t2 i2 e2.
    then num_exact enabled.1 t2.rest_fits _ x e2 (λ start t3 i3 e3.
    then (optional_exact num_exact) start.1 t3.rest_fits _ x e3 (λ duration t4 i4 e4.
    then (optional_exact num_exact) duration.1 t4.rest_fits _ x e4 (λ period t5 i5 e5.
    then num_exact period.1 t5.rest_fits _ x e5 (λ latency t6 i6 e6.
    then num_exact latency.1 t6.rest_fits _ x e6 (λ failures t7 i7 e7.
    then num_exact failures.1 t7.rest_fits _ x e7 (λ next t8 i8 e8.
    subst (λ (y : ScheduleRow × List ℕ). Takes bytes (schedule_row y.0) y.1 × IsScheduleRow y.0) (same_Some (record { queue = queue.0; to = to.0; enabled = enabled.0; start = start.0; duration = duration.0; period = period.0; latency = latency.0; failures = failures.0; next = next.0 }, next.1) x e8)
    ((join (join (join (join (join (join (join (join t0 t1) t2) t3) t4) t5) t6) t7) t8), record { queue = i0; to = i1; start = i3; duration = i4; period = i5; latency = i6; failures = i7; next = i8 }))))))))))

schedule_row_again : (r : ScheduleRow) (rest : List ℕ) → IsScheduleRow r → schedule_row_at (schedule_row r ++ rest) ≡ Some (r, rest)
unfolding schedule_row_at
schedule_row_again r rest is =
    let a8 = num r.next ++ rest in
    let a7 = num r.failures ++ a8 in
    let a6 = num r.latency ++ a7 in
    let a5 = optional num r.period ++ a6 in
    let a4 = optional num r.duration ++ a5 in
    let a3 = num r.start ++ a4 in
    let a2 = flag r.enabled ++ a3 in
    let a1 = run r.to ++ a2 in
    ap (schedule_row_at) (regroup_9 (run r.queue) (run r.to) (flag r.enabled) (num r.start) (optional num r.duration) (optional num r.period) (num r.latency) (num r.failures) (num r.next) rest) ∙
    again_then name_exact _ r.queue a1 is.queue _
    (again_then name_exact _ r.to a2 is.to _
    (again_then flag_exact _ r.enabled a3 tt _
    (again_then num_exact _ r.start a4 is.start _
    (again_then (optional_exact num_exact) _ r.duration a5 is.duration _
    (again_then (optional_exact num_exact) _ r.period a6 is.period _
    (again_then num_exact _ r.latency a7 is.latency _
    (again_then num_exact _ r.failures a8 is.failures _
    (again_then num_exact _ r.next rest is.next _ refl))))))))

pub schedule_row_exact : Exact ScheduleRow schedule_row_at schedule_row IsScheduleRow
schedule_row_exact = record { takes = schedule_row_takes; again = schedule_row_again }

slot_row_takes : (bytes : List ℕ) (x : SlotRow × List ℕ) → IsBytes bytes → slot_row_at bytes ≡ Some x → Takes bytes (slot_row x.0) x.1 × IsSlotRow x.0
unfolding slot_row_at
slot_row_takes bytes x fits e =
    then (optional_exact name_exact) bytes fits _ x e (λ name t0 i0 e0.
    then (optional_exact name_exact) name.1 t0.rest_fits _ x e0 (λ address t1 i1 e1.
    then state_exact address.1 t1.rest_fits _ x e1 (λ reached t2 i2 e2.
    then num_exact reached.1 t2.rest_fits _ x e2 (λ retries t3 i3 e3.
    then num_exact retries.1 t3.rest_fits _ x e3 (λ at t4 i4 e4.
    then (optional_exact num_exact) at.1 t4.rest_fits _ x e4 (λ expires t5 i5 e5.
    subst (λ (y : SlotRow × List ℕ). Takes bytes (slot_row y.0) y.1 × IsSlotRow y.0) (same_Some (record { name = name.0; address = address.0; state = reached.0; retries = retries.0; at = at.0; expires = expires.0 }, expires.1) x e5)
    ((join (join (join (join (join t0 t1) t2) t3) t4) t5), record { name = i0; address = i1; retries = i3; at = i4; expires = i5 })))))))

slot_row_again : (r : SlotRow) (rest : List ℕ) → IsSlotRow r → slot_row_at (slot_row r ++ rest) ≡ Some (r, rest)
unfolding slot_row_at
slot_row_again r rest is =
    let a5 = optional num r.expires ++ rest in
    let a4 = num r.at ++ a5 in
    let a3 = num r.retries ++ a4 in
    let a2 = state r.state ++ a3 in
    let a1 = optional run r.address ++ a2 in
    ap (slot_row_at) (regroup_6 (optional run r.name) (optional run r.address) (state r.state) (num r.retries) (num r.at) (optional num r.expires) rest) ∙
    again_then (optional_exact name_exact) _ r.name a1 is.name _
    (again_then (optional_exact name_exact) _ r.address a2 is.address _
    (again_then state_exact _ r.state a3 tt _
    (again_then num_exact _ r.retries a4 is.retries _
    (again_then num_exact _ r.at a5 is.at _
    (again_then (optional_exact num_exact) _ r.expires rest is.expires _ refl)))))

pub slot_row_exact : Exact SlotRow slot_row_at slot_row IsSlotRow
slot_row_exact = record { takes = slot_row_takes; again = slot_row_again }

seen_row_takes : (bytes : List ℕ) (x : SeenRow × List ℕ) → IsBytes bytes → seen_row_at bytes ≡ Some x → Takes bytes (seen_row x.0) x.1 × IsSeenRow x.0
unfolding seen_row_at
seen_row_takes bytes x fits e =
    then num_exact bytes fits _ x e (λ id t0 i0 e0.
    then num_exact id.1 t0.rest_fits _ x e0 (λ slot t1 i1 e1.
    then num_exact slot.1 t1.rest_fits _ x e1 (λ copy t2 i2 e2.
    subst (λ (y : SeenRow × List ℕ). Takes bytes (seen_row y.0) y.1 × IsSeenRow y.0) (same_Some (record { id = id.0; slot = slot.0; copy = copy.0 }, copy.1) x e2)
    ((join (join t0 t1) t2), record { id = i0; slot = i1; copy = i2 }))))

seen_row_again : (r : SeenRow) (rest : List ℕ) → IsSeenRow r → seen_row_at (seen_row r ++ rest) ≡ Some (r, rest)
unfolding seen_row_at
seen_row_again r rest is =
    let a2 = num r.copy ++ rest in
    let a1 = num r.slot ++ a2 in
    ap (seen_row_at) (regroup_3 (num r.id) (num r.slot) (num r.copy) rest) ∙
    again_then num_exact _ r.id a1 is.id _
    (again_then num_exact _ r.slot a2 is.slot _
    (again_then num_exact _ r.copy rest is.copy _ refl))

pub seen_row_exact : Exact SeenRow seen_row_at seen_row IsSeenRow
seen_row_exact = record { takes = seen_row_takes; again = seen_row_again }

-- ---- properties

props_takes_by : (t : Bool) (version : ℕ) (bytes : List ℕ) (x : List Prop × List ℕ) → eqb version 1 ≡ t → IsBytes bytes → cond t (Some ([], bytes)) (listed_at prop_at bytes) ≡ Some x → Takes bytes (cond t [] (listed prop x.0)) x.1 × AreProps version x.0
props_takes_by true version bytes x h fits e =
    subst (λ (y : List Prop × List ℕ). Takes bytes [] y.1 × AreProps version y.0) (same_Some ([], bytes) x e) (record { parts = refl; rest_fits = fits }, (λ one. refl, (omega arith, tt)))
props_takes_by false version bytes x h fits e =
    let t = (listed_exact prop_exact).takes bytes x fits e in
    (t.0, (λ one. absurd (eqb-false version 1 h one), t.1))

props_again_by : (t : Bool) (version : ℕ) (ps : List Prop) (rest : List ℕ) → eqb version 1 ≡ t → AreProps version ps → cond t (Some ([], cond t [] (listed prop ps) ++ rest)) (listed_at prop_at (cond t [] (listed prop ps) ++ rest)) ≡ Some (ps, rest)
props_again_by true version ps rest h are = ap (λ (given : List Prop). Some (given, rest)) (sym (are.0 (eqb-true version 1 h)))
props_again_by false version ps rest h are = (listed_exact prop_exact).again ps rest are.1

props_exact : (version : ℕ) → Exact (List Prop) (props_at version) (props version) (AreProps version)
props_exact version = record {
  takes = λ bytes x fits e. props_takes_by (eqb version 1) version bytes x refl fits e;
  again = λ ps rest are. props_again_by (eqb version 1) version ps rest refl are;
}

msg_row_takes : (version : ℕ) (bytes : List ℕ) (x : MsgRow × List ℕ) → IsBytes bytes → msg_row_at version bytes ≡ Some x → Takes bytes (msg_row version x.0) x.1 × IsMsgRow version x.0
unfolding msg_row_at
msg_row_takes version bytes x fits e =
    then num_exact bytes fits _ x e (λ id t0 i0 e0.
    then name_exact id.1 t0.rest_fits _ x e0 (λ queue t1 i1 e1.
    then (listed_exact int_exact) queue.1 t1.rest_fits _ x e1 (λ place t2 i2 e2.
    then int_exact place.1 t2.rest_fits _ x e2 (λ priority t3 i3 e3.
    then (optional_exact text_exact) priority.1 t3.rest_fits _ x e3 (λ corr t4 i4 e4.
    then (optional_exact name_exact) corr.1 t4.rest_fits _ x e4 (λ exception t5 i5 e5.
    then (listed_exact datum_exact) exception.1 t5.rest_fits _ x e5 (λ cells t6 i6 e6.
    then num_exact cells.1 t6.rest_fits _ x e6 (λ enq t7 i7 e7.
    then num_exact enq.1 t7.rest_fits _ x e7 (λ group t8 i8 e8.
    then flag_exact group.1 t8.rest_fits _ x e8 (λ moved t9 i9 e9.
    then (listed_exact slot_row_exact) moved.1 t9.rest_fits _ x e9 (λ slots t10 i10 e10.
    then (props_exact version) slots.1 t10.rest_fits _ x e10 (λ given t11 i11 e11.
    subst (λ (y : MsgRow × List ℕ). Takes bytes (msg_row version y.0) y.1 × IsMsgRow version y.0) (same_Some (record { id = id.0; queue = queue.0; place = place.0; facts = record { priority = priority.0; corr = corr.0; cells = record { cells = cells.0 }; props = given.0 }; exception = exception.0; enq = enq.0; group = group.0; moved = moved.0; slots = slots.0 }, given.1) x e11)
    ((join (join (join (join (join (join (join (join (join (join (join t0 t1) t2) t3) t4) t5) t6) t7) t8) t9) t10) t11), record { id = i0; queue = i1; place = i2; priority = i3; corr = i4; exception = i5; cells = i6; enq = i7; group = i8; slots = i10; props = i11 })))))))))))))

msg_row_again : (version : ℕ) (r : MsgRow) (rest : List ℕ) → IsMsgRow version r → msg_row_at version (msg_row version r ++ rest) ≡ Some (r, rest)
unfolding msg_row_at
msg_row_again version r rest is =
    let a11 = props version r.facts.props ++ rest in
    let a10 = listed slot_row r.slots ++ a11 in
    let a9 = flag r.moved ++ a10 in
    let a8 = num r.group ++ a9 in
    let a7 = num r.enq ++ a8 in
    let a6 = listed datum r.facts.cells.cells ++ a7 in
    let a5 = optional run r.exception ++ a6 in
    let a4 = optional run r.facts.corr ++ a5 in
    let a3 = int r.facts.priority ++ a4 in
    let a2 = listed int r.place ++ a3 in
    let a1 = run r.queue ++ a2 in
    ap (msg_row_at version) (regroup_12 (num r.id) (run r.queue) (listed int r.place) (int r.facts.priority) (optional run r.facts.corr) (optional run r.exception) (listed datum r.facts.cells.cells) (num r.enq) (num r.group) (flag r.moved) (listed slot_row r.slots) (props version r.facts.props) rest) ∙
    again_then num_exact _ r.id a1 is.id _
    (again_then name_exact _ r.queue a2 is.queue _
    (again_then (listed_exact int_exact) _ r.place a3 is.place _
    (again_then int_exact _ r.facts.priority a4 is.priority _
    (again_then (optional_exact text_exact) _ r.facts.corr a5 is.corr _
    (again_then (optional_exact name_exact) _ r.exception a6 is.exception _
    (again_then (listed_exact datum_exact) _ r.facts.cells.cells a7 is.cells _
    (again_then num_exact _ r.enq a8 is.enq _
    (again_then num_exact _ r.group a9 is.group _
    (again_then flag_exact _ r.moved a10 tt _
    (again_then (listed_exact slot_row_exact) _ r.slots a11 is.slots _
    (again_then (props_exact version) _ r.facts.props rest is.props _ refl)))))))))))

pub msg_row_exact : (version : ℕ) → Exact MsgRow (msg_row_at version) (msg_row version) (IsMsgRow version)
msg_row_exact version = record { takes = msg_row_takes version; again = msg_row_again version }
