-- A message that is put in keeps tables valid.
use Rattle.std.proofs.Common.{◌≡◌, ◌≤◌, ◌<◌, ◌+◌, ℕ, [], ◌∷◌, ◌++◌, true, false, max, refl, ap, arith, ◌&&◌}
use Rattle.std.specs.Prelude.{is_none, nat_le, nat_lt}
use Rattle.std.proofs.lemmas.Bool.{and_from, le-leb, lt-ltb, not_from_false}
use Rattle.aq_base.specs.declared.limits.TheConstants.{NEXT_LIMIT}
use Rattle.queue_rows.specs.Tables.{after_change}
use Rattle.queue_rows.specs.Settling.{is_exception}
use Rattle.queue_rows.specs.Distinct.{are_distinct}
use Rattle.queue_rows.specs.Valid.{is_valid, is_same_message, is_valid_message, is_right_queue}
use Rattle.queue_rows.specs.declared.tables.Tables.{Tables}
use Rattle.queue_rows.specs.declared.rows.MsgRow.{MsgRow}
use Rattle.queue_rows.specs.declared.rows.QueueRow.{QueueRow}
use Rattle.queue_rows.specs.declared.change.Change.TheVariants as changes
use Rattle.row_laws.proofs.Distinctly.{stays_distinct}
use Rattle.valid_laws.specs.ValidLaws.{PutsRight}
use Rattle.valid_laws.proofs.Doing.{all-append}
use Rattle.valid_laws.proofs.Parts.{valid_distinct, valid_messages, all_weaker}
use Rattle.valid_laws.proofs.Lowering.{AreNumbers, IsLaneRight, IsRightIn, low, low_is_valid, own_valid, other_valid, numbers_of}

max_within : (a b limit : ℕ) → a ≤ limit → b < limit → max a (b + 1) ≤ limit
max_within a b limit h g = omega arith

below_max : (a b : ℕ) → b < max a (b + 1)
below_max a b = omega arith

up_to_max : (a b : ℕ) → a ≤ max a b
up_to_max a b = omega arith

in_normal : (m : MsgRow) (q : QueueRow) → m.moved ≡ false → is_exception q.kind ≡ false → is_right_queue m q ≡ true
in_normal m q u e = rw u (not_from_false (is_exception q.kind) e)

module _ (t : Tables) (v : is_valid t ≡ true) (row : MsgRow) (k : PutsRight t row) where
  numbers_after : AreNumbers t (max t.next (row.id + 1)) (max t.transaction (row.group + 1))
  numbers_after = record {
    next_up = up_to_max t.next (row.id + 1);
    transaction_up = up_to_max t.transaction (row.group + 1);
    within = max_within t.next row.id NEXT_LIMIT (numbers_of t v).within k.id_within;
    below = k.groups;
  }

  lane_after : IsLaneRight t (max t.next (row.id + 1)) row k.queue
  lane_after = k.lane

  right_in : IsRightIn t v row row.queue k.queue k.queue_is (max t.next (row.id + 1)) (max t.transaction (row.group + 1)) numbers_after lane_after row
  right_in = record {
    table = k.table;
    queue_is = refl;
    table_is = k.table_is;
    right_queue = in_normal row k.queue k.unmoved k.normal;
    typed = k.typed;
    ids = and_from (nat_le 1 row.id && nat_lt row.id (max t.next (row.id + 1)) && nat_le 1 row.group) (nat_lt row.group (max t.transaction (row.group + 1)))
        (and_from (nat_le 1 row.id && nat_lt row.id (max t.next (row.id + 1))) (nat_le 1 row.group)
        (and_from (nat_le 1 row.id) (nat_lt row.id (max t.next (row.id + 1))) (le-leb 1 row.id k.id) (lt-ltb row.id (max t.next (row.id + 1)) (below_max t.next row.id)))
        (le-leb 1 row.group k.group))
        (lt-ltb row.group (max t.transaction (row.group + 1)) (below_max t.transaction row.group));
    place = k.place;
    lane_is = refl;
    props = k.props;
    entered = le-leb row.enq t.latest k.entered;
    slots = k.slots;
  }

  distinct_after : are_distinct is_same_message (t.messages ++ row ∷ []) ≡ true
  distinct_after = stays_distinct t (changes.Enqueued row) (valid_distinct t v) (ap is_none k.new)

  pub put_is_valid : is_valid (after_change t (changes.Enqueued row)) ≡ true
  put_is_valid =
      let u = low t v row row.queue k.queue k.queue_is (max t.next (row.id + 1)) (max t.transaction (row.group + 1)) numbers_after lane_after in
      low_is_valid t v row row.queue k.queue k.queue_is (max t.next (row.id + 1)) (max t.transaction (row.group + 1)) numbers_after lane_after (t.messages ++ row ∷ []) distinct_after
      (all-append (is_valid_message u) t.messages (row ∷ [])
      (all_weaker (is_valid_message t) (is_valid_message u) (other_valid t v row row.queue k.queue k.queue_is (max t.next (row.id + 1)) (max t.transaction (row.group + 1)) numbers_after lane_after) t.messages (valid_messages t v))
      (and_from (is_valid_message u row) true (own_valid t v row row.queue k.queue k.queue_is (max t.next (row.id + 1)) (max t.transaction (row.group + 1)) numbers_after lane_after row right_in) refl))
