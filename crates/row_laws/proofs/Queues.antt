-- Queues through changes of messages: all of them but their lowest lanes stays, and so do the tables.
use Rattle.std.proofs.Common.{◌≡◌, ℕ, List, [], ◌∷◌, Bool, true, false, refl, sym, ap, ◌∙◌, Option, Some, None, ℤ}
use Rattle.std.specs.Prelude.{find, option_map, option_and_then, is_some, if◌then◌else◌}
use Rattle.std.specs.List.{list_all}
use Rattle.std.specs.Option.{option_map_or}
use Rattle.std.specs.Str.{bytes_eq}
use Rattle.std.proofs.lemmas.Bool.{and_parts, false≢true}
use Rattle.queue_rows.specs.Rows.{find_queue, find_message, table_of, changed_first}
use Rattle.queue_rows.specs.Tables.{after_change, after_all, lowered, is_grouped, move_in, move_some, lane_of, min_int, moved_to}
use Rattle.queue_rows.specs.Settling.{named_by, retention_of}
use Rattle.queue_rows.specs.declared.tables.Tables.{Tables}
use Rattle.queue_rows.specs.declared.rows.QueueRow.{QueueRow}
use Rattle.queue_rows.specs.declared.rows.TableRow.{TableRow}
use Rattle.queue_rows.specs.declared.rows.MsgRow.{MsgRow}
use Rattle.queue_rows.specs.declared.change.Change.{Change}
use Rattle.queue_rows.specs.declared.change.Change.TheVariants as changes
use Rattle.row_laws.proofs.Firsts.{changed_first-yes, changed_first-no}
use Rattle.row_laws.proofs.Finding.{find-yes, find-no}

-- ---- what is seen of the row that is found

module _ {X Y : Type 0} (p r : X → Bool) (f : X → X) (g : X → Y) where
  seen_cong : (x y : X) (xs ys : List X) (b : Bool) → p x ≡ b → p y ≡ b → g x ≡ g y → option_map g (find p xs) ≡ option_map g (find p ys) → option_map g (find p (x ∷ xs)) ≡ option_map g (find p (y ∷ ys))
  seen_cong x y xs ys true e h k ih = ap (option_map g) (find-yes p x xs e) ∙ ap Some k ∙ sym (ap (option_map g) (find-yes p y ys h))
  seen_cong x y xs ys false e h k ih = ap (option_map g) (find-no p x xs e) ∙ ih ∙ sym (ap (option_map g) (find-no p y ys h))

  seen_step : ((x : X) → p (f x) ≡ p x) → ((x : X) → g (f x) ≡ g x) → (x : X) (xs : List X) (b : Bool) → r x ≡ b → option_map g (find p (changed_first r f xs)) ≡ option_map g (find p xs)
      → option_map g (find p (changed_first r f (x ∷ xs))) ≡ option_map g (find p (x ∷ xs))
  seen_step k l x xs true e ih = ap (λ ys. option_map g (find p ys)) (changed_first-yes r f x xs e) ∙ seen_cong (f x) x xs xs (p x) (k x) refl (l x) refl
  seen_step k l x xs false e ih = ap (λ ys. option_map g (find p ys)) (changed_first-no r f x xs e) ∙ seen_cong x x (changed_first r f xs) xs (p x) refl refl refl ih

  pub find_seen : ((x : X) → p (f x) ≡ p x) → ((x : X) → g (f x) ≡ g x) → (xs : List X) → option_map g (find p (changed_first r f xs)) ≡ option_map g (find p xs)
  find_seen k l [] = refl
  find_seen k l (x ∷ xs) = seen_step k l x xs (r x) refl (find_seen k l xs)

-- ---- a queue's lowest lane follows

module _ {Y : Type 0} (g : QueueRow → Y) (blind : (q : QueueRow) (n : ℤ) → g (record q { lowest = n }) ≡ g q) where
  lowered_if : (q : QueueRow) (n : ℤ) (b : Bool) → g (if b then q else record q { lowest = n }) ≡ g q
  lowered_if q n true = refl
  lowered_if q n false = blind q n

  pub lowered_seen : (t : Tables) (m : MsgRow) (q : QueueRow) → g (lowered t m q) ≡ g q
  lowered_seen t m q = lowered_if q (min_int q.lowest (lane_of m.place)) (is_grouped t.tables q)

pub lowered_name : (t : Tables) (m : MsgRow) (q : QueueRow) → (lowered t m q).name ≡ q.name
lowered_name t m q = lowered_seen (λ x. x.name) (λ x n. refl) t m q

-- ---- changes that name a message

abbrev pub is_naming : Change → Bool
is_naming c = is_some (named_by c)

module _ {Y : Type 0} (g : QueueRow → Y) (blind : (q : QueueRow) (n : ℤ) → g (record q { lowest = n }) ≡ g q) where
  pub move_in_seen : (t : Tables) (m : MsgRow) (queue : List ℕ) (at : ℕ) (name : List ℕ) → option_map g (find_queue (move_in t m queue at) name) ≡ option_map g (find_queue t name)
  move_in_seen t m queue at name =
      let moved = moved_to queue at m in
      find_seen (λ q. bytes_eq q.name name) (λ q. bytes_eq q.name queue) (lowered t moved) g (λ q. ap (λ n. bytes_eq n name) (lowered_name t moved q)) (lowered_seen g blind t moved) t.queues

  moved_if : (t : Tables) (m : MsgRow) (queue : List ℕ) (at : ℕ) (name : List ℕ) (b : Bool) → option_map g (find_queue (if b then move_in t m queue at else t) name) ≡ option_map g (find_queue t name)
  moved_if t m queue at name true = move_in_seen t m queue at name
  moved_if t m queue at name false = refl

  pub moved_seen : (t : Tables) (o : Option MsgRow) (queue : List ℕ) (at : ℕ) (name : List ℕ) → option_map g (find_queue (move_some t o queue at) name) ≡ option_map g (find_queue t name)
  moved_seen t None queue at name = refl
  moved_seen t (Some m) queue at name = moved_if t m queue at name (is_some (find_queue t queue))

  pub queue_seen : (t : Tables) (c : Change) (name : List ℕ) → is_naming c ≡ true → option_map g (find_queue (after_change t c) name) ≡ option_map g (find_queue t name)
  queue_seen t (changes.Retried named slot retries until at) name e = refl
  queue_seen t (changes.Ready named slot at) name e = refl
  queue_seen t (changes.Done named slot at) name e = refl
  queue_seen t (changes.Expired named slot at) name e = refl
  queue_seen t (changes.Dropped named slot at) name e = refl
  queue_seen t (changes.Moved named queue at) name e = moved_seen t (find_message t named) queue at name
  queue_seen t (changes.Purged named) name e = refl
  queue_seen t _ name e = absurd (false≢true e)

  pub queues_seen : (cs : List Change) (t : Tables) (name : List ℕ) → list_all is_naming cs ≡ true → option_map g (find_queue (after_all t cs) name) ≡ option_map g (find_queue t name)
  queues_seen [] t name e = refl
  queues_seen (c ∷ cs) t name e =
      let parts = and_parts (is_naming c) (list_all is_naming cs) e in queues_seen cs (after_change t c) name parts.1 ∙ queue_seen t c name parts.0

tables_if : (t : Tables) (m : MsgRow) (queue : List ℕ) (at : ℕ) (b : Bool) → (if b then move_in t m queue at else t).tables ≡ t.tables
tables_if t m queue at true = refl
tables_if t m queue at false = refl

tables_moved : (t : Tables) (o : Option MsgRow) (queue : List ℕ) (at : ℕ) → (move_some t o queue at).tables ≡ t.tables
tables_moved t None queue at = refl
tables_moved t (Some m) queue at = tables_if t m queue at (is_some (find_queue t queue))

tables_same : (t : Tables) (c : Change) → is_naming c ≡ true → (after_change t c).tables ≡ t.tables
tables_same t (changes.Retried named slot retries until at) e = refl
tables_same t (changes.Ready named slot at) e = refl
tables_same t (changes.Done named slot at) e = refl
tables_same t (changes.Expired named slot at) e = refl
tables_same t (changes.Dropped named slot at) e = refl
tables_same t (changes.Moved named queue at) e = tables_moved t (find_message t named) queue at
tables_same t (changes.Purged named) e = refl
tables_same t _ e = absurd (false≢true e)

pub tables_same_all : (cs : List Change) (t : Tables) → list_all is_naming cs ≡ true → (after_all t cs).tables ≡ t.tables
tables_same_all [] t e = refl
tables_same_all (c ∷ cs) t e =
    let parts = and_parts (is_naming c) (list_all is_naming cs) e in tables_same_all cs (after_change t c) parts.1 ∙ tables_same t c parts.0

by_table : (rows : List TableRow) (o : Option QueueRow) → option_and_then (λ q. find (λ r. bytes_eq r.name q.table) rows) o ≡ option_and_then (λ name. find (λ r. bytes_eq r.name name) rows) (option_map (λ q. q.table) o)
by_table rows None = refl
by_table rows (Some q) = refl

-- the table of a queue stays
pub table_of_same : (cs : List Change) (t : Tables) (name : List ℕ) → list_all is_naming cs ≡ true → table_of (after_all t cs) name ≡ table_of t name
table_of_same cs t name e =
    let u = after_all t cs in
    by_table u.tables (find_queue u name)
    ∙ ap (λ rows. option_and_then (λ n. find (λ r. bytes_eq r.name n) rows) (option_map (λ q. q.table) (find_queue u name))) (tables_same_all cs t e)
    ∙ ap (option_and_then (λ n. find (λ r. bytes_eq r.name n) t.tables)) (queues_seen (λ q. q.table) (λ q n. refl) cs t name e)
    ∙ sym (by_table t.tables (find_queue t name))

by_retention : (o : Option QueueRow) → option_map_or (λ q. q.retention) o 0 ≡ option_map_or (λ (n : ℕ). n) (option_map (λ q. q.retention) o) 0
by_retention None = refl
by_retention (Some q) = refl

-- and what it keeps
pub retention_same : (cs : List Change) (t : Tables) (m : MsgRow) → list_all is_naming cs ≡ true → retention_of (after_all t cs) m ≡ retention_of t m
retention_same cs t m e =
    by_retention (find_queue (after_all t cs) m.queue) ∙ ap (λ o. option_map_or (λ (n : ℕ). n) o 0) (queues_seen (λ q. q.retention) (λ q n. refl) cs t m.queue e)
    ∙ sym (by_retention (find_queue t m.queue))
