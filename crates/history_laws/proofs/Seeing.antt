-- What was seen stays so, and is said once.
use Rattle.std.proofs.Common.{◌≡◌, ◌≤◌, ◌+◌, ℕ, List, [], ◌∷◌, Bool, true, false, refl, sym, ap, ◌∙◌, arith, Option, Some, None, ◌==◌, ◌&&◌, ◌||◌}
use Rattle.std.specs.Prelude.{count_by, is_some, if◌then◌else◌}
use Rattle.std.specs.List.{list_any}
use Rattle.std.proofs.lemmas.Bool.{eqb-true, eqb-false, ne_eqb, and_parts, or_parts, or_from, or_left, not-true, true≢false}
use Rattle.queue_rows.specs.Rows.{find_message, find_queue, find_table}
use Rattle.queue_rows.specs.Tables.{after_change, after_all, after, move_in, move_some, drop_queue, drop_table}
use Rattle.queue_rows.specs.Propagating.{is_pair, has_seen}
use Rattle.queue_rows.specs.Fits.{fits, names_what_is_there, all_name_what_is_there}
use Rattle.queue_rows.specs.Valid.{is_same_seen, is_valid}
use Rattle.queue_rows.specs.declared.tables.Tables.{Tables}
use Rattle.queue_rows.specs.declared.rows.MsgRow.{MsgRow}
use Rattle.queue_rows.specs.declared.rows.SeenRow.{SeenRow}
use Rattle.queue_rows.specs.declared.change.Change.{Change}
use Rattle.queue_rows.specs.declared.change.Change.TheVariants as changes
use Rattle.queue_rows.specs.declared.change.Commit.{Commit}
use Rattle.queue_rows.specs.declared.history.SlotRef.{SlotRef}
use Rattle.statement_laws.proofs.Among.{any_last}
use Rattle.history_laws.specs.Made.{changes_of}
use Rattle.history_laws.specs.LegalFates.{all_fit}
use Rattle.history_laws.specs.Arrivals.{is_seen_of, IsSeenOnce}
use Rattle.history_laws.proofs.Commits.{one_if, count-cons, count-append}

-- ---- one change

moved_seen : (t : Tables) (m : MsgRow) (queue : List ℕ) (at : ℕ) (b : Bool) → (if b then move_in t m queue at else t).seen ≡ t.seen
moved_seen t m queue at true = refl
moved_seen t m queue at false = refl

move_seen : (t : Tables) (o : Option MsgRow) (queue : List ℕ) (at : ℕ) → (move_some t o queue at).seen ≡ t.seen
move_seen t None queue at = refl
move_seen t (Some m) queue at = moved_seen t m queue at (is_some (find_queue t queue))

queue_seen : (t : Tables) (name : List ℕ) (b : Bool) → (if b then drop_queue t name else t).seen ≡ t.seen
queue_seen t name true = refl
queue_seen t name false = refl

table_seen : (t : Tables) (name : List ℕ) (b : Bool) → (if b then drop_table t name else t).seen ≡ t.seen
table_seen t name true = refl
table_seen t name false = refl

or_off : (a : Bool) → (a || false) ≡ a
or_off true = refl
or_off false = refl

module _ (id slot : ℕ) where
  abbrev is_there : Tables → Bool
  is_there t = list_any (is_pair id slot) t.seen

  -- what was seen is what was seen before, or is said now
  seen_after : (t : Tables) (c : Change) → is_there (after_change t c) ≡ (is_there t || is_seen_of id slot c)
  seen_after t (changes.Seen row) = any_last (is_pair id slot) t.seen row
  seen_after t (changes.Moved n queue at) = ap (list_any (is_pair id slot)) (move_seen t (find_message t n) queue at) ∙ sym (or_off (is_there t))
  seen_after t (changes.DropQueue name) = ap (list_any (is_pair id slot)) (queue_seen t name (is_some (find_queue t name))) ∙ sym (or_off (is_there t))
  seen_after t (changes.DropTable name) = ap (list_any (is_pair id slot)) (table_seen t name (is_some (find_table t name))) ∙ sym (or_off (is_there t))
  seen_after t _ = sym (or_off (is_there t))

  equal_back : (a b : ℕ) → (a == b) ≡ (b == a)
  equal_back a b = by (a == b) refl
    where
      by : (c : Bool) → (a == b) ≡ c → (a == b) ≡ (b == a)
      by true e = let same = eqb-true a b e in ap (λ n. n == b) same ∙ ap (λ n. b == n) (sym same)
      by false e = e ∙ sym (ne_eqb b a (λ same. absurd (eqb-false a b e (sym same))))

  -- a pair that is none of those seen is none of them, asked the other way
  none_of : (row : SeenRow) → is_pair id slot row ≡ true → (xs : List SeenRow) → list_any (is_same_seen row) xs ≡ false → list_any (is_pair id slot) xs ≡ false
  none_of row h [] k = refl
  none_of row h (x ∷ xs) k =
      let p = and_parts (row.id == id) (row.slot == slot) h in
      let q = or_parts (is_same_seen row x) (list_any (is_same_seen row) xs) k in
      let same : is_pair id slot x ≡ is_same_seen row x =
      ap (λ n. (x.id == n) && (x.slot == slot)) (sym (eqb-true row.id id p.0)) ∙ ap (λ n. (x.id == row.id) && (x.slot == n)) (sym (eqb-true row.slot slot p.1))
      ∙ ap (λ b. b && (x.slot == row.slot)) (equal_back x.id row.id) ∙ ap (λ b. (row.id == x.id) && b) (equal_back x.slot row.slot) in
      or_from (is_pair id slot x) (list_any (is_pair id slot) xs) (same ∙ q.0) (none_of row h xs q.1)

  -- what is said now was not seen before
  said_new : (t : Tables) (c : Change) → names_what_is_there t c ≡ true → is_seen_of id slot c ≡ true → is_there t ≡ false
  said_new t (changes.Seen row) n h = none_of row h t.seen (not-true (list_any (is_same_seen row) t.seen) n)
  said_new t (changes.PutTable row) n h = absurd (true≢false (sym h))
  said_new t _ n h = absurd (true≢false (sym h))

  one_more : (a b : Bool) → (b ≡ true → a ≡ false) → one_if b + one_if a ≡ one_if (a || b)
  one_more true true k = absurd (true≢false (k refl))
  one_more true false k = refl
  one_more false true k = refl
  one_more false false k = refl

  -- how often it is said, and whether it was before
  counted : (cs : List Change) (t : Tables) → all_name_what_is_there t cs ≡ true → count_by (is_seen_of id slot) cs + one_if (is_there t) ≡ one_if (is_there (after_all t cs))
  counted [] t h = omega arith
  counted (c ∷ cs) t h =
      let p = and_parts (names_what_is_there t c) (all_name_what_is_there (after_change t c) cs) h in
      let ih = counted cs (after_change t c) p.1 in
      let now = ap one_if (seen_after t c) in
      let one = one_more (is_there t) (is_seen_of id slot c) (said_new t c p.0) in
      let head = count-cons (is_seen_of id slot) c cs in
      omega (arith, ih, now, one, head)

  one_least : (b : Bool) → one_if b ≤ 1
  one_least true = omega arith
  one_least false = omega arith

  named_all : (t : Tables) (c : Commit) → fits t c ≡ true → all_name_what_is_there t c.changes ≡ true
  unfolding fits
  named_all t c h = (and_parts (all_name_what_is_there t c.changes) (is_valid (after t c)) h).0

  there_after : (t : Tables) (c : Commit) → is_there (after t c) ≡ is_there (after_all t c.changes)
  unfolding after
  there_after t c = refl

  all_counted : (commits : List Commit) (t : Tables) → all_fit t commits ≡ true → count_by (is_seen_of id slot) (changes_of commits) + one_if (is_there t) ≤ 1
  all_counted [] t h = let k = one_least (is_there t) in omega (arith, k)
  all_counted (c ∷ more) t h =
      let p = and_parts (fits t c) (all_fit (after t c) more) h in
      let ih = all_counted more (after t c) p.1 in
      let one = counted c.changes t (named_all t c p.0) in
      let same = ap one_if (there_after t c) in
      let both = count-append (is_seen_of id slot) c.changes (changes_of more) in
      omega (arith, ih, one, same, both)

pub seen_stays : (t : Tables) (c : Change) (at : SlotRef) → has_seen t at ≡ true → has_seen (after_change t c) at ≡ true
seen_stays t c at h = seen_after at.id at.slot t c ∙ or_left (has_seen t at) (is_seen_of at.id at.slot c) h

pub fitting_sees_once : (t : Tables) (commits : List Commit) (at : SlotRef) → all_fit t commits ≡ true → IsSeenOnce t commits at
fitting_sees_once t commits at h =
    let k = all_counted at.id at.slot commits t h in
    record {
      once = omega (arith, k);
      before = λ seen. let e = ap one_if seen in omega (arith, k, e);
    }
