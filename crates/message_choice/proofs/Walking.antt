-- The rows of the index that a search goes over, and what it finds.
use Rattle.std.proofs.Common.{◌≡◌, ℕ, ◌+◌, ◌*◌, ◌≤◌, ℤ, Bool, true, false, cond, List, [], ◌∷◌, map, filter, Option, Some, None, refl, sym, ap, ◌∙◌, arith}
use Rattle.std.proofs.lemmas.Bool.{and_parts}
use Rattle.std.specs.Ordering.{is_gt}
use Rattle.row_tree.specs.Found.{kept_by}
use Rattle.place_keys.specs.Place.{place_cmp}
use Rattle.queue_rows.specs.Dequeueing.{Look, is_available, meets}
use Rattle.queue_rows.specs.declared.rows.MsgRow.{MsgRow}
use Rattle.sort_index.specs.Ready.{is_past, rows_of}
use Rattle.sort_index.specs.declared.group.Ready.{Ready}
use Rattle.sort_index.specs.declared.group.Group.{Group}
use Rattle.sort_index.proofs.Past.{all_past}
use Rattle.choice_laws.specs.ChoiceLaws.{AreAllIn}
use Rattle.choice_laws.specs.Choosing.{first_passing, looks, may_give}
use Rattle.choice_laws.specs.Choosing as choosing
use Rattle.choice_laws.specs.Entries.{Entry, Row, AreRising, message_at, messages_of, rows_past}
use Rattle.choice_laws.proofs.Available.{available_stands}
use Rattle.choice_laws.proofs.Going.{same_past}
use Rattle.choice_laws.proofs.Looking.{looks_are_few, looks_past_are_few}
use Rattle.choice_laws.proofs.Searching.{first_is_least, first_past_is_least}
use Rattle.ready_slots.specs.Indexed.{IndexesReady, stamped}
use Rattle.ready_slots.proofs.Leading.{missed_first, missed_looks, hit_first, hit_looks}
use Rattle.message_choice.specs.Offered.{most_looks}
use Rattle.message_choice.specs.Searched.{rows_in, first_in, looks_in}
use Rattle.message_choice.specs.Wanted.{lies_in, nearest_past, passes}
use Rattle.message_choice.specs.declared.asking.Filter.{Filter}

-- ---- one row of the index

module _ (l : Look) (f : Filter) (entries : List Entry) (row : Ready) (rest : List Ready) where
  -- a search that comes to a hit
  pub record EndsWith (m : MsgRow) : Type 0 where
    pub found : first_in l f entries (row ∷ rest) ≡ Some m
    pub looked : looks_in l f entries (row ∷ rest) ≡ 1

  pub ends_with : (m : MsgRow) → kept_by (passes l f) (message_at entries row.id) ≡ Some m → EndsWith m
  ends_with m hit = record {
    found = hit_first entries (passes l f) (stamped row) (map stamped rest) m hit;
    looked = hit_looks entries (passes l f) (stamped row) (map stamped rest) m hit;
  }

  -- a search that comes to a row that does not pass
  pub record GoesOn : Type 0 where
    pub found : first_in l f entries (row ∷ rest) ≡ first_in l f entries rest
    pub looked : looks_in l f entries (row ∷ rest) ≡ 1 + looks_in l f entries rest

  pub goes_on : kept_by (passes l f) (message_at entries row.id) ≡ None → GoesOn
  goes_on miss = record {
    found = missed_first entries (passes l f) (stamped row) (map stamped rest) miss;
    looked = missed_looks entries (passes l f) (stamped row) (map stamped rest) miss;
  }

-- ---- the rows past a place

module _ {T U : Type 0} (told : T → U) (p : U → Bool) where
  filter_told : (xs : List T) → map told (filter (λ x. p (told x)) xs) ≡ filter p (map told xs)
  filter_told [] = refl
  filter_told (x ∷ xs) =
      let kept = filter (λ y. p (told y)) xs in
      let P : Bool → Type 0 = λ b. map told (cond b (x ∷ kept) kept) ≡ cond b (told x ∷ filter p (map told xs)) (filter p (map told xs)) in
      elim (p (told x)) as P [ true ↦ ap (λ ys. told x ∷ ys) (filter_told xs) | false ↦ filter_told xs ]

-- the rows of the look past a place, where one is given
abbrev rows_behind : Option (List ℤ) → List Row → List Row
rows_behind None rows = rows
rows_behind (Some place) rows = rows_past place rows

module _ (l : Look) (entries : List Entry) (groups : List Group) (indexed : IndexesReady entries groups) where
  abbrev index_rows : List Ready
  index_rows = rows_of l.queue.name l.ask.consumer groups

  rows_are : map stamped index_rows ≡ rows_in l entries
  rows_are = indexed l.queue.name l.ask.consumer

  past_are : (place : Option (List ℤ)) → map stamped (filter (is_past place) index_rows) ≡ rows_behind place (rows_in l entries)
  past_are None = ap (λ (rs : List Ready). map stamped rs) (sym (all_past index_rows)) ∙ rows_are
  past_are (Some place) =
      filter_told stamped (λ r. is_gt (place_cmp r.place place)) index_rows
      ∙ ap (λ (rs : List Row). filter (λ r. is_gt (place_cmp r.place place)) rs) rows_are
      ∙ sym (same_past place (rows_in l entries))

-- ---- a whole search

all_in : (l : Look) (f : Filter) → AreAllIn l.queue.name l.ask.consumer (passes l f)
all_in l f m e =
    let given = (and_parts (may_give l m) (lies_in f m) e).0 in
    available_stands l m (and_parts (is_available l m) (meets l m) given).0

module _ (l : Look) (f : Filter) (entries : List Entry) (groups : List Group) (rising : AreRising entries) (indexed : IndexesReady entries groups) where
  abbrev past : Option (List ℤ) → List Ready
  past place = filter (is_past place) (rows_of l.queue.name l.ask.consumer groups)

  pub finds_nearest : (place : Option (List ℤ)) → first_in l f entries (past place) ≡ nearest_past l f place (messages_of entries)
  finds_nearest None =
      ap (first_passing entries (passes l f)) (past_are l entries groups indexed None)
      ∙ first_is_least l.queue.name l.ask.consumer entries (passes l f) rising (all_in l f)
  finds_nearest (Some place) =
      ap (first_passing entries (passes l f)) (past_are l entries groups indexed (Some place))
      ∙ first_past_is_least l.queue.name l.ask.consumer entries (passes l f) place rising (all_in l f)

  pub looks_at_few : (place : Option (List ℤ)) → looks_in l f entries (past place) ≤ most_looks l f (messages_of entries)
  looks_at_few None =
      let few = looks_are_few l.queue.name l.ask.consumer entries (passes l f) rising in
      let same = ap (looks (choosing.passes entries (passes l f))) (past_are l entries groups indexed None) in
      omega arith
  looks_at_few (Some place) =
      let few = looks_past_are_few l.queue.name l.ask.consumer entries (passes l f) place rising in
      let same = ap (looks (choosing.passes entries (passes l f))) (past_are l entries groups indexed (Some place)) in
      omega arith

-- ---- how many rows were given

pub steps_of_hit : (now looked before all : ℕ) → now + looked ≡ before + all → looked ≡ 1 → now + 1 ≡ before + all
steps_of_hit now looked before all sum one = omega arith

pub steps_of_next : (now looked before all left after : ℕ) → now + looked ≡ before + all → looked ≡ 1 + left → after ≡ now + 1 → after + left ≡ before + all
steps_of_next now looked before all left after sum on stepped = omega arith

pub steps_of_all : (after before all most : ℕ) → after ≡ before + all → all ≤ most → after ≤ before + most
steps_of_all after before all most sum few = omega arith

pub twice : (after before most : ℕ) → after ≤ before + most → after ≤ before + 2 * most
twice after before most few = omega arith
