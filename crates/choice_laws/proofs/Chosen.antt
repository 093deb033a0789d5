-- What a dequeue chooses it chooses in the rows of its queue and consumer.
use Rattle.std.proofs.Common.{◌≡◌, ℕ, ℤ, Bool, true, false, cond, List, [], ◌∷◌, filter, Option, Some, None, refl, sym, ap, ◌∙◌, ◌&&◌}
use Rattle.std.proofs.lemmas.Bool.{and_parts}
use Rattle.std.specs.Prelude.{int_lt, pos, if◌then◌else◌}
use Rattle.std.specs.Ordering.{is_lt, ordering_then}
use Rattle.std.specs.declared.cmp.Ordering.TheVariants.{Less, Equal, Greater}
use Rattle.place_keys.specs.Place.{place_cmp, stands_before}
use Rattle.queue_rows.specs.Session.{position_in}
use Rattle.queue_rows.specs.Tables.{lane_of}
use Rattle.queue_rows.specs.Dequeueing.{Look, choice, chosen, end_of_group, found_or, is_available, is_browse, least, meets, nothing, of_group, past, past_group}
use Rattle.queue_rows.specs.declared.rows.MsgRow.{MsgRow}
use Rattle.queue_rows.specs.declared.session.Position.{Position}
use Rattle.queue_rows.specs.declared.statement.Mode.{Mode}
use Rattle.queue_rows.specs.declared.statement.Navigation.{Navigation}
use Rattle.queue_rows.specs.declared.statement.Navigation.TheVariants as navigations
use Rattle.choice_laws.specs.Entries.{Entry, Row, AreRising, messages_of, rows_for, rows_past}
use Rattle.choice_laws.specs.Choosing.{choice_in_rows, chosen_in_rows, first_choice, first_passing, is_in_group, is_past_group, lane_end, may_give}
use Rattle.choice_laws.specs.ChoiceLaws.{AreAllIn}
use Rattle.choice_laws.proofs.Available.{available_stands}
use Rattle.choice_laws.proofs.Searching.{filter_both, filter_implied, first_is_least, first_past_is_least}

-- a later lane stands past the end of the position's lane
past_lane : (p : Position) (place : List ℤ) → int_lt (pos p.group) (lane_of place) ≡ true → stands_before (lane_end p) place ≡ true
past_lane p [] h = refl
past_lane p (x ∷ xs) h = ap (λ b. is_lt (ordering_then (cond b Less (cond (int_lt x (pos p.group)) Greater Equal)) (place_cmp [] xs))) h

module _ (queue : List ℕ) (consumer : Option (List ℕ)) (entries : List Entry) (rising : AreRising entries) (test : MsgRow → Bool) (all_in : AreAllIn queue consumer test) where
  abbrev rows : List Row
  rows = rows_for queue consumer entries

  abbrev passing : List MsgRow
  passing = filter test (messages_of entries)

  also_in : (more : MsgRow → Bool) → AreAllIn queue consumer (λ m. test m && more m)
  also_in more m h = all_in m (and_parts (test m) (more m) h).0

  from_beginning : least passing ≡ first_passing entries test rows
  from_beginning = sym (first_is_least queue consumer entries test rising all_in)

  from_position : (p : Position) → least (past p passing) ≡ first_passing entries test (rows_past p.place rows)
  from_position p = sym (first_past_is_least queue consumer entries test p.place rising all_in)

  in_group : (p : Position) → least (past p (of_group p passing)) ≡ first_passing entries (λ m. test m && is_in_group p m) (rows_past p.place rows)
  in_group p =
      ap (λ ms. least (past p ms)) (filter_both test (is_in_group p) (messages_of entries))
      ∙ sym (first_past_is_least queue consumer entries (λ m. test m && is_in_group p m) p.place rising (also_in (is_in_group p)))

  behind_group : (p : Position) → least (past_group p passing) ≡ first_passing entries (λ m. test m && is_past_group p m) (rows_past (lane_end p) rows)
  behind_group p =
      let both : MsgRow → Bool = λ m. test m && is_past_group p m in
      ap least (filter_both test (is_past_group p) (messages_of entries))
      ∙ sym (ap least (filter_implied both (λ m. stands_before (lane_end p) m.place) (λ m h. past_lane p m.place (and_parts (test m) (is_past_group p m) h).1) (messages_of entries)))
      ∙ sym (first_past_is_least queue consumer entries both (lane_end p) rising (also_in (is_past_group p)))

  same_choice : (navigation : Navigation) (at : Option Position) (grouped : Bool) (mode : Mode) → choice navigation at grouped mode passing ≡ choice_in_rows navigation at grouped mode entries test rows
  same_choice navigations.First at grouped mode = ap (found_or nothing) from_beginning
  same_choice navigations.Next None grouped mode = ap (found_or nothing) from_beginning
  same_choice navigations.Next (Some p) true mode = ap (found_or end_of_group) (in_group p)
  same_choice navigations.Next (Some p) false mode =
      ap (λ o. found_or (if is_browse mode then nothing else found_or nothing o) (least (past p passing))) from_beginning
      ∙ ap (found_or (if is_browse mode then nothing else first_choice entries test rows)) (from_position p)
  same_choice navigations.NextTransaction None grouped mode = ap (found_or nothing) from_beginning
  same_choice navigations.NextTransaction (Some p) grouped mode = ap (found_or nothing) (behind_group p)

may_give_stands : (l : Look) → AreAllIn l.queue.name l.ask.consumer (may_give l)
may_give_stands l m h = available_stands l m (and_parts (is_available l m) (meets l m) h).0

pub chosen_in_rows_lem : (l : Look) (entries : List Entry) → AreRising entries → l.tables.messages ≡ messages_of entries → chosen l ≡ chosen_in_rows l entries
chosen_in_rows_lem l entries rising same =
    let at = position_in l.session l.ask.queue l.ask.consumer in
    ap (λ ms. choice l.ask.navigation at l.table.grouped l.ask.mode (filter (may_give l) ms)) same
    ∙ same_choice l.queue.name l.ask.consumer entries rising (may_give l) (may_give_stands l) l.ask.navigation at l.table.grouped l.ask.mode
