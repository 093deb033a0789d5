-- A look that asks for the same as the plainest one is answered alike.
use Rattle.std.proofs.Common.{◌≡◌, ℕ, List, filter, Option, Some, None, refl, ap, ◌∙◌, ◌&&◌, ◌||◌}
use Rattle.std.specs.Prelude.{◌+◌, ◌*◌, not, option_copied}
use Rattle.std.specs.Str.{bytes_eq}
use Rattle.rule_conditions.specs.declared.condition.Cond.{Cond}
use Rattle.queue_rows.specs.Groups.{group_of}
use Rattle.queue_rows.specs.Rows.{slot_of}
use Rattle.queue_rows.specs.Session.{is_held, has_removed, marks_slot}
use Rattle.std.specs.List.{list_any}
use Rattle.queue_rows.specs.Dequeueing.{Look, choice, chosen, is_available_slot, is_browse, is_ready_slot, meets, slot_for, slot_in}
use Rattle.queue_rows.specs.declared.rows.QueueRow.{QueueRow}
use Rattle.queue_rows.specs.declared.rows.TableRow.{TableRow}
use Rattle.queue_rows.specs.declared.rows.MsgRow.{MsgRow}
use Rattle.queue_rows.specs.declared.statement.Mode.{Mode}
use Rattle.choice_laws.specs.Choosing.{may_give}
use Rattle.choice_laws.specs.LookLaws.{passed_over}
use Rattle.message_choice.specs.Asking.{IsLookOf, look_of}
use Rattle.message_choice.specs.Offered.{candidates, most_looks}
use Rattle.message_choice.specs.Wanted.{IsSlotFor, filter_for, lies_in, most_steps}
use Rattle.message_choice.specs.declared.asking.Asking.{Asking}
use Rattle.message_choice.specs.declared.asking.Choice as own
use Rattle.message_choice.specs.declared.asking.Choice.TheVariants as choices
use Rattle.message_choice.proofs.Holding.{are_plain, held-same}

module _ (a : Asking) (ms : List MsgRow) (l : Look) (is : IsLookOf a.pick.now a.actor a.locks.now ms l) where
  abbrev pub plain : Look
  plain = look_of a

  -- the look with what is asked for in its place
  abbrev pub asking : ℕ → QueueRow → TableRow → Option (List ℕ) → Mode → Option (List ℕ) → Option Cond → Look
  asking actor queue table consumer mode corr condition = record {
    tables = l.tables;
    sessions = l.sessions;
    actor = actor;
    session = l.session;
    queue = queue;
    table = table;
    ask = record l.ask { consumer = consumer; mode = mode; corr = corr };
    condition = condition;
  }

  abbrev pub asked : Look
  asked = asking plain.actor plain.queue plain.table plain.ask.consumer plain.ask.mode plain.ask.corr plain.condition

  removed-alike : (m : MsgRow) (slot : ℕ) → has_removed asked.session m.id slot ≡ has_removed plain.session m.id slot
  removed-alike m slot = ap (list_any (λ mark. mark.removed && marks_slot m.id slot mark)) is.own

  held-alike : (m : MsgRow) (slot : ℕ) → is_held l.sessions a.actor l.session.at m.id slot (group_of plain.table m slot) ≡ is_held plain.sessions a.actor plain.session.at m.id slot (group_of plain.table m slot)
  held-alike m slot = held-same l.session.at plain.session.at l.sessions plain.sessions a.locks.now is.marks (are_plain a.locks.now) a.actor m.id slot (group_of plain.table m slot)

  slot-alike : (m : MsgRow) (slot : Option ℕ) → is_available_slot asked m slot ≡ is_available_slot plain m slot
  slot-alike m None = refl
  slot-alike m (Some slot) =
      ap (λ b. is_ready_slot (slot_of m slot) && not b && (is_browse plain.ask.mode || not (is_held l.sessions a.actor l.session.at m.id slot (group_of plain.table m slot)))) (removed-alike m slot)
      ∙ ap (λ b. is_ready_slot (slot_of m slot) && not (has_removed plain.session m.id slot) && (is_browse plain.ask.mode || not b)) (held-alike m slot)

  -- a message that the one may give the other may give
  pub may_give-alike : (m : MsgRow) → may_give l m ≡ may_give plain m
  may_give-alike m =
      (λ i. may_give (asking (is.actor i) (is.queue i) (is.table i) (is.consumer i) (is.mode i) (is.corr i) (is.condition i)) m)
      ∙ ap (λ b. (bytes_eq m.queue plain.queue.name && b) && meets plain m) (slot-alike m (slot_in plain m))

  slot_in-alike : (m : MsgRow) → slot_in l m ≡ slot_in plain m
  slot_in-alike m = λ i. slot_for (is.queue i) (is.consumer i) m

  pub chosen-alike : chosen l ≡ choice a.pick.now.navigation (option_copied a.pick.now.position) plain.table.grouped plain.ask.mode (candidates plain ms)
  chosen-alike = λ i. choice (is.navigation i) (is.position i) (is.table i).grouped (is.mode i) (filter (λ m. may_give-alike m i) (is.messages i))

  pub slot_for-alike : (c : own.Choice) → IsSlotFor plain c → IsSlotFor l c
  slot_for-alike (choices.Found message slot) h = slot_in-alike message.now ∙ h
  slot_for-alike choices.EndOfGroup h = tt
  slot_for-alike choices.Nothing h = tt

  pub looks-alike : most_steps l ≡ 2 * most_looks plain (filter_for a.pick.now.navigation (option_copied a.pick.now.position) plain.table.grouped) ms
  looks-alike = λ i. 2 * (passed_over ((is.queue i).name) (is.consumer i) (λ m. may_give-alike m i && lies_in (filter_for (is.navigation i) (is.position i) (is.table i).grouped) m) (is.messages i) + 1)
