-- Which messages a navigation asks for, and what is found of them.
use Rattle.std.specs.Prelude.{◌≡◌, ℕ, ℤ, ◌+◌, ◌*◌, ◌==◌, ◌&&◌, pos, int_lt, Bool, true, List, Option, Some, None, filter, option_map, if◌then◌else◌}
use Rattle.place_keys.specs.Place.{stands_before}
use Rattle.queue_rows.specs.Session.{position_in}
use Rattle.queue_rows.specs.Tables.{lane_of}
use Rattle.queue_rows.specs.Dequeueing.{Look, least, slot_in}
use Rattle.queue_rows.specs.Dequeueing as def
use Rattle.queue_rows.specs.declared.rows.MsgRow.{MsgRow}
use Rattle.queue_rows.specs.declared.session.Position.{Position}
use Rattle.queue_rows.specs.declared.statement.Navigation.{Navigation}
use Rattle.queue_rows.specs.declared.statement.Navigation.TheVariants as navigations
use Rattle.choice_laws.specs.Choosing.{may_give}
use Rattle.choice_laws.specs.LookLaws.{passed_over}
use Rattle.message_choice.specs.declared.asking.Choice.{Choice}
use Rattle.message_choice.specs.declared.asking.Choice.TheVariants as choices
use Rattle.message_choice.specs.declared.asking.Filter.{Filter}
use Rattle.message_choice.specs.declared.asking.Filter.TheVariants as filters
use Rattle.message_choice.specs.declared.asking.Hit.{Hit}

-- ---- what is asked for

abbrev pub lies_in : Filter → MsgRow → Bool
lies_in filters.All m = true
lies_in (filters.InGroup group) m = m.group == group
lies_in (filters.PastGroup group) m = int_lt (pos group) (lane_of m.place)

-- the group of the position, or the lanes past it, where the navigation goes by groups
abbrev pub filter_for : Navigation → Option Position → (grouped : Bool) → Filter
filter_for navigations.First p grouped = filters.All
filter_for navigations.Next None grouped = filters.All
filter_for navigations.Next (Some p) grouped = if grouped then filters.InGroup p.group else filters.All
filter_for navigations.NextTransaction None grouped = filters.All
filter_for navigations.NextTransaction (Some p) grouped = filters.PastGroup p.group

-- the dequeue may give the message, and the filter lets it through
abbrev pub passes : Look → Filter → MsgRow → Bool
passes l f m = may_give l m && lies_in f m

-- the dequeue may give the message, and its navigation asks for it
abbrev pub is_wanted : Look → MsgRow → Bool
is_wanted l m = passes l (filter_for l.ask.navigation (position_in l.session l.ask.queue l.ask.consumer) l.table.grouped) m

-- a dequeue looks at no more rows: two more than twice as many as there are messages of the queue with a ready slot for the consumer
-- that it may not give or does not ask for
abbrev pub most_steps : Look → ℕ
most_steps l = 2 * (passed_over l.queue.name l.ask.consumer (is_wanted l) l.tables.messages + 1)

-- ---- what is found

-- those past a place, where one is given
abbrev pub all_past : Option (List ℤ) → List MsgRow → List MsgRow
all_past None ms = ms
all_past (Some place) ms = filter (λ m. stands_before place m.place) ms

-- the message stands past a place, where one is given
abbrev pub is_behind : Option (List ℤ) → MsgRow → Bool
is_behind None m = true
is_behind (Some place) m = stands_before place m.place

-- it passes, and stands past the place
abbrev pub passes_behind : Look → Filter → Option (List ℤ) → MsgRow → Bool
passes_behind l f place m = passes l f m && is_behind place m

-- of those that pass the nearest past a place, where one is given
abbrev pub nearest_past : Look → Filter → Option (List ℤ) → List MsgRow → Option MsgRow
nearest_past l f place ms = least (all_past place (filter (passes l f) ms))

abbrev pub message_of : Option Hit → Option MsgRow
message_of hit = option_map (λ h. h.message.now) hit

-- the slot of a message is the one that a look may give of it
abbrev pub HasSlotFor : Look → MsgRow → ℕ → Type 0
HasSlotFor l m slot = slot_in l m ≡ Some slot

-- a choice without the slot
abbrev pub chosen_by : Choice → def.Choice
chosen_by (choices.Found message slot) = def.found message.now
chosen_by choices.EndOfGroup = def.end_of_group
chosen_by choices.Nothing = def.nothing

-- where a message is found its slot is the one that the look may give of it
abbrev pub IsSlotFor : Look → Choice → Type 0
IsSlotFor l (choices.Found message slot) = HasSlotFor l message.now slot
IsSlotFor l choices.EndOfGroup = Unit {0}
IsSlotFor l choices.Nothing = Unit {0}
