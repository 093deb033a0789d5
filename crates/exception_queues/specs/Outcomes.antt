-- What changes make of the messages that they name.
use Rattle.std.specs.Prelude.{◌≡◌, ◌++◌, ◌∷◌, ℕ, ◌==◌, List, [], Option, Some, None, Result, OnOk, find, is_some, nat_eq, option_map, if◌then◌else◌}
use Rattle.std.specs.List.{list_any, flat_map}
use Rattle.std.specs.HashMap.{get}
use Rattle.std.specs.Option.{option_or, unwrap_or}
use Rattle.queue_rows.specs.Settling.{names_of, message_after, last_moment, moment_by, settling_of}
use Rattle.queue_rows.specs.declared.tables.Tables.{Tables}
use Rattle.queue_rows.specs.declared.change.Change.{Change}
use Rattle.exception_queues.specs.Left.{left_some}
use Rattle.exception_queues.specs.declared.outcomes.Outcome.{Outcome}
use Rattle.exception_queues.specs.declared.outcomes.Outcomes.{Outcomes}

-- the outcome of a message that is kept
abbrev pub outcome_of : Outcomes → ℕ → Option Outcome
outcome_of all id = option_or (find (λ o. o.id == id) all.few) (get nat_eq all.many id)

-- the message as the changes leave it, and the moment of the last one that names it
abbrev pub outcome_after : Tables → List Change → ℕ → Outcome
outcome_after t cs id = record { id = id; message = message_after t cs id; moment = last_moment cs id }

-- the outcome after one more change
abbrev pub next_outcome : Change → Outcome → Outcome
next_outcome c o = record { id = o.id; message = left_some o.message c; moment = moment_by o.id o.moment c }

-- the outcome of a message that the changes name; others have none
abbrev pub outcome_if_named : Tables → List Change → ℕ → Option Outcome
outcome_if_named t cs id = if list_any (λ n. n == id) (names_of cs) then Some (outcome_after t cs id) else None

-- these are the names of the changes, with the outcome of each that they name, and no others
pub record AreOutcomes (t : Tables) (cs : List Change) (all : Outcomes) : Type 0 where
  pub names : all.names.items ≡ names_of cs
  pub each : (id : ℕ) → outcome_of all id ≡ outcome_if_named t cs id

-- one more is kept, and the others stay
abbrev pub Keeps : Outcome → Outcomes → Outcomes → Type 0
Keeps outcome old new = (q : ℕ) → outcome_of new q ≡ (if outcome.id == q then Some outcome else outcome_of old q)

-- by number: that of this one goes on by the change, where there is one, and the others stay
abbrev pub Advances : ℕ → Change → (ℕ → Option Outcome) → (ℕ → Option Outcome) → Type 0
Advances id c old new = (q : ℕ) → new q ≡ (if id == q then option_map (next_outcome c) (old id) else old q)

-- those of any changes become those of these and one more
abbrev pub GoesOn : {A E : Type 0} → Result A E → Tables → Change → Outcomes → Outcomes → Type 0
GoesOn made t c old new = (cs : List Change) → AreOutcomes t cs old → OnOk made (AreOutcomes t (cs ++ c ∷ []) new)

-- the names with one that is kept from now on
abbrev pub named_with : ℕ → Outcomes → List ℕ
named_with id all = if is_some (outcome_of all id) then all.names.items else all.names.items ++ id ∷ []

-- one change more is followed for the message of that number, and the others stay
abbrev pub IsFollowed : Tables → ℕ → Change → Outcomes → Outcomes → Type 0
IsFollowed t id c old new = (q : ℕ) → outcome_of new q
    ≡ (if id == q then Some (next_outcome c (unwrap_or (outcome_of old id) (outcome_after t [] id))) else outcome_of old q)

-- what is settled by the outcome of a message
abbrev pub settling_by : Tables → Option Outcome → List Change
settling_by t None = []
settling_by t (Some outcome) = settling_of t outcome.moment outcome.message

-- what is settled by all outcomes, in the order in which their messages are named
abbrev pub settled_by : Tables → Outcomes → List Change
settled_by t all = flat_map (λ id. settling_by t (outcome_of all id)) all.names.items
