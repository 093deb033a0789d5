-- Why the recipients of a message are refused.
use Rattle.std.specs.Prelude.{◌≡◌, ◌<◌, List, [], length}
use Rattle.queue_rows.specs.declared.session.Agent.{Agent}
use Rattle.recipients.specs.declared.fault.ChosenFault.{ChosenFault}
use Rattle.recipients.specs.declared.fault.ChosenFault.TheVariants as faults

-- there are none, or more than a message may have; want of memory says nothing of them
abbrev pub IsRefused : ChosenFault → List Agent → Type 0
IsRefused faults.NoRecipients agents = agents ≡ []
IsRefused faults.TooMany agents = 64 < length agents
IsRefused faults.Memory agents = Unit {0}
