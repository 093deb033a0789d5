-- The examples are serial histories, which are legal.
use Rattle.std.proofs.Common.{refl}
use Rattle.queue_rows.specs.Recipients.{recipients}
use Rattle.queue_rows.specs.Enqueueing.{enqueue}
use Rattle.queue_rows.specs.Dequeueing.{dequeue}
use Rattle.queue_rows.specs.Transactions.{commit, rollback}
use Rattle.queue_rows.specs.Conditions.{optional_condition}
use Rattle.queue_rows.specs.Tables.{after}
use Rattle.queue_rows.specs.Due.{due}
use Rattle.queue_rows.specs.Propagating.{arriving, confirming, cause_of, taken_in, pick}
use Rattle.queue_rows.specs.Valid.{is_valid}
use Rattle.queue_rows.specs.Within.{are_within, is_within}
use Rattle.queue_rows.specs.Session.{standing_after}
use Rattle.queue_rows.specs.declared.history.History.{History}
use Rattle.history_laws.specs.Fates.{fate}
use Rattle.history_laws.specs.Made.{after_commits}
use Rattle.history_laws.specs.WorldLaws.{MayBegin}
use Rattle.history_laws.specs.Examples.{example_taken, example_given_up, example_put}
use Rattle.queue_rows.specs.World.{opened, read_clock, stepped}
use Rattle.queue_rows.specs.Statements.{meaning}
use Rattle.queue_rows.specs.Sending.{next_sending, sent}
use Rattle.queue_rows.specs.Turns.{is_due, caught_up, flushed, propagated, session_turn, telling_turn, any_live, timer_turn, propagator_turn, drained, is_still, closing_turn}
use Rattle.queue_rows.specs.Serial.{round, rounds, IsSerial}
use Rattle.run_turns.proofs.Serially.{serial_is_legal}
use Rattle.run_examples.specs.Examples.{IsLegalSo, example_expired, example_waited, example_sent, ExampleIsTaken, ExampleIsGivenUp, ExampleIsPut, ExampleIsExpired, ExampleIsWaited, ExampleIsSent}

legal_if_serial : (h : History) → MayBegin h.home h.away h.scripts → IsSerial h.home h.away h.scripts h → IsLegalSo h
legal_if_serial h begins s = let legal = serial_is_legal h.home h.away h.scripts h begins s in (_, legal.1)

-- ---- calls

taken_begins : MayBegin example_taken.home example_taken.away example_taken.scripts
unfolding is_valid are_within is_within
taken_begins = record { home_valid = refl; away_valid = refl; home_fields = refl; away_fields = refl; may_ask = record { within = refl; ordered = refl } }

taken_serial : IsSerial example_taken.home example_taken.away example_taken.scripts example_taken
unfolding rounds round opened read_clock stepped is_due caught_up flushed session_turn telling_turn any_live timer_turn propagator_turn propagated next_sending sent drained is_still closing_turn meaning dequeue rollback after optional_condition due pick standing_after arriving confirming cause_of taken_in
taken_serial = record { begins = record { home_is = refl; away_is = refl; opening_is = refl; scripts_are = refl }; turns = record { count = 2; ends = refl; steps = 0; drains = refl; entries_are = refl } }

pub example_is_taken : ExampleIsTaken
unfolding fate after_commits after
example_is_taken = record { legal = legal_if_serial example_taken taken_begins taken_serial; slot = refl; gone = refl; made_is = refl; before = refl; told = refl }

given_up_begins : MayBegin example_given_up.home example_given_up.away example_given_up.scripts
unfolding is_valid are_within is_within
given_up_begins = record { home_valid = refl; away_valid = refl; home_fields = refl; away_fields = refl; may_ask = record { within = refl; ordered = refl } }

given_up_serial : IsSerial example_given_up.home example_given_up.away example_given_up.scripts example_given_up
unfolding rounds round opened read_clock stepped is_due caught_up flushed session_turn telling_turn any_live timer_turn propagator_turn propagated next_sending sent drained is_still closing_turn meaning dequeue rollback after optional_condition due pick standing_after arriving confirming cause_of taken_in
given_up_serial = record { begins = record { home_is = refl; away_is = refl; opening_is = refl; scripts_are = refl }; turns = record { count = 3; ends = refl; steps = 0; drains = refl; entries_are = refl } }

pub example_is_given_up : ExampleIsGivenUp
unfolding fate
example_is_given_up = record { legal = legal_if_serial example_given_up given_up_begins given_up_serial; slot = refl; zero = refl }

put_begins : MayBegin example_put.home example_put.away example_put.scripts
unfolding is_valid are_within is_within
put_begins = record { home_valid = refl; away_valid = refl; home_fields = refl; away_fields = refl; may_ask = record { within = refl; ordered = refl } }

put_serial : IsSerial example_put.home example_put.away example_put.scripts example_put
unfolding rounds round opened read_clock stepped is_due caught_up flushed session_turn telling_turn any_live timer_turn propagator_turn propagated next_sending sent drained is_still closing_turn meaning enqueue commit recipients after optional_condition due pick standing_after arriving confirming cause_of taken_in
put_serial = record { begins = record { home_is = refl; away_is = refl; opening_is = refl; scripts_are = refl }; turns = record { count = 3; ends = refl; steps = 0; drains = refl; entries_are = refl } }

pub example_is_put : ExampleIsPut
unfolding fate
example_is_put = record { legal = legal_if_serial example_put put_begins put_serial; old = refl; new = refl }

-- ---- due work

expired_begins : MayBegin example_expired.home example_expired.away example_expired.scripts
unfolding is_valid are_within is_within
expired_begins = record { home_valid = refl; away_valid = refl; home_fields = refl; away_fields = refl; may_ask = record { within = refl; ordered = refl } }

expired_serial : IsSerial example_expired.home example_expired.away example_expired.scripts example_expired
unfolding rounds round opened read_clock stepped is_due caught_up flushed session_turn telling_turn any_live timer_turn propagator_turn propagated next_sending sent drained is_still closing_turn meaning dequeue rollback after optional_condition due pick standing_after arriving confirming cause_of taken_in
expired_serial = record { begins = record { home_is = refl; away_is = refl; opening_is = refl; scripts_are = refl }; turns = record { count = 2; ends = refl; steps = 0; drains = refl; entries_are = refl } }

pub example_is_expired : ExampleIsExpired
unfolding fate
example_is_expired = record { legal = legal_if_serial example_expired expired_begins expired_serial; slot = refl; zero = refl }

-- ---- waits

waited_begins : MayBegin example_waited.home example_waited.away example_waited.scripts
unfolding is_valid are_within is_within
waited_begins = record { home_valid = refl; away_valid = refl; home_fields = refl; away_fields = refl; may_ask = record { within = refl; ordered = refl } }

waited_serial : IsSerial example_waited.home example_waited.away example_waited.scripts example_waited
unfolding rounds round opened read_clock stepped is_due caught_up flushed session_turn telling_turn any_live timer_turn propagator_turn propagated next_sending sent drained is_still closing_turn meaning dequeue rollback after optional_condition due pick standing_after arriving confirming cause_of taken_in
waited_serial = record { begins = record { home_is = refl; away_is = refl; opening_is = refl; scripts_are = refl }; turns = record { count = 3; ends = refl; steps = 0; drains = refl; entries_are = refl } }

pub example_is_waited : ExampleIsWaited
example_is_waited = legal_if_serial example_waited waited_begins waited_serial

-- ---- what is sent

sending_begins : MayBegin example_sent.home example_sent.away example_sent.scripts
unfolding is_valid are_within is_within
sending_begins = record { home_valid = refl; away_valid = refl; home_fields = refl; away_fields = refl; may_ask = record { within = refl; ordered = refl } }

sending_serial : IsSerial example_sent.home example_sent.away example_sent.scripts example_sent
unfolding rounds round opened read_clock stepped is_due caught_up flushed session_turn telling_turn any_live timer_turn propagator_turn propagated next_sending sent drained is_still closing_turn meaning dequeue rollback after optional_condition due pick standing_after arriving confirming cause_of taken_in
sending_serial = record { begins = record { home_is = refl; away_is = refl; opening_is = refl; scripts_are = refl }; turns = record { count = 0; ends = refl; steps = 3; drains = refl; entries_are = refl } }

pub example_is_sent : ExampleIsSent
unfolding fate after_commits after
example_is_sent = record {
  legal = legal_if_serial example_sent sending_begins sending_serial;
  slot = refl;
  copy_is = refl;
  once = refl;
  unseen = refl;
  seen = refl;
  stands = refl;
}
