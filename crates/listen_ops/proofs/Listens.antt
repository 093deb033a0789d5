-- What a listen comes to, by what its agents come to.
use Rattle.std.proofs.Common.{◌≡◌, ◌≤◌, ℕ, List, [], Bool, true, false, Option, Some, None, refl, sym, ap, ◌∙◌, ◌&&◌, length}
use Rattle.std.specs.Prelude.{nat_le, slice_get, if◌then◌else◌}
use Rattle.std.specs.Option.{option_or}
use Rattle.std.proofs.lemmas.Bool.{and_parts, leb-true}
use Rattle.aq_base.specs.declared.limits.TheConstants.{AGENT_LIMIT}
use Rattle.slot_marks.specs.Marks.{SessionMarks}
use Rattle.queue_rows.specs.Session.{Session}
use Rattle.queue_rows.specs.Meaning.{parks, refused, first_look, still_waits}
use Rattle.queue_rows.specs.Listening.{agents_fault, is_served, listen, listened, served_from}
use Rattle.queue_rows.specs.Within.{is_within}
use Rattle.queue_rows.specs.declared.tables.Tables.{Tables}
use Rattle.queue_rows.specs.declared.reply.Reply.{Reply}
use Rattle.queue_rows.specs.declared.reply.Reply.TheVariants as replies
use Rattle.queue_rows.specs.declared.statement.Listen.{Listen}
use Rattle.queue_rows.specs.declared.statement.Statement.TheVariants as statements
use Rattle.sessions.specs.Effects.{plain_effect}
use Rattle.queue_rows.specs.Session.{AreMarks}
use Rattle.sessions.specs.declared.state.SessionState.{SessionState}
use Rattle.sessions.specs.declared.state.Verdict.TheVariants as verdicts
use Rattle.listen_ops.specs.Listened.{IsListen, IsShown, ServesFirst}

and_l : (a b : Bool) → (a && b) ≡ true → a ≡ true
and_l a b h = (and_parts a b h).0

and_r : (a b : Bool) → (a && b) ≡ true → b ≡ true
and_r a b h = (and_parts a b h).1

-- a listen names no more agents than it may
pub few_agents : (ask : Listen) → is_within (statements.Listen ask) ≡ true → length ask.agents ≤ AGENT_LIMIT
unfolding is_within
few_agents ask h = let e : nat_le (length ask.agents) AGENT_LIMIT ≡ true = search (and_l, and_r) in leb-true (length ask.agents) AGENT_LIMIT e

module _ (t : Tables) (locks : List SessionMarks) (actor : ℕ) (state : SessionState) (ask : Listen) (moment : ℕ) where
  listen-by : (fault first : Option Reply) (sessions : List Session) (s : Session) → agents_fault t ask.agents ≡ fault → served_from 1 (is_served t sessions actor s) ask.agents ≡ first
      → listen t sessions actor s ask moment ≡ listened s ask.wait moment (option_or fault first)
  unfolding listen
  listen-by fault first sessions s e f = λ i. listened s ask.wait moment (option_or (e i) (f i))

  pub shown-to : (sessions : List Session) (s : Session) → AreMarks s.at sessions locks → slice_get sessions actor ≡ Some s → IsShown locks actor sessions s
  shown-to sessions s are there = record { marks = are; own = are.own actor s there refl }

  pub listens-fault : (reply : Reply) → agents_fault t ask.agents ≡ Some reply → IsListen t locks actor state ask moment (plain_effect (verdicts.Answer reply) [])
  listens-fault reply e = λ sessions s queue consumer is are there. listen-by (Some reply) (served_from 1 (is_served t sessions actor s) ask.agents) sessions s e refl

  pub listens-first : (reply : Reply) → agents_fault t ask.agents ≡ None → ServesFirst t locks actor ask.agents (Some reply) → IsListen t locks actor state ask moment (plain_effect (verdicts.Answer reply) [])
  listens-first reply e first = λ sessions s queue consumer is are there. listen-by None (Some reply) sessions s e (first sessions s (shown-to sessions s are there))

  waits-by : (b : Bool) (s : Session) → still_waits s ask.wait moment ≡ b → listened s ask.wait moment None ≡ (if b then parks (first_look s moment) else refused s replies.NoMessage)
  waits-by b s e = ap (λ (x : Bool). if x then parks (first_look s moment) else refused s replies.NoMessage) e

  pub listens-on : agents_fault t ask.agents ≡ None → ServesFirst t locks actor ask.agents None → ((s : Session) → s.parked ≡ state.parked → true ≡ still_waits s ask.wait moment)
      → IsListen t locks actor state ask moment (plain_effect verdicts.Park [])
  listens-on e first waits = λ sessions s queue consumer is are there. listen-by None None sessions s e (first sessions s (shown-to sessions s are there)) ∙ waits-by true s (sym (waits s is.parked))

  pub listens-no-more : agents_fault t ask.agents ≡ None → ServesFirst t locks actor ask.agents None → ((s : Session) → s.parked ≡ state.parked → false ≡ still_waits s ask.wait moment)
      → IsListen t locks actor state ask moment (plain_effect (verdicts.Answer replies.NoMessage) [])
  listens-no-more e first waits = λ sessions s queue consumer is are there. listen-by None None sessions s e (first sessions s (shown-to sessions s are there)) ∙ waits-by false s (sym (waits s is.parked))
