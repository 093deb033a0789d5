-- What holds of a world each of whose commits can be spelled.
use Rattle.std.specs.Prelude.{◌≡◌, ℕ, List, Bool, true, Some, slice_get}
use Rattle.std.specs.List.{AllByRecursion, list_all}
use Rattle.std.specs.Str.{is_utf8}
use Rattle.aq_base.specs.declared.DbId.{DbId}
use Rattle.queue_rows.specs.Session.{Session}
use Rattle.queue_rows.specs.Within.{if_some}
use Rattle.queue_rows.specs.declared.tables.Tables.{Tables}
use Rattle.queue_rows.specs.declared.session.Pending.{Pending}
use Rattle.queue_rows.specs.declared.session.Pending.TheVariants.{Add, Remove}
use Rattle.queue_rows.specs.declared.change.Change.{Change}
use Rattle.queue_rows.specs.declared.history.Entry.{Entry}
use Rattle.queue_rows.specs.declared.history.SessionScript.{SessionScript}
use Rattle.queue_rows.specs.declared.statement.Admin.{Admin}
use Rattle.queue_rows.specs.declared.statement.Admin.TheVariants as asks
use Rattle.queue_rows.specs.declared.statement.Statement.{Statement}
use Rattle.queue_rows.specs.declared.statement.Statement.TheVariants as statements
use Rattle.queue_rows.specs.World.{World, database_at}
use Rattle.queue_rows.specs.Sending.{Sending, offers, arrives, confirms}
use Rattle.redo_records.specs.Spellable.{HasFullData, HasReadRule, IsSpellable}

-- ---- tables and changes

abbrev pub AreSpellable : List Change → Type 0
AreSpellable cs = AllByRecursion IsSpellable cs

-- each rule is such as is read again, and no cell and no property of a message is an empty text
pub record HasSpellableRows (t : Tables) : Type 0 where
  pub rules : AllByRecursion HasReadRule t.subs
  pub messages : AllByRecursion HasFullData t.messages

-- ---- scripts

-- the rule that it gives to a subscriber is UTF-8, as each text is
abbrev pub asks_text_rule : Admin → Bool
asks_text_rule (asks.AddSubscriber queue name address rule) = if_some is_utf8 rule
asks_text_rule _ = true

abbrev pub has_text_rule : Statement → Bool
has_text_rule (statements.Admin ask) = asks_text_rule ask
has_text_rule _ = true

-- so are those that the scripts give
abbrev pub have_text_rules : List SessionScript → Bool
have_text_rules scripts = list_all (λ script. list_all has_text_rule script.statements) scripts

-- ---- what is held and committed

-- the message that a session is to add has full data
abbrev pub IsFullAddition : Pending → Type 0
IsFullAddition (Add m) = HasFullData m
IsFullAddition (Remove id slot) = Unit {0}

abbrev pub AreFullAdditions : List Pending → Type 0
AreFullAdditions pending = AllByRecursion IsFullAddition pending

-- what an entry commits, at home and at away
pub record IsSpellableEntry (e : Entry) : Type 0 where
  pub home : AreSpellable e.home
  pub away : AreSpellable e.away

-- what a step of propagation commits: an arrival at its origin and at its destination, a confirmation at its origin
abbrev pub IsSpellableSending : Sending → Type 0
IsSpellableSending (offers at to) = Unit {0}
IsSpellableSending (arrives at a) = AreSpellable a.origin × AreSpellable a.there
IsSpellableSending (confirms at number cs) = AreSpellable cs

-- ---- worlds

-- The rows of both databases can be spelled, so can what the sessions are to add, the rules that its scripts give are UTF-8, and all that
-- was committed so far can be spelled.
pub record IsSpellableWorld (w : World) : Type 0 where
  pub rows : (db : DbId) → HasSpellableRows (database_at db w).tables
  pub pending : (i : ℕ) (s : Session) → slice_get w.sessions i ≡ Some s → AreFullAdditions s.pending
  pub rules : have_text_rules w.scripts ≡ true
  pub commits : AllByRecursion IsSpellableEntry w.entries

-- what a history commits that begins with these tables and scripts can be spelled
pub record MayBeSpelled (home away : Tables) (scripts : List SessionScript) : Type 0 where
  pub home_rows : HasSpellableRows home
  pub away_rows : HasSpellableRows away
  pub rules : have_text_rules scripts ≡ true
