-- What a call commits is spellable, and so are the additions that its session then holds.
use Rattle.std.proofs.Common.{◌≡◌, ℕ, List, [], ◌∷◌, Bool, true, false, refl, sym, subst, Option, Some, None, Ok, Err}
use Rattle.std.specs.Prelude.{slice_get}
use Rattle.std.specs.List.{list_all}
use Rattle.std.proofs.lemmas.Option.{none-some}
use Rattle.queue_rows.specs.Session.{Session}
use Rattle.queue_rows.specs.Meaning.{answers}
use Rattle.queue_rows.specs.Administration.{is_hindered, administered, administer}
use Rattle.queue_rows.specs.Catalog.{Judged, judged}
use Rattle.queue_rows.specs.Enqueueing.{enqueue}
use Rattle.queue_rows.specs.Listening.{listen}
use Rattle.queue_rows.specs.Transactions.{commit, rollback}
use Rattle.queue_rows.specs.Statements.{statement_of, slot_sent, meaning, next_statement}
use Rattle.queue_rows.specs.Within.{is_within}
use Rattle.queue_rows.specs.declared.tables.Tables.{Tables}
use Rattle.queue_rows.specs.declared.session.Pending.TheVariants.{Remove}
use Rattle.queue_rows.specs.declared.change.Change.{Change}
use Rattle.queue_rows.specs.declared.history.SessionScript.{SessionScript}
use Rattle.queue_rows.specs.declared.history.SlotRef.{SlotRef}
use Rattle.queue_rows.specs.declared.reply.Reply.{Reply}
use Rattle.queue_rows.specs.declared.reply.Reply.TheVariants as replies
use Rattle.queue_rows.specs.declared.statement.Admin.{Admin}
use Rattle.queue_rows.specs.declared.statement.Dequeue.{Dequeue}
use Rattle.queue_rows.specs.declared.statement.Mode.{Mode}
use Rattle.queue_rows.specs.declared.statement.Mode.TheVariants as modes
use Rattle.queue_rows.specs.declared.statement.Statement.{Statement}
use Rattle.queue_rows.specs.declared.statement.Statement.TheVariants as statements
use Rattle.queue_rows.specs.declared.statement.Visibility.{Visibility}
use Rattle.queue_rows.specs.declared.statement.Visibility.TheVariants as visibilities
use Rattle.statement_laws.specs.DequeueLaws.{TakesNothing, TakesLater, TakesAtOnce, TakesIn, Takes}
use Rattle.statement_laws.proofs.Among.{Says, says_so}
use Rattle.statement_laws.proofs.Standing.{IsCommit, is_commit, IsRollback, is_rollback}
use Rattle.statement_laws.proofs.Stepping.{HoldsSame, listen_same}
use Rattle.statement_laws.proofs.Taking.{dequeue_removes_open}
use Rattle.history_laws.proofs.Worlds.{all_at, asked}
use Rattle.history_laws.proofs.Making.{own_db}
use Rattle.queue_rows.specs.World.{World, database_at}
use Rattle.run_laws.specs.ValidRun.{IsValidWorld}
use Rattle.run_spellings.specs.SpellableRun.{AreFullAdditions, AreSpellable, asks_text_rule, has_text_rule, have_text_rules, IsFullAddition, IsSpellableWorld}
use Rattle.run_spellings.proofs.Adding.{SpellsAnswer, given_props_full, enqueue_spells}
use Rattle.run_spellings.proofs.Changing.{settled_spells, commit_spells, rollback_spells}
use Rattle.run_spellings.proofs.Each.{each_last}
use Rattle.run_spellings.proofs.Judging.{SpellsJudged, judged_spells}

module _ (t : Tables) (s : Session) (moment : ℕ) (held : AreFullAdditions s.pending) where
  -- ---- administrative statements

  administered_spells : (hindered : Bool) (j : Judged) → SpellsJudged j → Says SpellsAnswer (administered t s hindered j)
  administered_spells hindered (Err reply) h = (tt, held)
  administered_spells true (Ok cs) h = (tt, held)
  administered_spells false (Ok cs) h = (settled_spells t cs h, held)

  administer_spells : (sessions : List Session) (sent : Option SlotRef) (ask : Admin) → asks_text_rule ask ≡ true → Says SpellsAnswer (administer t sessions sent s ask moment)
  unfolding administer
  administer_spells sessions sent ask text = administered_spells (is_hindered t s.at sessions sent ask) (judged t ask moment) (judged_spells t moment ask text)

  -- ---- dequeues

  same_held : (after : Session) → after.pending ≡ s.pending → AreFullAdditions after.pending
  same_held after e = subst AreFullAdditions (sym e) held

  none_spells : (cs : List Change) → cs ≡ [] → AreSpellable cs
  none_spells cs e = let none : AreSpellable [] = tt in subst AreSpellable (sym e) none

  nothing_spells : (reply : Reply) (cs : List Change) (after : Session) → TakesNothing s cs after → SpellsAnswer reply cs after
  nothing_spells reply cs after h = (none_spells cs h.none, same_held after h.pending)

  later_spells : (reply : Reply) (cs : List Change) (after : Session) → TakesLater t s cs after → SpellsAnswer reply cs after
  later_spells reply cs after h = (none_spells cs h.none, subst AreFullAdditions (sym h.pending) (each_last IsFullAddition s.pending (Remove h.id h.slot) held tt))

  once_spells : (reply : Reply) (cs : List Change) (after : Session) → TakesAtOnce t s moment cs after → SpellsAnswer reply cs after
  once_spells reply cs after h = (subst AreSpellable (sym h.commits) (commit_spells t moment (Remove h.id h.slot ∷ []) (tt, tt)), same_held after h.pending)

  in_spells : (mode : Mode) (visibility : Visibility) (reply : Reply) (cs : List Change) (after : Session) → TakesIn mode visibility t s moment cs after → SpellsAnswer reply cs after
  in_spells modes.Remove visibilities.OnCommit reply cs after h = later_spells reply cs after h
  in_spells modes.Remove visibilities.Immediate reply cs after h = once_spells reply cs after h
  in_spells modes.RemoveNodata visibilities.OnCommit reply cs after h = later_spells reply cs after h
  in_spells modes.RemoveNodata visibilities.Immediate reply cs after h = once_spells reply cs after h
  in_spells modes.Browse visibility reply cs after h = nothing_spells reply cs after h
  in_spells modes.Locked visibility reply cs after h = nothing_spells reply cs after h

  takes_spell : (reply : Reply) (ask : Dequeue) (cs : List Change) (after : Session) → Takes reply ask t s moment cs after → SpellsAnswer reply cs after
  takes_spell (replies.Message message) ask cs after h = in_spells ask.mode ask.visibility (replies.Message message) cs after h
  takes_spell reply ask cs after h = nothing_spells reply cs after h

  -- ---- the ends of transactions

  ends_held : (after : Session) → after.pending ≡ [] → AreFullAdditions after.pending
  ends_held after e = let none : AreFullAdditions [] = tt in subst AreFullAdditions (sym e) none

-- ---- what a script asks

asked_by : (scripts : List SessionScript) (i n : ℕ) (statement : Statement) (o : Option SessionScript) → slice_get scripts i ≡ o → have_text_rules scripts ≡ true → statement_of o n ≡ Some statement → has_text_rule statement ≡ true
asked_by scripts i n statement None f h e = absurd (none-some statement e)
asked_by scripts i n statement (Some script) f h e =
    all_at has_text_rule script.statements n statement (all_at (λ x. list_all has_text_rule x.statements) scripts i script h f) e

-- ---- each statement

module _ (w : World) (i : ℕ) (s : Session) (v : IsValidWorld w) (k : IsSpellableWorld w) (there : slice_get w.sessions i ≡ Some s) where
  abbrev here : Tables
  here = (database_at s.at w).tables

  held : AreFullAdditions s.pending
  held = k.pending i s there

  answer_spells : (statement : Statement) (reply : Reply) (cs : List Change) (after : Session) → is_within statement ≡ true → has_text_rule statement ≡ true → meaning w i s statement ≡ answers reply cs after → SpellsAnswer reply cs after
  unfolding meaning
  answer_spells (statements.Admin ask) reply cs after within text e =
      says_so SpellsAnswer (administer here w.sessions (slot_sent w) s ask w.moment) reply cs after (administer_spells here s w.moment held w.sessions (slot_sent w) ask text) e
  answer_spells (statements.Enqueue ask) reply cs after within text e =
      let next = (database_at s.at w).next in
      says_so SpellsAnswer (enqueue here s ask next w.moment) reply cs after (enqueue_spells here s ask next w.moment held (given_props_full ask within)) e
  answer_spells (statements.Dequeue ask) reply cs after within text e =
      let r = v.databases s.at in
      let agree = (r.standing.each i s there (own_db s.at)).agree in
      takes_spell here s w.moment held reply ask cs after (dequeue_removes_open here w.sessions i s ask w.moment reply cs after r.valid r.latest v.last agree e).0
  answer_spells (statements.Listen ask) reply cs after within text e =
      let h = says_so (HoldsSame s) (listen here w.sessions i s ask w.moment) reply cs after (listen_same here w.sessions i s ask w.moment) e in
      (none_spells here s w.moment held cs h.0, same_held here s w.moment held after h.1)
  answer_spells statements.Commit reply cs after within text e =
      let h = says_so (IsCommit here s w.moment) (commit here s w.moment) reply cs after (is_commit here s w.moment) e in
      (subst AreSpellable (sym h.0) (commit_spells here w.moment s.pending held), ends_held here s w.moment held after h.1)
  answer_spells statements.Rollback reply cs after within text e =
      let h = says_so (IsRollback here s w.moment) (rollback here s w.moment) reply cs after (is_rollback here s w.moment) e in
      (subst AreSpellable (sym h.0) (rollback_spells here w.moment s.pending), ends_held here s w.moment held after h.1)

  pub call_answers : (statement : Statement) (reply : Reply) (cs : List Change) (after : Session) → next_statement w i s ≡ Some statement → meaning w i s statement ≡ answers reply cs after → SpellsAnswer reply cs after
  call_answers statement reply cs after next means =
      let a = asked w i s statement v.scripts next in answer_spells statement reply cs after a.0 (asked_by w.scripts i s.next statement (slice_get w.scripts i) refl k.rules next) means

pub call_spells : (w : World) (i : ℕ) (s : Session) (statement : Statement) (reply : Reply) (cs : List Change) (after : Session) → IsValidWorld w → IsSpellableWorld w → slice_get w.sessions i ≡ Some s → next_statement w i s ≡ Some statement
    → meaning w i s statement ≡ answers reply cs after → AreSpellable cs
call_spells w i s statement reply cs after v k there next means = (call_answers w i s v k there statement reply cs after next means).0
