-- What statements do, from what their effects are.
use Rattle.std.proofs.Common.{◌≡◌, ◌<◌, ◌≤◌, ◌^◌, ℕ, suc, List, [], ◌∷◌, true, Option, Some, None, Result, All, refl, sym, ap, subst, ◌∙◌, arith, length}
use Rattle.std.specs.Prelude.{Ok, Err, IfOk, IfSome}
use Rattle.std.specs.List.{AllZip}
use Rattle.std.proofs.lemmas.Option.{none-some}
use Rattle.slot_marks.specs.declared.mark.Mark.{Mark}
use Rattle.slot_marks.specs.Marks.{marks_of}
use Rattle.queue_rows.specs.Session.{Session}
use Rattle.queue_rows.specs.Meaning.{answers, parks, first_look}
use Rattle.queue_rows.specs.Administration.{administer}
use Rattle.queue_rows.specs.Commits.{commit_of}
use Rattle.queue_rows.specs.Dequeueing.{dequeue}
use Rattle.queue_rows.specs.Enqueueing.{enqueue}
use Rattle.queue_rows.specs.Listening.{listen}
use Rattle.queue_rows.specs.Statements.{meaning, slot_sent}
use Rattle.queue_rows.specs.Transactions.{commit, rollback, rollback_of}
use Rattle.queue_rows.specs.Valid.{is_valid}
use Rattle.queue_rows.specs.World.{World, database_at}
use Rattle.queue_rows.specs.declared.tables.Tables.{Tables}
use Rattle.queue_rows.specs.declared.change.Change.{Change}
use Rattle.queue_rows.specs.declared.reply.Reply.{Reply}
use Rattle.queue_rows.specs.declared.reply.Reply.TheVariants as replies
use Rattle.queue_rows.specs.declared.history.SlotRef.{SlotRef}
use Rattle.queue_rows.specs.declared.session.Position.{Position}
use Rattle.queue_rows.specs.declared.statement.Admin.{Admin}
use Rattle.queue_rows.specs.declared.statement.Dequeue.{Dequeue}
use Rattle.queue_rows.specs.declared.statement.Enqueue.{Enqueue}
use Rattle.queue_rows.specs.declared.statement.Listen.{Listen}
use Rattle.queue_rows.specs.declared.statement.Statement.{Statement}
use Rattle.queue_rows.specs.declared.statement.Statement.TheVariants as statements
use Rattle.sessions.specs.Effects.{meant, meant_by, pending_with, marks_with, marks_without, positions_after}
use Rattle.sessions.specs.Numbers.{IsPendable}
use Rattle.queue_rows.specs.Session.{AreMarks}
use Rattle.sessions.specs.States.{IsStateOf}
use Rattle.sessions.specs.declared.state.Effect.{Effect}
use Rattle.sessions.specs.declared.state.Verdict.TheVariants.{Answer, Park}
use Rattle.sessions.specs.declared.state.SessionState.{SessionState}
use Rattle.message_choice.specs.Sound.{AreInGroups}
use Rattle.run_laws.proofs.Grouping.{grouped_are_in_groups}
use Rattle.admin_ops.specs.Meaning.{MeansToAdminister}
use Rattle.dequeue_ops.specs.Asked.{IsDequeue}
use Rattle.enqueue_ops.specs.Enqueued.{MeansToEnqueue}
use Rattle.listen_ops.specs.Listened.{IsListen}
use Rattle.next_steps.specs.Calling.{IsCallerIn, MayCall}
use Rattle.session_registry.specs.Sessions.{positions_by}
use Rattle.run_state.specs.CallEffects.{call_meant}
use Rattle.session_registry.specs.declared.new_positions.NewPositions.{NewPositions}
use Rattle.run_state.specs.declared.call_effect.Holdings.TheVariants.{Kept}
use Rattle.next_steps.specs.declared.respond.Caller.{Caller}

pub if_ok : {T E : Type 0} {P Q : T → Type 0} (r : Result T E) → IfOk r P → ((x : T) → P x → Q x) → IfOk r Q
if_ok (Ok x) p f = f x p
if_ok (Err e) p f = _

-- ---- effects as what is done

-- an effect that is answered, with the positions that the session then has
pub effect_answers : (e : Effect) (reply : Reply) (positions : NewPositions) (stand : List Position) (queue : List ℕ) (consumer : Option (List ℕ)) (moment : ℕ) (s : Session)
    → e.verdict ≡ Answer reply → positions_by positions stand ≡ positions_after e.position queue consumer stand → s.positions ≡ stand
    → meant e queue consumer moment s ≡ call_meant (record { reply = reply; commit = e.commit; holdings = Kept e.pend e.mark e.unmark; positions = positions }) s
effect_answers e reply positions stand queue consumer moment s is are at =
    let new : positions_after e.position queue consumer s.positions ≡ positions_by positions s.positions = ap (positions_after e.position queue consumer) at ∙ sym are ∙ ap (positions_by positions) (sym at) in
    ap (λ v. meant_by v e queue consumer moment s) is
    ∙ ap (λ ps. answers reply e.commit (record s { pending = pending_with e.pend s.pending; marks = marks_without e.unmark (marks_with e.mark s.marks); positions = ps; parked = None })) new

-- an effect that waits
pub effect_parks : (e : Effect) (since : ℕ) (queue : List ℕ) (consumer : Option (List ℕ)) (moment : ℕ) (s : Session) → e.verdict ≡ Park → since ≡ first_look s moment → meant e queue consumer moment s ≡ parks since
effect_parks e since queue consumer moment s is at = ap (λ v. meant_by v e queue consumer moment s) is ∙ ap parks (sym at)

pub own_mark : (o : Option Mark) → IfSome o (λ m. o ≡ Some m)
own_mark None = _
own_mark (Some m) = refl

-- where nothing is marked by the effect
pub unmarked_by : (o mark : Option Mark) → IfSome o (λ m. mark ≡ Some m) → mark ≡ None → o ≡ None
unmarked_by None mark is none = refl
unmarked_by (Some m) mark is none = absurd (none-some m (sym none ∙ is))

-- what is marked by the effect can be
pub free_by : (P : Mark → Type 0) (o mark : Option Mark) → IfSome o (λ m. mark ≡ Some m) → IfSome mark P → IfSome o P
free_by P None mark is free = _
free_by P (Some m) mark is free = subst (λ x. IfSome x P) is free

-- ---- who calls

same_length : (states : List SessionState) (sessions : List Session) → AllZip IsStateOf states sessions → length states ≡ length sessions
same_length [] [] are = refl
same_length [] (s ∷ ss) are = absurd are
same_length (x ∷ xs) [] are = absurd are
same_length (x ∷ xs) (s ∷ ss) are = ap suc (same_length xs ss are.1)

module _ (c : Caller) (statement : Statement) (may : MayCall c statement) where
  -- the tables of its database are valid
  pub caller_valid : is_valid c.database.now.tables ≡ true
  caller_valid = subst (λ d. is_valid d.tables ≡ true) may.is.database (may.sound.valid.databases may.session.at).valid

  pub caller_next : c.database.now.next ≤ 2 ^ 61
  caller_next = subst (λ d. d.next ≤ 2 ^ 61) may.is.database (may.sound.valid.databases may.session.at).most

  pub caller_moment : c.moment ≤ 2 ^ 62
  caller_moment = subst (λ n. n ≤ 2 ^ 62) may.is.moment may.sound.valid.last

  pub caller_groups : AreInGroups c.database.now.tables (marks_of c.locks.now c.actor)
  caller_groups =
      subst (λ d. AreInGroups d.tables (marks_of c.locks.now c.actor)) may.is.database
      (subst (AreInGroups (database_at may.session.at may.world).tables) (may.is.marks.own c.actor may.session may.is.there refl)
      (grouped_are_in_groups may.world c.actor may.session may.sound.valid may.sound.grouped may.is.there))

  -- what the ends of a transaction need
  pub caller_few : length c.session.now.pending < 2 ^ 61
  caller_few =
      let few = (may.sound.each c.actor may.session may.is.there).few in
      let same = ap length may.is.state.pending in
      let early = may.early in
      omega (arith, few, same, early)

  pub caller_pendable : All IsPendable c.session.now.pending
  caller_pendable = subst (All IsPendable) may.is.state.pending (may.sound.each c.actor may.session may.is.there).pendable

  -- all sessions
  pub caller_states : length c.sessions.now < 2 ^ 32
  caller_states = let few = may.sound.few in let same = same_length c.sessions.now may.world.sessions may.is.states in omega (arith, few, same)

-- ---- what the effects of statements mean

unfold_admin : (w : World) (i : ℕ) (s : Session) (ask : Admin) → meaning w i s (statements.Admin ask) ≡ administer (database_at s.at w).tables w.sessions (slot_sent w) s ask w.moment
unfolding meaning
unfold_admin w i s ask = refl

unfold_enqueue : (w : World) (i : ℕ) (s : Session) (ask : Enqueue) → meaning w i s (statements.Enqueue ask) ≡ enqueue (database_at s.at w).tables s ask (database_at s.at w).next w.moment
unfolding meaning
unfold_enqueue w i s ask = refl

unfold_dequeue : (w : World) (i : ℕ) (s : Session) (ask : Dequeue) → meaning w i s (statements.Dequeue ask) ≡ dequeue (database_at s.at w).tables w.sessions i s ask w.moment
unfolding meaning
unfold_dequeue w i s ask = refl

unfold_listen : (w : World) (i : ℕ) (s : Session) (ask : Listen) → meaning w i s (statements.Listen ask) ≡ listen (database_at s.at w).tables w.sessions i s ask w.moment
unfolding meaning
unfold_listen w i s ask = refl

unfold_commit : (w : World) (i : ℕ) (s : Session) → meaning w i s statements.Commit ≡ commit (database_at s.at w).tables s w.moment
unfolding meaning
unfold_commit w i s = refl

unfold_rollback : (w : World) (i : ℕ) (s : Session) → meaning w i s statements.Rollback ≡ rollback (database_at s.at w).tables s w.moment
unfolding meaning
unfold_rollback w i s = refl

module _ (c : Caller) (t : Tables) (tables : t ≡ c.database.now.tables) (e : Effect) (w : World) (s : Session) (is : IsCallerIn c w s) where
  here : t ≡ (database_at s.at w).tables
  here = tables ∙ ap (λ d. d.tables) (sym is.database)

  pub admin_meant : (sent : Option SlotRef) (ask : Admin) (queue : List ℕ) (consumer : Option (List ℕ)) → sent ≡ c.sent → MeansToAdminister t c.session.now.at c.locks.now c.sessions.now sent ask c.moment e
      → meaning w c.actor s (statements.Admin ask) ≡ meant e queue consumer c.moment s
  admin_meant sent ask queue consumer same means =
      let marks = subst (λ db. AreMarks db w.sessions c.locks.now) is.state.at is.marks in
      unfold_admin w c.actor s ask
      ∙ ap (λ x. administer (database_at s.at w).tables w.sessions x s ask w.moment) (is.sent ∙ sym same)
      ∙ ap (λ u. administer u w.sessions sent s ask w.moment) (sym here)
      ∙ ap (administer t w.sessions sent s ask) is.moment
      ∙ means w.sessions is.states marks s is.state.at queue consumer

  pub enqueue_meant : (next : ℕ) (ask : Enqueue) (queue : List ℕ) (consumer : Option (List ℕ)) → next ≡ c.database.now.next → MeansToEnqueue c.session.now t ask next c.moment e → meaning w c.actor s (statements.Enqueue ask) ≡ meant e queue consumer c.moment s
  enqueue_meant next ask queue consumer number means =
      unfold_enqueue w c.actor s ask
      ∙ ap (λ u. enqueue u s ask (database_at s.at w).next w.moment) (sym here)
      ∙ ap (λ n. enqueue t s ask n w.moment) (ap (λ d. d.next) is.database ∙ sym number)
      ∙ ap (enqueue t s ask next) is.moment
      ∙ means s is.state queue consumer

  pub dequeue_meant : (ask : Dequeue) → IsDequeue t c.locks.now c.actor c.session.now ask c.moment e → meaning w c.actor s (statements.Dequeue ask) ≡ meant e ask.queue ask.consumer c.moment s
  dequeue_meant ask means =
      unfold_dequeue w c.actor s ask
      ∙ ap (λ u. dequeue u w.sessions c.actor s ask w.moment) (sym here)
      ∙ ap (dequeue t w.sessions c.actor s ask) is.moment
      ∙ means w.sessions s is.state is.marks is.there

  pub listen_meant : (ask : Listen) (queue : List ℕ) (consumer : Option (List ℕ)) → IsListen t c.locks.now c.actor c.session.now ask c.moment e → meaning w c.actor s (statements.Listen ask) ≡ meant e queue consumer c.moment s
  listen_meant ask queue consumer means =
      unfold_listen w c.actor s ask
      ∙ ap (λ u. listen u w.sessions c.actor s ask w.moment) (sym here)
      ∙ ap (listen t w.sessions c.actor s ask) is.moment
      ∙ means w.sessions s queue consumer is.state is.marks is.there

committing : (u : Tables) (s : Session) (moment : ℕ) → commit u s moment ≡ answers replies.Ok (commit_of u moment s.pending) (record s { pending = []; marks = []; parked = None })
unfolding commit
committing u s moment = refl

rolling_back : (u : Tables) (s : Session) (moment : ℕ) → rollback u s moment ≡ answers replies.Ok (rollback_of u moment s.pending) (record s { pending = []; marks = []; positions = []; parked = None })
unfolding rollback
rolling_back u s moment = refl

module _ (c : Caller) (t : Tables) (tables : t ≡ c.database.now.tables) (w : World) (s : Session) (is : IsCallerIn c w s) where
  pub commit_meant : (cs : List Change) → cs ≡ commit_of t c.moment c.session.now.pending → meaning w c.actor s statements.Commit ≡ answers replies.Ok cs (record s { pending = []; marks = []; parked = None })
  commit_meant cs made =
      let changes : commit_of (database_at s.at w).tables w.moment s.pending ≡ cs =
      ap (λ d. commit_of d.tables w.moment s.pending) is.database ∙ ap (λ u. commit_of u w.moment s.pending) (sym tables) ∙ ap (λ n. commit_of t n s.pending) is.moment
      ∙ ap (commit_of t c.moment) is.state.pending ∙ sym made in
      unfold_commit w c.actor s ∙ committing (database_at s.at w).tables s w.moment ∙ ap (λ ds. answers replies.Ok ds (record s { pending = []; marks = []; parked = None })) changes

  pub rollback_meant : (cs : List Change) → cs ≡ rollback_of t c.moment c.session.now.pending → meaning w c.actor s statements.Rollback ≡ answers replies.Ok cs (record s { pending = []; marks = []; positions = []; parked = None })
  rollback_meant cs made =
      let changes : rollback_of (database_at s.at w).tables w.moment s.pending ≡ cs =
      ap (λ d. rollback_of d.tables w.moment s.pending) is.database ∙ ap (λ u. rollback_of u w.moment s.pending) (sym tables) ∙ ap (λ n. rollback_of t n s.pending) is.moment
      ∙ ap (rollback_of t c.moment) is.state.pending ∙ sym made in
      unfold_rollback w c.actor s ∙ rolling_back (database_at s.at w).tables s w.moment ∙ ap (λ ds. answers replies.Ok ds (record s { pending = []; marks = []; positions = []; parked = None })) changes
