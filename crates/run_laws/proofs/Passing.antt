-- What statements commit passes a slot that goes to the other database by.
use Rattle.std.proofs.Common.{◌≡◌, ℕ, List, [], ◌∷◌, Bool, true, false, refl, sym, ap, ◌∙◌, subst, Option, ◌==◌, ◌&&◌}
use Rattle.std.specs.Prelude.{flat_map}
use Rattle.std.specs.List.{list_any}
use Rattle.std.proofs.lemmas.Bool.{eqb-true, and_parts, or_from, false_from_ne_true, true≢false}
use Rattle.rule_conditions.specs.declared.condition.Cond.{Cond}
use Rattle.queue_rows.specs.Rows.{find_message}
use Rattle.queue_rows.specs.Tables.{after_change}
use Rattle.queue_rows.specs.Settling.{settling, names_of}
use Rattle.queue_rows.specs.Commits.{completed, changes_from, commit_of}
use Rattle.queue_rows.specs.Session.{Session, marks_slot}
use Rattle.queue_rows.specs.Meaning.{answers}
use Rattle.queue_rows.specs.Dequeueing as d
use Rattle.queue_rows.specs.Transactions.{retry_of, rollback_of}
use Rattle.queue_rows.specs.Valid.{is_valid}
use Rattle.queue_rows.specs.declared.tables.Tables.{Tables}
use Rattle.queue_rows.specs.declared.rows.TableRow.{TableRow}
use Rattle.queue_rows.specs.declared.rows.QueueRow.{QueueRow}
use Rattle.queue_rows.specs.declared.rows.MsgRow.{MsgRow}
use Rattle.queue_rows.specs.declared.session.Pending.{Pending}
use Rattle.queue_rows.specs.declared.session.Pending.TheVariants.{Add, Remove}
use Rattle.queue_rows.specs.declared.change.Change.{Change}
use Rattle.queue_rows.specs.declared.change.Change.TheVariants as changes
use Rattle.queue_rows.specs.declared.reply.Reply.{Reply}
use Rattle.queue_rows.specs.declared.reply.Reply.TheVariants as replies
use Rattle.queue_rows.specs.declared.statement.Dequeue.{Dequeue}
use Rattle.queue_rows.specs.declared.statement.Enqueue.{Enqueue}
use Rattle.queue_rows.specs.declared.statement.Mode.{Mode}
use Rattle.queue_rows.specs.declared.statement.Mode.TheVariants as modes
use Rattle.queue_rows.specs.declared.statement.Visibility.{Visibility}
use Rattle.queue_rows.specs.declared.statement.Visibility.TheVariants as visibilities
use Rattle.valid_laws.specs.Touching.{is_of_slot}
use Rattle.valid_laws.proofs.Framing.{any_append, settled_none}
use Rattle.valid_laws.proofs.Saying.{any_flat_if, retry_message_none, rollback_none}
use Rattle.statement_laws.specs.Sessions.{is_removal_of, MarksAgree}
use Rattle.statement_laws.specs.EnqueueLaws.{AddsIn, Adds}
use Rattle.statement_laws.proofs.Among.{Says}
use Rattle.statement_laws.proofs.Framing.{removed_marked}
use Rattle.statement_laws.proofs.Naming.{commit_names}
use Rattle.history_laws.specs.LocalMarks.{is_remote_at}
use Rattle.history_laws.proofs.Looking.{may_take_local}
use Rattle.run_laws.proofs.Looking.{look_at, dequeue_so}
use Rattle.run_laws.proofs.Resting.{touches}

-- the changes name no slot that goes to the other database, and leave schedules
pub record PassBy (t : Tables) (cs : List Change) : Type 0 where
  pub slots : (id slot : ℕ) → is_remote_at t id slot ≡ true → list_any (is_of_slot id slot) cs ≡ false
  pub schedules : list_any touches cs ≡ false

pub none_pass : (t : Tables) (cs : List Change) → cs ≡ [] → PassBy t cs
none_pass t cs e = subst (PassBy t) (sym e) (record { slots = λ id slot r. refl; schedules = refl })

-- ---- commits

commit_none_from : (q : Change → Bool) → ((m : MsgRow) → q (changes.Enqueued m) ≡ false) → ((id slot at : ℕ) → q (changes.Done id slot at) ≡ false) → (rest : List Pending) (t : Tables) (group moment : ℕ) → list_any q (changes_from t group moment rest) ≡ false
commit_none_from q a b [] t group moment = refl
commit_none_from q a b (Add m ∷ more) t group moment =
    let c = changes.Enqueued (completed t group moment m) in or_from (q c) (list_any q (changes_from (after_change t c) group moment more)) (a (completed t group moment m)) (commit_none_from q a b more (after_change t c) group moment)
commit_none_from q a b (Remove id slot ∷ more) t group moment =
    let c = changes.Done id slot moment in or_from (q c) (list_any q (changes_from (after_change t c) group moment more)) (b id slot moment) (commit_none_from q a b more (after_change t c) group moment)

commit_touches : (t : Tables) (moment : ℕ) (pending : List Pending) → list_any touches (commit_of t moment pending) ≡ false
commit_touches t moment pending =
    let cs = changes_from t t.transaction moment pending in
    any_append touches cs (flat_map (settling t cs) (names_of cs)) (commit_none_from touches (λ m. refl) (λ id slot at. refl) pending t t.transaction moment) (settled_none touches (λ id queue at. refl) (λ id. refl) t cs)

-- what is removed is marked, and what is marked is local
none_removed : (t : Tables) (s : Session) (id slot : ℕ) → MarksAgree s → ((n a : ℕ) → list_any (marks_slot n a) s.marks ≡ true → is_remote_at t n a ≡ false) → is_remote_at t id slot ≡ true → list_any (is_removal_of id slot) s.pending ≡ false
none_removed t s id slot agree local r = false_from_ne_true (list_any (is_removal_of id slot) s.pending) (λ yes. true≢false (sym r ∙ local id slot (removed_marked s id slot agree yes)))

pub commit_passes : (t : Tables) (moment : ℕ) (s : Session) (cs : List Change) → cs ≡ commit_of t moment s.pending → MarksAgree s → ((n a : ℕ) → list_any (marks_slot n a) s.marks ≡ true → is_remote_at t n a ≡ false) → PassBy t cs
commit_passes t moment s cs e agree local =
    subst (PassBy t) (sym e) (record { slots = λ id slot r. commit_names id slot t moment s.pending (none_removed t s id slot agree local r); schedules = commit_touches t moment s.pending })

retry_names : (t : Tables) (moment id slot : ℕ) (p : Pending) → is_removal_of id slot p ≡ false → list_any (is_of_slot id slot) (retry_of t moment p) ≡ false
retry_names t moment id slot (Add m) e = refl
retry_names t moment id slot (Remove named a) e = retry_message_none (is_of_slot id slot) t moment named a (λ retries until at. e) (λ at. e) (find_message t named)

pub rollback_passes : (t : Tables) (moment : ℕ) (s : Session) (cs : List Change) → cs ≡ rollback_of t moment s.pending → MarksAgree s → ((n a : ℕ) → list_any (marks_slot n a) s.marks ≡ true → is_remote_at t n a ≡ false) → PassBy t cs
rollback_passes t moment s cs e agree local =
    let rs = flat_map (retry_of t moment) s.pending in
    subst (PassBy t) (sym e)
    (record {
      slots = λ id slot r.
          any_append (is_of_slot id slot) rs (flat_map (settling t rs) (names_of rs)) (any_flat_if (is_removal_of id slot) (is_of_slot id slot) (retry_of t moment) (retry_names t moment id slot) s.pending (none_removed t s id slot agree local r))
          (settled_none (is_of_slot id slot) (λ n queue at. refl) (λ n. refl) t rs);
      schedules = rollback_none t moment s.pending touches (λ n slot retries until at. refl) (λ n slot at. refl) (λ n queue at. refl) (λ n. refl);
    })

-- ---- enqueues

visible_passes : (visibility : Visibility) (t : Tables) (s : Session) (m : MsgRow) (moment : ℕ) (cs : List Change) (after : Session) → AddsIn visibility t s m moment cs after → PassBy t cs
visible_passes visibilities.OnCommit t s m moment cs after h = none_pass t cs h.none
visible_passes visibilities.Immediate t s m moment cs after h =
    subst (PassBy t) (sym h.commits) (record { slots = λ id slot r. commit_names id slot t moment (Add m ∷ []) refl; schedules = commit_touches t moment (Add m ∷ []) })

pub adds_pass : (reply : Reply) (ask : Enqueue) (t : Tables) (s : Session) (next moment : ℕ) (cs : List Change) (after : Session) → Adds reply ask t s next moment cs after → PassBy t cs
adds_pass (replies.Enqueued id) ask t s next moment cs after h = visible_passes ask.visibility t s h.message moment cs after h.adds
adds_pass _ ask t s next moment cs after h = none_pass t cs h.none

-- ---- dequeues

one_removal : (t : Tables) (moment id slot : ℕ) → is_remote_at t id slot ≡ false → PassBy t (commit_of t moment (Remove id slot ∷ []))
one_removal t moment id slot local = record {
  slots = λ n a r. commit_names n a t moment (Remove id slot ∷ []) (or_from ((id == n) && (slot == a)) false (other n a r ((id == n) && (slot == a)) refl) refl);
  schedules = commit_touches t moment (Remove id slot ∷ []);
}
  where
    other : (n a : ℕ) → is_remote_at t n a ≡ true → (b : Bool) → ((id == n) && (slot == a)) ≡ b → b ≡ false
    other n a r true e =
        let p = and_parts (id == n) (slot == a) e in
        absurd (true≢false (sym r ∙ ap (λ k. is_remote_at t k a) (sym (eqb-true id n p.0)) ∙ ap (is_remote_at t id) (sym (eqb-true slot a p.1)) ∙ local))
    other n a r false e = refl

module _ (t : Tables) (sessions : List Session) (actor : ℕ) (s : Session) (ask : Dequeue) (moment : ℕ) (v : is_valid t ≡ true) where
  abbrev Passes : List Change → Session → Type 0
  Passes cs after = PassBy t cs

  given_passes : (queue : QueueRow) (table : TableRow) (condition : Option Cond) (x : Session) (m : MsgRow) (slot : ℕ) (mode : Mode) (visibility : Visibility) → is_remote_at t m.id slot ≡ false
      → Says (λ reply. Passes) (d.given_in mode visibility (look_at t sessions actor s ask queue table condition) x moment m slot)
  given_passes queue table condition x m slot modes.Remove visibilities.Immediate r = one_removal t moment m.id slot r
  given_passes queue table condition x m slot modes.RemoveNodata visibilities.Immediate r = one_removal t moment m.id slot r
  given_passes queue table condition x m slot modes.Browse visibility r = none_pass t [] refl
  given_passes queue table condition x m slot modes.Locked visibilities.Immediate r = none_pass t [] refl
  given_passes queue table condition x m slot modes.Remove visibilities.OnCommit r = none_pass t [] refl
  given_passes queue table condition x m slot modes.RemoveNodata visibilities.OnCommit r = none_pass t [] refl
  given_passes queue table condition x m slot modes.Locked visibilities.OnCommit r = none_pass t [] refl

  pub dequeue_passes : (reply : Reply) (cs : List Change) (after : Session) → d.dequeue t sessions actor s ask moment ≡ answers reply cs after → PassBy t cs
  dequeue_passes reply cs after e =
      dequeue_so t sessions actor s ask moment Passes v (λ x k. none_pass t [] refl)
      (λ queue table condition q f k x m slot marks h at. given_passes queue table condition x m slot ask.mode ask.visibility (may_take_local t v queue table ask.queue q f m slot ask.consumer h.1 h.0 k at)) reply cs after e
