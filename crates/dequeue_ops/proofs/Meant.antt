-- What effects mean for the sessions that ask.
use Rattle.std.proofs.Common.{◌≡◌, ℕ, List, [], ◌∷◌, ◌++◌, true, false, Some, refl, sym, ap, ◌∙◌, subst}
use Rattle.slot_marks.specs.Marks.{IsFreeFor, taken}
use Rattle.queue_rows.specs.Commits.{commit_of}
use Rattle.queue_rows.specs.Session.{Session, without_mark}
use Rattle.queue_rows.specs.Meaning.{Meaning, answers}
use Rattle.queue_rows.specs.Dequeueing as def
use Rattle.queue_rows.specs.Dequeueing.{Look, chosen, dequeue, given_by, given_chosen, given_in, message_reply, slot_in}
use Rattle.queue_rows.specs.declared.tables.Tables.{Tables}
use Rattle.queue_rows.specs.declared.rows.MsgRow.{MsgRow}
use Rattle.queue_rows.specs.declared.reply.Reply.{Reply}
use Rattle.queue_rows.specs.declared.session.Position.{Position}
use Rattle.queue_rows.specs.declared.session.Pending.TheVariants.{Remove}
use Rattle.queue_rows.specs.declared.statement.Mode.{Mode}
use Rattle.queue_rows.specs.declared.statement.Mode.TheVariants as modes
use Rattle.queue_rows.specs.declared.statement.Visibility.{Visibility}
use Rattle.queue_rows.specs.declared.statement.Visibility.TheVariants as visibilities
use Rattle.sessions.specs.Effects.{plain_effect}
use Rattle.sessions.specs.declared.state.Effect.{Effect}
use Rattle.sessions.specs.declared.state.PositionMove.TheVariants as moves
use Rattle.sessions.specs.declared.state.Verdict.TheVariants as verdicts
use Rattle.dequeue_ops.specs.Asked.{Does, IsAsking, IsDequeue, IsFreeToGive, IsShown, as_asked, by_choice, giving, look_of, moved, position_at, refusal}
use Rattle.dequeue_ops.specs.Given.{IsReply, mark_of, showing}
use Rattle.dequeue_ops.specs.declared.request.Request.{Request}
use Rattle.dequeue_ops.specs.declared.request.Asked.{Asked}
use Rattle.dequeue_ops.specs.declared.given.Delivery.{Delivery}

-- ---- refusals

pub refuses : (r : Request) (reply : Reply) → Does r (refusal reply) (plain_effect (verdicts.Answer reply) [])
refuses r reply = record { means = λ sessions s is. refl; free = tt }

-- an effect does what is meant by another way, where it is the same for each session that asks
pub does-same : (r : Request) (a b : List Session → Session → Meaning) (e : Effect) → ((sessions : List Session) (s : Session) → IsAsking r sessions s → b sessions s ≡ a sessions s) → Does r a e → Does r b e
does-same r a b e same d = record { means = λ sessions s is. same sessions s is ∙ d.means sessions s is; free = d.free }

-- what is done as is asked is what the dequeue means
pub dequeue-means : (t : Tables) (r : Request) (e : Effect) → Does r (as_asked t r) e → IsDequeue t r.locks.now r.actor r.session.now r.ask.now r.moment e
unfolding dequeue
dequeue-means t r e does = λ sessions s is are there. does.means sessions s (record { state = is; marks = are; there = there })

-- a session that asks has the marks that the locks hold for it
pub shown-of : (a : Asked) (sessions : List Session) (s : Session) → IsAsking a.request.now sessions s → IsShown a sessions s
shown-of a sessions s is = record { marks = is.marks; own = is.marks.own a.request.now.actor s is.there refl; positions = is.state.positions }

-- what is chosen is given, and the session stands there
pub given-chosen : (t : Tables) (a : Asked) (m : MsgRow) (slot : ℕ) (sessions : List Session) (s : Session) (p : Position) → p ≡ position_at a.request.now m
    → chosen (look_of t a sessions s) ≡ def.found m → slot_in (look_of t a sessions s) m ≡ Some slot → by_choice t a sessions s ≡ giving t a (moves.Set p) m slot sessions s
given-chosen t a m slot sessions s p there e here =
    let l : Look = look_of t a sessions s in
    ap (given_by l a.request.now.moment) e
    ∙ ap (given_chosen l a.request.now.moment m) here
    ∙ ap (λ (x : Position). giving t a (moves.Set x) m slot sessions s) (sym there)

-- ---- by mode and visibility

module _ (t : Tables) (a : Asked) (m : MsgRow) (slot : ℕ) (d : Delivery) (told : IsReply a m slot d.reply) where
  abbrev pub r : Request
  r = a.request.now

  abbrev pub given_as : Mode → Visibility → List Session → Session → Meaning
  given_as mode visibility sessions s = given_in mode visibility (look_of t a sessions s) (moved a d.position s) r.moment m slot

  as-shown : (sessions : List Session) (s : Session) → IsAsking r sessions s → answers (message_reply (look_of t a sessions s) m slot) [] (moved a d.position s) ≡ answers d.reply [] (moved a d.position s)
  as-shown sessions s is = ap (λ (x : Reply). answers x [] (moved a d.position s)) (told t sessions s is.state.at)

  shows : (mode : Mode) (visibility : Visibility) → ((sessions : List Session) (s : Session) → given_as mode visibility sessions s ≡ answers (message_reply (look_of t a sessions s) m slot) [] (moved a d.position s)) → Does r (given_as mode visibility) (showing d)
  shows mode visibility so = record { means = λ sessions s is. so sessions s ∙ as-shown sessions s is; free = tt }

  locks : IsFreeFor r.locks.now r.actor (mark_of a false m slot) → Does r (given_as modes.Locked visibilities.OnCommit) (record (showing d) { mark = Some (mark_of a false m slot) })
  locks free = record {
    means = λ sessions s is. ap (λ (x : Reply). answers x [] (record (moved a d.position s) { marks = taken s.marks (mark_of a false m slot) })) (told t sessions s is.state.at);
    free = free;
  }

  takes_later : (mode : Mode) → ((sessions : List Session) (s : Session) → given_as mode visibilities.OnCommit sessions s ≡ given_as modes.Remove visibilities.OnCommit sessions s)
      → IsFreeFor r.locks.now r.actor (mark_of a true m slot)
      → Does r (given_as mode visibilities.OnCommit) (record (showing d) { mark = Some (mark_of a true m slot); pend = Some (Remove m.id slot) })
  takes_later mode so free = record {
    means = λ sessions s is. so sessions s ∙ ap (λ (x : Reply). answers x [] (record (moved a d.position s) { marks = taken s.marks (mark_of a true m slot); pending = s.pending ++ Remove m.id slot ∷ [] })) (told t sessions s is.state.at);
    free = free;
  }

  takes_at_once : (mode : Mode) → ((sessions : List Session) (s : Session) → given_as mode visibilities.Immediate sessions s ≡ given_as modes.Remove visibilities.Immediate sessions s)
      → Does r (given_as mode visibilities.Immediate) (record (showing d) { commit = commit_of t r.moment (Remove m.id slot ∷ []); unmark = Some (mark_of a true m slot) })
  takes_at_once mode so = record {
    means = λ sessions s is. so sessions s ∙ ap (λ (x : Reply). answers x (commit_of t r.moment (Remove m.id slot ∷ [])) (record (moved a d.position s) { marks = without_mark m.id slot s.marks })) (told t sessions s is.state.at);
    free = tt;
  }

  -- what is asked, by its mode and visibility
  as-asked : (mode : Mode) (visibility : Visibility) (e : Effect) → r.ask.now.mode ≡ mode → r.ask.now.visibility ≡ visibility → Does r (given_as mode visibility) e → Does r (giving t a d.position m slot) e
  as-asked mode visibility e mode_is visibility_is does =
      does-same r (given_as mode visibility) (giving t a d.position m slot) e (λ sessions s is. λ i. given_in (mode_is i) (visibility_is i) (look_of t a sessions s) (moved a d.position s) r.moment m slot) does

  pub does-browse : (e : Effect) → r.ask.now.mode ≡ modes.Browse → e ≡ showing d → Does r (giving t a d.position m slot) e
  does-browse e mode_is same = subst (λ (x : Effect). Does r (giving t a d.position m slot) x) (sym same)
      (as-asked modes.Browse r.ask.now.visibility (showing d) mode_is refl (shows modes.Browse r.ask.now.visibility (λ sessions s. refl)))

  pub does-lock-shown : (e : Effect) → r.ask.now.mode ≡ modes.Locked → r.ask.now.visibility ≡ visibilities.Immediate → e ≡ showing d → Does r (giving t a d.position m slot) e
  does-lock-shown e mode_is visibility_is same = subst (λ (x : Effect). Does r (giving t a d.position m slot) x) (sym same)
      (as-asked modes.Locked visibilities.Immediate (showing d) mode_is visibility_is (shows modes.Locked visibilities.Immediate (λ sessions s. refl)))

  pub does-lock : (e : Effect) → r.ask.now.mode ≡ modes.Locked → r.ask.now.visibility ≡ visibilities.OnCommit → IsFreeToGive a m slot
      → e ≡ record (showing d) { mark = Some (mark_of a false m slot) } → Does r (giving t a d.position m slot) e
  does-lock e mode_is visibility_is free same = subst (λ (x : Effect). Does r (giving t a d.position m slot) x) (sym same)
      (as-asked modes.Locked visibilities.OnCommit (record (showing d) { mark = Some (mark_of a false m slot) }) mode_is visibility_is (locks (free (rw mode_is refl) false)))

  pub does-remove-later : (e : Effect) → r.ask.now.mode ≡ modes.Remove → r.ask.now.visibility ≡ visibilities.OnCommit → IsFreeToGive a m slot
      → e ≡ record (showing d) { mark = Some (mark_of a true m slot); pend = Some (Remove m.id slot) } → Does r (giving t a d.position m slot) e
  does-remove-later e mode_is visibility_is free same = subst (λ (x : Effect). Does r (giving t a d.position m slot) x) (sym same)
      (as-asked modes.Remove visibilities.OnCommit (record (showing d) { mark = Some (mark_of a true m slot); pend = Some (Remove m.id slot) }) mode_is visibility_is (takes_later modes.Remove (λ sessions s. refl) (free (rw mode_is refl) true)))

  pub does-unshown-later : (e : Effect) → r.ask.now.mode ≡ modes.RemoveNodata → r.ask.now.visibility ≡ visibilities.OnCommit → IsFreeToGive a m slot
      → e ≡ record (showing d) { mark = Some (mark_of a true m slot); pend = Some (Remove m.id slot) } → Does r (giving t a d.position m slot) e
  does-unshown-later e mode_is visibility_is free same = subst (λ (x : Effect). Does r (giving t a d.position m slot) x) (sym same)
      (as-asked modes.RemoveNodata visibilities.OnCommit (record (showing d) { mark = Some (mark_of a true m slot); pend = Some (Remove m.id slot) }) mode_is visibility_is (takes_later modes.RemoveNodata (λ sessions s. refl) (free (rw mode_is refl) true)))

  pub does-remove-now : (e : Effect) → r.ask.now.mode ≡ modes.Remove → r.ask.now.visibility ≡ visibilities.Immediate
      → e ≡ record (showing d) { commit = commit_of t r.moment (Remove m.id slot ∷ []); unmark = Some (mark_of a true m slot) } → Does r (giving t a d.position m slot) e
  does-remove-now e mode_is visibility_is same = subst (λ (x : Effect). Does r (giving t a d.position m slot) x) (sym same)
      (as-asked modes.Remove visibilities.Immediate (record (showing d) { commit = commit_of t r.moment (Remove m.id slot ∷ []); unmark = Some (mark_of a true m slot) }) mode_is visibility_is (takes_at_once modes.Remove (λ sessions s. refl)))

  pub does-unshown-now : (e : Effect) → r.ask.now.mode ≡ modes.RemoveNodata → r.ask.now.visibility ≡ visibilities.Immediate
      → e ≡ record (showing d) { commit = commit_of t r.moment (Remove m.id slot ∷ []); unmark = Some (mark_of a true m slot) } → Does r (giving t a d.position m slot) e
  does-unshown-now e mode_is visibility_is same = subst (λ (x : Effect). Does r (giving t a d.position m slot) x) (sym same)
      (as-asked modes.RemoveNodata visibilities.Immediate (record (showing d) { commit = commit_of t r.moment (Remove m.id slot ∷ []); unmark = Some (mark_of a true m slot) }) mode_is visibility_is (takes_at_once modes.RemoveNodata (λ sessions s. refl)))
