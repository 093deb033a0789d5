-- Who calls next, and that it can.
use Rattle.std.proofs.Common.{◌≡◌, ℕ, ◌<◌, ◌≤◌, ◌^◌, inl, inr, List, [], ◌++◌, ◌∷◌, Option, Some, None, true, false, refl, sym, ap, subst, ◌∙◌, arith, length, length-append, ◌&&◌}
use Rattle.std.specs.Prelude.{IfSome, map, nat_le, option_map, slice_get}
use Rattle.std.specs.List.{AllZip, list_all}
use Rattle.std.specs.Str.{bytes_eq}
use Rattle.std.proofs.lemmas.Bool.{and_parts, leb-true}
use Rattle.std.proofs.lemmas.List.Sums.{sum-map, get_or-le-sum_by}
use Rattle.std.proofs.lemmas.Option.{none-some, slice_get_within, get_or_from_slice_get}
use Rattle.aq_base.specs.declared.limits.TheConstants.{SESSION_LIMIT, STATEMENT_LIMIT}
use Rattle.slot_marks.specs.Marks.{SessionMarks, marks_of, has_slot, has_any_group, IsFreeFor}
use Rattle.slot_marks.specs.declared.mark.Mark.{Mark}
use Rattle.queue_rows.specs.Distinct.{are_distinct}
use Rattle.queue_rows.specs.Session.{Session}
use Rattle.queue_rows.specs.Statements.{statement_of, meaning, next_statement, slot_sent}
use Rattle.queue_rows.specs.Turns.{ids_taken}
use Rattle.queue_rows.specs.Within.{are_within, is_script_within, statement_count}
use Rattle.queue_rows.specs.declared.history.SessionScript.{SessionScript}
use Rattle.queue_rows.specs.declared.reply.Reply.{Reply}
use Rattle.queue_rows.specs.declared.reply.Reply.TheVariants as replies
use Rattle.queue_rows.specs.declared.statement.Statement.{Statement}
use Rattle.aq_base.specs.declared.DbId.{DbId}
use Rattle.queue_rows.specs.Session.{AreMarks}
use Rattle.sessions.specs.States.{IsStateOf}
use Rattle.sessions.specs.declared.state.SessionState.{SessionState}
use Rattle.history_laws.specs.ValidWorld.{AreScripts}
use Rattle.history_laws.proofs.Worlds.{asked}
use Rattle.queue_rows.specs.World.{World, database_at}
use Rattle.run_state.specs.CallEffects.{IsCallable, IsLater, call_meant, done_by, mark_of, pending_after}
use Rattle.session_registry.specs.Sessions.{session_of, unmarked, IsFreeIn}
use Rattle.run_state.specs.declared.call_effect.CallEffect.{CallEffect}
use Rattle.run_state.specs.declared.call_effect.Holdings.{Holdings}
use Rattle.run_state.specs.declared.call_effect.Holdings.TheVariants.{Kept, Cleared}
use Rattle.next_steps.specs.Calling.{IsCallerIn, IsFreeDoing, MayCall, doing_meant, mark_in}
use Rattle.next_steps.specs.Sound.{IsSound}
use Rattle.next_steps.specs.Stepping.{CanDo, Means}
use Rattle.next_steps.specs.declared.respond.Caller.{Caller}
use Rattle.next_steps.specs.declared.respond.Doing.{Doing}
use Rattle.next_steps.specs.declared.respond.Doing.TheVariants.{Call, Wait}
use Rattle.next_steps.proofs.Pends.{Pends, answered_so}

-- ---- the session that is found

pub session_there : (o : Option Session) (state : SessionState) → option_map session_of (Some state) ≡ option_map unmarked o → (s : Session) × (o ≡ Some s) × (session_of state ≡ unmarked s)
session_there None state e = absurd (let no : Some (session_of state) ≡ None = e in cc)
session_there (Some s) state e = (s, refl, let is : Some (session_of state) ≡ Some (unmarked s) = e in cc)

-- what holds of the session that is there
pub some_of : (P : Session → Type 0) (o : Option Session) (s : Session) → o ≡ Some s → P s → IfSome o P
some_of P o s there p = subst (λ x. IfSome x P) (sym there) p

pub state_of : (state : SessionState) (s : Session) → session_of state ≡ unmarked s → IsStateOf state s
state_of state s e = record {
  at = ap (λ t. t.at) (sym e);
  next = ap (λ t. t.next) (sym e);
  pending = ap (λ t. t.pending) (sym e);
  positions = ap (λ t. t.positions) (sym e);
  parked = ap (λ t. t.parked) (sym e);
}

-- ---- what is asked

few_statements : (scripts : List SessionScript) → are_within scripts ≡ true → statement_count scripts ≤ STATEMENT_LIMIT
unfolding are_within
few_statements scripts h =
    let p3 = and_parts (nat_le (length scripts) SESSION_LIMIT && nat_le (statement_count scripts) STATEMENT_LIMIT && are_distinct bytes_eq (map (λ script. script.name) scripts)) (list_all is_script_within scripts) h in
    let p2 = and_parts (nat_le (length scripts) SESSION_LIMIT && nat_le (statement_count scripts) STATEMENT_LIMIT) (are_distinct bytes_eq (map (λ script. script.name) scripts)) p3.0 in
    leb-true (statement_count scripts) STATEMENT_LIMIT (and_parts (nat_le (length scripts) SESSION_LIMIT) (nat_le (statement_count scripts) STATEMENT_LIMIT) p2.0).1

-- no session has more statements than there are
script_few : (scripts : List SessionScript) (i : ℕ) (script : SessionScript) → slice_get scripts i ≡ Some script → length script.statements ≤ statement_count scripts
script_few scripts i script there =
    let most = get_or-le-sum_by (λ s. length s.statements) scripts i script (slice_get_within scripts i script there) in
    let is = ap (λ s. length s.statements) (get_or_from_slice_get scripts i script script there) in
    let all = sum-map (λ s. length s.statements) scripts in
    omega (arith, most, is, all)

asked_early : (scripts : List SessionScript) (i n : ℕ) (statement : Statement) (o : Option SessionScript) → slice_get scripts i ≡ o → AreScripts scripts → statement_of o n ≡ Some statement → n < 2 ^ 31
asked_early scripts i n statement None there are e = absurd (none-some statement e)
asked_early scripts i n statement (Some script) there are e =
    let lt = slice_get_within script.statements n statement e in
    let few = script_few scripts i script there in
    let most = few_statements scripts are.within in
    omega (arith, lt, few, most)

-- a session that goes on has not called many
pub next_early : (w : World) (i : ℕ) (s : Session) (statement : Statement) → AreScripts w.scripts → next_statement w i s ≡ Some statement → s.next < 2 ^ 31
next_early w i s statement are next = asked_early w.scripts i s.next statement (slice_get w.scripts i) refl are next

-- ---- who calls

pub caller_in : (c : Caller) (w : World) (s : Session) → slice_get w.sessions c.actor ≡ Some s → session_of c.session.now ≡ unmarked s → AllZip IsStateOf c.sessions.now w.sessions → AreMarks c.session.now.at w.sessions c.locks.now
    → database_at c.session.now.at w ≡ c.database.now → w.moment ≡ c.moment → slot_sent w ≡ c.sent → IsCallerIn c w s
caller_in c w s there is states marks database moment sent = let at : s.at ≡ c.session.now.at = ap (λ t. t.at) (sym is) in record {
  there = there;
  state = state_of c.session.now s is;
  states = states;
  marks = subst (λ db. AreMarks db w.sessions c.locks.now) (sym at) marks;
  database = ap (λ db. database_at db w) at ∙ database;
  moment = moment;
  sent = sent;
}

pub may_call : (c : Caller) (w : World) (s : Session) (statement : Statement) → IsCallerIn c w s → IsSound w → next_statement w c.actor s ≡ Some statement → MayCall c statement
may_call c w s statement is sound next = record {
  world = w;
  session = s;
  is = is;
  sound = sound;
  within = (asked w c.actor s statement sound.valid.scripts next).0;
  early = let few = next_early w c.actor s statement sound.valid.scripts next in omega (arith, few);
}

-- ---- that it can call

-- the locks of a database are known by the marks of its sessions
same_marks : (db : DbId) (ss : List Session) (l k : List SessionMarks) (i : ℕ) → AreMarks db ss l → AreMarks db ss k → marks_of l i ≡ marks_of k i
same_marks db ss l k i a b = elim (a.only i) [
  | inl none ↦ elim (b.only i) [
    | inl also ↦ none ∙ sym also
    | inr t ↦ sym (a.own i t.0 t.1 t.2) ∙ b.own i t.0 t.1 t.2
  ]
  | inr t ↦ sym (a.own i t.0 t.1 t.2) ∙ b.own i t.0 t.1 t.2
]

free_same : (db : DbId) (ss : List Session) (l k : List SessionMarks) (i : ℕ) (mark : Mark) → AreMarks db ss l → AreMarks db ss k → IsFreeFor l i mark → IsFreeFor k i mark
free_same db ss l k i mark a b free = record {
  slot = λ other ne. subst (λ marks. has_slot mark.id mark.slot marks ≡ false) (same_marks db ss l k other a b) (free.slot other ne);
  group = λ other ne. subst (λ marks. has_any_group mark.group marks ≡ false) (same_marks db ss l k other a b) (free.group other ne);
}

free_in : (w : World) (i : ℕ) (s : Session) (l : List SessionMarks) (mark : Mark) → slice_get w.sessions i ≡ Some s → AreMarks s.at w.sessions l → IsFreeFor l i mark → IsFreeIn i mark w.sessions
free_in w i s l mark there marks free =
    subst (λ o. IfSome o (λ t. (locks : List SessionMarks) → AreMarks t.at w.sessions locks → IsFreeFor locks i mark)) (sym there) (λ k also. free_same s.at w.sessions l k i mark marks also free)

free_of : (w : World) (i : ℕ) (s : Session) (l : List SessionMarks) (mark : Option Mark) → slice_get w.sessions i ≡ Some s → AreMarks s.at w.sessions l → IfSome mark (IsFreeFor l i) → IfSome mark (λ m. IsFreeIn i m w.sessions)
free_of w i s l None there marks free = _
free_of w i s l (Some mark) there marks free = free_in w i s l mark there marks free

-- what is done and not committed comes with no commit
later_by : (h : Holdings) (s : Session) (call : CallEffect) → call.holdings ≡ h → Pends s call.reply call.commit (done_by call s) → IsLater call
later_by Cleared s call is so = rw is tt
later_by (Kept None mark unmark) s call is so = rw is tt
later_by (Kept (Some p) mark unmark) s call is so =
    let now : (done_by call s).pending ≡ s.pending ++ p ∷ [] = ap (λ h. pending_after h s.pending) is in
    let n = length-append s.pending (p ∷ []) in
    rw is (elim so [
      | inl e ↦ let m = ap length (sym now ∙ e) in absurd (omega (arith, n, m))
      | inr more ↦ elim more [
        | inl e ↦ let m = ap length (sym now ∙ e) in absurd (omega (arith, n, m))
        | inr one ↦ one.later
      ]
    ])

taken_most : (reply : Reply) → ids_taken reply ≤ 1
taken_most (replies.Enqueued id) = omega arith
taken_most _ = omega arith

call_can : (w : World) (i : ℕ) (s : Session) (statement : Statement) (call : CallEffect) (l : List SessionMarks) → IsSound w → slice_get w.sessions i ≡ Some s → AreMarks s.at w.sessions l → next_statement w i s ≡ Some statement
    → meaning w i s statement ≡ call_meant call s → IfSome (mark_of call.holdings) (IsFreeFor l i) → IsCallable w i s call
call_can w i s statement call l sound there marks next means free = record {
  early = let few = next_early w i s statement sound.valid.scripts next in omega (arith, few);
  ids = let most = (sound.valid.databases s.at).most in let one = taken_most call.reply in omega (arith, most, one);
  later = later_by call.holdings s call refl (answered_so w i s statement call.reply call.commit (done_by call s) sound.valid means);
  free = free_of w i s l (mark_of call.holdings) there marks free;
}

can_do : (w : World) (i : ℕ) (s : Session) (statement : Statement) (doing : Doing) (l : List SessionMarks) → IsSound w → slice_get w.sessions i ≡ Some s → AreMarks s.at w.sessions l → next_statement w i s ≡ Some statement
    → meaning w i s statement ≡ doing_meant doing s → IfSome (mark_in doing) (IsFreeFor l i) → CanDo w i s doing
can_do w i s statement (Call call) l sound there marks next means free = call_can w i s statement call l sound there marks next means free
can_do w i s statement (Wait since) l sound there marks next means free = let few = next_early w i s statement sound.valid.scripts next in omega (arith, few)

-- what the session does next, as it was found
pub next_means : (c : Caller) (w : World) (s : Session) (statement : Statement) (doing : Doing) → IsCallerIn c w s → IsSound w → next_statement w c.actor s ≡ Some statement → meaning w c.actor s statement ≡ doing_meant doing s → IsFreeDoing c doing
    → Means w c.actor s doing
next_means c w s statement doing is sound next means free = record {
  statement = statement;
  next = next;
  means = means;
  can = can_do w c.actor s statement doing c.locks.now sound is.there is.marks next means free;
}
