use Rattle.std.proofs.Common.{◌≡◌, Some, sym, ap, ◌∙◌, option_map}
use Rattle.std.specs.Prelude.{slice_get, option_copied}
use Rattle.queue_rows.specs.Session.{Session}
use Rattle.queue_rows.specs.Statements.{statement_of, next_statement}
use Rattle.session_registry.specs.Sessions.{session_of, unmarked}
use Rattle.next_steps.specs.Stepping.{IsNext}
use Rattle.next_steps.proofs.Calls.{session_there, some_of, caller_in, may_call, next_means}
use Rattle.next_steps.proofs.calling.next_doing.Goals as goal

pub respond-requires : goal.respond-requires
respond-requires c =
    let w = c.args.state.now in
    let i = c.args.at in
    let state = c.in-Some.session.now in
    let is : option_map session_of (Some state) ≡ option_map unmarked (slice_get w.sessions i) = sym (ap (λ o. option_map session_of (option_copied o)) c.in-Some.is) ∙ c.session.ensures in
    let found = session_there (slice_get w.sessions i) state is in
    let s : Session = found.0 in
    let caller = caller_in _ w s found.1 found.2 c.states.ensures c.locks.ensures (sym c.database.ensures) (sym c.moment.ensures) (sym c.slot_sent.ensures) in
    let number : s.next ≡ state.next = ap (λ t. t.next) (sym found.2) in
    let next : next_statement w i s ≡ Some c.in-Some-statement.statement.now = ap (statement_of (slice_get w.scripts i)) number ∙ sym c.statement.ensures ∙ ap option_copied c.in-Some-statement.is in
    may_call _ w s c.in-Some-statement.statement.now caller c.requires next

pub returns : goal.returns
returns c =
    let w = c.args.state.now in
    let i = c.args.at in
    let state = c.in-Some.session.now in
    let doing = c.in_ok-respond.field-0 in
    let is : option_map session_of (Some state) ≡ option_map unmarked (slice_get w.sessions i) = sym (ap (λ o. option_map session_of (option_copied o)) c.in-Some.is) ∙ c.session.ensures in
    let found = session_there (slice_get w.sessions i) state is in
    let s : Session = found.0 in
    let caller = caller_in _ w s found.1 found.2 c.states.ensures c.locks.ensures (sym c.database.ensures) (sym c.moment.ensures) (sym c.slot_sent.ensures) in
    let number : s.next ≡ state.next = ap (λ t. t.next) (sym found.2) in
    let statement = c.in-Some-statement.statement.now in
    let next : next_statement w i s ≡ Some statement = ap (statement_of (slice_get w.scripts i)) number ∙ sym c.statement.ensures ∙ ap option_copied c.in-Some-statement.is in
    some_of (λ t. IsNext w i t (Some doing)) (slice_get w.sessions i) s found.1
    (next_means _ w s statement doing caller c.requires next (c.in_ok-respond.ensures.means w s caller) c.in_ok-respond.ensures.free)
