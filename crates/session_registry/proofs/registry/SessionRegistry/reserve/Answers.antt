use Rattle.std.proofs.Common.{◌≡◌, ◌<◌, Some, None, ap, sym, subst, ◌∙◌, option_map}
use Rattle.std.specs.Prelude.{option_copied, slice_get}
use Rattle.slot_marks.specs.Marks.{spare_of}
use Rattle.queue_rows.specs.Session.{Session}
use Rattle.session_registry.specs.Locks.{locks_at}
use Rattle.session_registry.specs.Sessions.{session_of, HasRoom}
use Rattle.session_registry.proofs.Results.{ok_from, some_of}
use Rattle.session_registry.proofs.ShownSessions.{kept-shown, if-shown}
use Rattle.session_registry.proofs.registry.SessionRegistry.reserve.Goals as goal

pub returns-in_default-clause-room : goal.returns-in_default-clause-room
returns-in_default-clause-room c =
    let l = c.self.inside.locks in
    let none : slice_get c.self.inside.sessions c.args.at ≡ None = sym c.get.ensures ∙ ap (λ o. option_map session_of (option_copied o)) c.in_default.is in
    let P : Session → Type 0 = λ s. 0 < spare_of (locks_at s.at l) c.args.at in
    subst (HasRoom c.args.at) c.self.view_is (if-shown P l c.self.inside.sessions c.args.at (rw none tt))

pub returns-clause-sessions : goal.returns-clause-sessions
returns-clause-sessions c = kept-shown c.self.inside.locks c.reserve.new.self c.self.inside.sessions c.reserve.ensures.marks ∙ ap (λ v. v.sessions) c.self.view_is

pub returns-clause-room : goal.returns-clause-room
returns-clause-room c =
    let k = c.reserve.new.self in
    let ss = c.self.inside.sessions in
    let there : slice_get ss c.args.at ≡ Some (session_of c.in-Some.session.now) = sym c.get.ensures ∙ ap (λ o. option_map session_of (option_copied o)) c.in-Some.is in
    let P : Session → Type 0 = λ s. 0 < spare_of (locks_at s.at k) c.args.at in
    ok_from c.reserve.result c.reserve.ensures.room (λ room.
    if-shown P k ss c.args.at (some_of P (slice_get ss c.args.at) (session_of c.in-Some.session.now) there room))
