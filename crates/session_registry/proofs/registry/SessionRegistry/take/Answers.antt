use Rattle.std.proofs.Common.{◌≡◌, ◌<◌, List, Some, None, sym, subst, ap, ◌∙◌, option_map}
use Rattle.std.specs.Prelude.{option_copied, slice_get, IfSome}
use Rattle.slot_marks.specs.declared.mark.Mark.{Mark}
use Rattle.slot_marks.specs.Marks.{taken, SessionMarks, spare_of, IsFreeFor}
use Rattle.queue_rows.specs.Session.{Session}
use Rattle.session_registry.specs.Locks.{locks_at, shown}
use Rattle.session_registry.specs.Sessions.{session_of, HasRoom, with_mark}
use Rattle.queue_rows.specs.Session.{AreMarks}
use Rattle.session_registry.proofs.Results.{of_some}
use Rattle.session_registry.proofs.ShownSessions.{marks_change, of-shown, marks_stand, nothing_changes}
use Rattle.session_registry.proofs.registry.SessionRegistry.take.Goals as goal

pub take-requires-clause-room : goal.take-requires-clause-room
take-requires-clause-room c =
    let l = c.self.inside.locks in
    let there : slice_get c.self.inside.sessions c.args.at ≡ Some (session_of c.in-Some.session.now) = sym c.get.ensures ∙ ap (λ o. option_map session_of (option_copied o)) c.in-Some.is in
    let P : Session → Type 0 = λ s. 0 < spare_of (locks_at s.at l) c.args.at in
    let room : IfSome (slice_get c.self.inside.sessions c.args.at) P = of-shown P l c.self.inside.sessions c.args.at (subst (HasRoom c.args.at) (sym c.self.view_is) c.requires.room) in
    of_some P (slice_get c.self.inside.sessions c.args.at) (session_of c.in-Some.session.now) there room

pub take-requires-clause-free : goal.take-requires-clause-free
take-requires-clause-free c =
    let l = c.self.inside.locks in
    let ss = c.self.inside.sessions in
    let there : slice_get ss c.args.at ≡ Some (session_of c.in-Some.session.now) = sym c.get.ensures ∙ ap (λ o. option_map session_of (option_copied o)) c.in-Some.is in
    let P : Session → Type 0 = λ s. (locks : List SessionMarks) → AreMarks s.at (shown l ss) locks → IsFreeFor locks c.args.at c.args.mark in
    let free : IfSome (slice_get ss c.args.at) P =
    of-shown P l ss c.args.at (subst (λ v. IfSome (slice_get v.sessions c.args.at) (λ s. (locks : List SessionMarks) → AreMarks s.at v.sessions locks → IsFreeFor locks c.args.at c.args.mark)) (sym c.self.view_is) c.requires.free) in
    of_some P (slice_get ss c.args.at) (session_of c.in-Some.session.now) there free (locks_at c.in-Some.session.now.at l) (marks_stand c.in-Some.session.now.at l ss c.self.invariant)

pub returns-in-Some : goal.returns-in-Some
returns-in-Some c =
    let l = c.self.inside.locks in
    let there : slice_get c.self.inside.sessions c.args.at ≡ Some (session_of c.in-Some.session.now) = sym c.get.ensures ∙ ap (λ o. option_map session_of (option_copied o)) c.in-Some.is in
    let g : List Mark → List Mark = λ marks. taken marks c.args.mark in
    let changes = c.take.ensures in
    marks_change g l c.take.new.self c.self.inside.sessions (session_of c.in-Some.session.now) c.args.at c.args.self.now c.self.view_is there changes

pub returns-in_default : goal.returns-in_default
returns-in_default c =
    let none : slice_get c.self.inside.sessions c.args.at ≡ None = sym c.get.ensures ∙ ap (λ o. option_map session_of (option_copied o)) c.in_default.is in
    nothing_changes (with_mark c.args.mark) c.self.inside.locks c.self.inside.sessions c.args.at c.args.self.now c.self.view_is none
