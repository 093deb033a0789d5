use Rattle.std.proofs.Common.{◌≡◌, List, Some, None, sym, ap, ◌∙◌, option_map}
use Rattle.std.specs.Prelude.{option_copied, slice_get}
use Rattle.slot_marks.specs.declared.mark.Mark.{Mark}
use Rattle.slot_marks.specs.Marks.{released}
use Rattle.session_registry.proofs.ShownSessions.{marks_change, nothing_changes}
use Rattle.session_registry.specs.Sessions.{session_of, with_released}
use Rattle.session_registry.proofs.registry.SessionRegistry.release.Goals as goal

pub returns-in-Some : goal.returns-in-Some
returns-in-Some c =
    let l = c.self.inside.locks in
    let there : slice_get c.self.inside.sessions c.args.at ≡ Some (session_of c.in-Some.session.now) = sym c.get.ensures ∙ ap (λ o. option_map session_of (option_copied o)) c.in-Some.is in
    let g : List Mark → List Mark = λ marks. released marks c.args.id c.args.slot in
    let changes = c.release_one.ensures in
    marks_change g l c.release_one.new.self c.self.inside.sessions (session_of c.in-Some.session.now) c.args.at c.args.self.now c.self.view_is there changes

pub returns-in_default : goal.returns-in_default
returns-in_default c =
    let none : slice_get c.self.inside.sessions c.args.at ≡ None = sym c.get.ensures ∙ ap (λ o. option_map session_of (option_copied o)) c.in_default.is in
    nothing_changes (with_released c.args.id c.args.slot) c.self.inside.locks c.self.inside.sessions c.args.at c.args.self.now c.self.view_is none
