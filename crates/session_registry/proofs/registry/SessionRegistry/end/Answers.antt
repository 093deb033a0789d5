use Rattle.std.proofs.Common.{[], false, refl, ap, ◌∙◌}
use Rattle.queue_rows.specs.Session.{Session}
use Rattle.session_registry.specs.Sessions.{changed_at}
use Rattle.session_registry.proofs.ShownSessions.{session_changes, changed_twice}
use Rattle.session_registry.proofs.registry.SessionRegistry.end.Goals as goal

pub returns : goal.returns
returns c =
    let f = λ (s : Session). record s { marks = [] } in
    let g = λ (s : Session). record s { pending = []; live = false } in
    session_changes g c.self.inside.locks c.self.inside.sessions c.end.new.self c.args.at c.release_all.new.self c.self.view_is (λ s. refl) c.end.ensures
    ∙ ap (changed_at c.args.at g) c.release_all.ensures
    ∙ changed_twice f g c.args.self.now.sessions c.args.at
