use Rattle.std.proofs.Common.{◌≡◌, ◌++◌, ◌∷◌, [], ◌∙◌, ap, arith}
use Rattle.std.proofs.lemmas.List.{map_push}
use Rattle.std.specs.Prelude.{Vec, ℕ}
use Rattle.std.specs.declared.alloc.Global.{Global}
use Rattle.redo_journal.specs.Journaled.{room_for, bodies_as}
use Rattle.redo_journal.proofs.Room.{room_more}
use Rattle.redo_journal.proofs.journal.Journal.withdraw.Goals as goal

pub overflow_sub-self : goal.overflow_sub-self
overflow_sub-self g c =
    let body = c.in-Some.body in
    let before : bodies_as c.self.inside.queued.items ≡ bodies_as c.pop.new.self.items ++ body.items ∷ [] = ap bodies_as c.in-Some.ensures.items ∙ map_push (λ (v : Vec ℕ Global). v.items) c.pop.new.self.items body in
    omega (arith, ap room_for before, room_more (bodies_as c.pop.new.self.items) body.items, c.self.invariant.needs, c.len.ensures, body.ok)

pub invariant_of-self : goal.invariant_of-self
invariant_of-self g c =
    let body = c.in-Some.body in
    let before : bodies_as c.self.inside.queued.items ≡ bodies_as c.pop.new.self.items ++ body.items ∷ [] = ap bodies_as c.in-Some.ensures.items ∙ map_push (λ (v : Vec ℕ Global). v.items) c.pop.new.self.items body in
    record {
      area = c.self.invariant.area;
      few = c.self.invariant.few;
      needs = omega (arith, ap room_for before, room_more (bodies_as c.pop.new.self.items) body.items, c.self.invariant.needs, c.len.ensures, body.ok);
      room = omega (arith, c.self.invariant.room);
      place = c.self.invariant.place;
    }
