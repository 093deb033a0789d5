use Rattle.std.proofs.Common.{rules, ◌≡◌, length, subst, sym}
use Rattle.std.specs.Prelude.{List, ℕ}
use Rattle.aq_disk.specs.Kept.{IsImageAfter, image_after, up_to}
use Rattle.aq_disk.specs.Left.{left_image, up_to_in_place}
use Rattle.aq_disk.proofs.held.Held.image.Goals as goal

pub returns-clause-image : goal.returns-clause-image
returns-clause-image c =
    let kept = c.args.self.now.kept.items in
    let start = c.args.self.now.start.items in
    let is : c.fill_all-2.new.bytes.items ≡ image_after c.args.fill start (up_to c.args.call kept) = search rules in
    subst (λ (l : List ℕ). IsImageAfter start (up_to c.args.call kept) l) (sym is)
    (left_image c.args.fill start (up_to c.args.call kept) (up_to_in_place (length start) c.args.call kept c.args.self.now.placed))
