use Rattle.std.proofs.Common.{◌≡◌}
use Rattle.std.specs.Prelude.{Some, Vec, ℕ}
use Rattle.std.specs.declared.alloc.Global.{Global}
use Rattle.aq_disk.specs.Kept.{image_after, up_to}
use Rattle.aq_disk.specs.declared.kept.Fill.TheVariants.{New}
use Rattle.aq_disk.proofs.Calls.{image_read, if_ok_more}
use Rattle.aq_disk.proofs.memory.MemoryDisk.image.Goals as goal

pub returns-clause-read : goal.returns-clause-read
returns-clause-read c =
    let disk = c.args.self.now in
    let P : Vec ℕ Global → Type 0 = λ image. image.items ≡ image_after c.args.fill disk.held.start.items (up_to c.args.call disk.held.kept.items) in
    let Q : Vec ℕ Global → Type 0 = λ image. c.args.fill ≡ New → c.args.call ≡ disk.counts.calls → Some disk.held.bytes.items ≡ Some image.items in
    if_ok_more c.image.result P Q (λ image is. image_read disk.held disk.counts.calls c.args.call c.args.fill image.items disk.numbered is) c.image.ensures.bytes
