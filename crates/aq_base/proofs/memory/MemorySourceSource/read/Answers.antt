use Rattle.std.proofs.Common.{◌≡◌, ◌+◌, ◌-◌, ◌≤◌, length, take, drop, arith, rules, sym, ap, ◌∙◌}
use Rattle.aq_base.proofs.Giving.{consumed, ended, part_length}
use Rattle.aq_base.proofs.memory.MemorySourceSource.read.Goals as goal

pub returns-clause-bytes : goal.returns-clause-bytes
returns-clause-bytes c =
    let bytes = c.self.inside.bytes.items in
    let at = c.self.inside.at in
    let n = c.min-count.result in
    let given = c.copy_from_slice.new.self in
    let left : c.args.self.now.left ≡ drop at bytes = ap (λ s. s.left) (sym c.self.view_is) in
    let in_range : at + n ≤ length bytes = omega (arith, c.self.invariant) in
    let part : given ≡ take (at + n - at) (drop at bytes) = search rules in
    (consumed bytes c.args.self.now.left given c.args.into.now at n left in_range part, ended bytes given c.args.into.now at n (search rules) (ap length part ∙ part_length bytes at n in_range))
