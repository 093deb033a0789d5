use Rattle.std.proofs.Common.{◌≡◌, ◌<◌, ◌+◌, ◌^◌, ℕ, List, Option, option_copied, ap, arith, subst}
use Rattle.sort_index.specs.EditLaws.{none_taken}
use Rattle.sort_index.specs.Ready.{EditsRows, ReadyRows, is_of, rows_of, set_row, with_row}
use Rattle.sort_index.specs.declared.group.Group.{Group}
use Rattle.sort_index.proofs.Changed.{fit_found}
use Rattle.sort_index.proofs.Groups.{edits_alike}
use Rattle.sort_index.proofs.index.ReadyIndex.put.Goals as goal

pub set_there-requires : goal.set_there-requires
set_there-requires c =
    let inv = c.self.invariant in
    let below : c.self.inside.puts + 1 < 2 ^ 64 = omega (arith, c.take.ensures, inv.2) in
    fit_found c.self.inside.puts (2 ^ 64) (is_of c.args.queue (option_copied c.as_ref.result)) below c.self.inside.groups inv.3

pub invariant_of-self : goal.invariant_of-self
invariant_of-self c =
    let inv = c.self.invariant in
    let n = c.self.inside.puts in
    let some : 0 < n + 1 = omega arith in (
      omega (arith, c.take.ensures, c.take-spare.ensures, inv.0),
      omega (arith, c.take-spare.ensures, c.set_there.ensures.len, c.add_group.ensures.len, inv.1),
      omega (arith, c.take.ensures, inv.2),
      c.add_group.ensures.fit (n + 1) (c.set_there.ensures.fit n inv.3) some,
    )

pub invariant_of-self-in-Ok-1 : goal.invariant_of-self-in-Ok-1
invariant_of-self-in-Ok-1 c =
    let inv = c.self.invariant in
    (omega (arith, c.take.ensures, inv.0), omega (arith, c.set_there.ensures.len, inv.1), omega (arith, c.take.ensures, inv.2), c.set_there.ensures.fit c.self.inside.puts inv.3)

pub returns-in_default-clause-rows : goal.returns-in_default-clause-rows
returns-in_default-clause-rows c =
    let place = c.args.place in
    let id = c.args.id in
    let slot = c.args.slot in
    let gs = c.args.self.now.groups in
    let same = ap (with_row place id slot) (none_taken place id (rows_of c.args.queue c.args.consumer gs) c.requires.free) in
    let now : c.self.inside.groups ≡ gs = ap (λ (r : ReadyRows). r.groups) c.self.view_is in
    let edits = subst (λ (before : List Group). EditsRows c.args.queue (option_copied c.as_ref.result) (set_row place id slot) before c.set_there.new.groups) now c.in_default.ensures.rows in
    edits_alike c.args.queue c.args.consumer (set_row place id slot) (with_row place id slot) gs c.set_there.new.groups same
    (subst (λ (name : Option (List ℕ)). EditsRows c.args.queue name (set_row place id slot) gs c.set_there.new.groups) c.as_ref.ensures.value edits)
