use Rattle.std.proofs.Common.{sym, ap, ◌∙◌, subst}
use Rattle.named_list.specs.Stamps.{AreBelow, AreRising, TellsStamps, names_in}
use Rattle.named_list.specs.declared.entry.Entry.{Entry}
use Rattle.named_list.proofs.Stamps.{below_removed, names_removed, rises_removed, told_removed}
use Rattle.named_list.proofs.index.NameIndex.remove.Goals as goal

pub invariant_of-self : goal.invariant_of-self
invariant_of-self c =
    let i = c.self.inside in
    let e : Entry = c.remove-entry.result.0 in
    let same = sym c.remove-entry.ensures.rest in (
      subst AreRising same (rises_removed i.entries c.args.at c.self.invariant.0),
      subst (AreBelow i.next) same (below_removed i.next i.entries c.args.at c.self.invariant.1),
      subst (TellsStamps c.forget.new.groups) same (told_removed i.groups c.forget.new.groups i.entries c.args.at e c.self.invariant.0 c.remove-entry.ensures.row c.self.invariant.2 c.forget.ensures),
    )

pub returns : goal.returns
returns c = rw (← c.self.view_is) (ap names_in c.remove-entry.ensures.rest ∙ names_removed c.self.inside.entries c.args.at)
