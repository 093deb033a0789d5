use Rattle.std.proofs.Common.{◌≡◌, ◌+◌, sym, subst, ◌∙◌, rules}
use Rattle.named_list.specs.Stamps.{AreBelow, AreRising, EditsStamps, TellsStamps, with_stamp}
use Rattle.named_list.specs.declared.entry.Entry.{Entry}
use Rattle.named_list.proofs.Stamps.{below_last, rises_last, told_below, told_pushed}
use Rattle.named_list.proofs.index.NameIndex.pushed.Goals as goal

pub note-requires : goal.note-requires
note-requires c = told_below c.in-Ok-copied.key c.index.inside.next c.index.inside.groups c.index.inside.entries c.index.invariant.2 c.index.invariant.1

pub invariant_of-index : goal.invariant_of-index
invariant_of-index c =
    let i = c.index.inside in
    let es = i.entries in
    let e : Entry = record { name = c.in-Ok.own; stamp = i.next } in
    let same = sym c.push.ensures in
    let names : c.in-Ok-copied.key ≡ c.in-Ok.own = c.in-Ok-copied.ensures ∙ sym c.in-Ok.ensures in
    let noted : EditsStamps c.in-Ok-copied.key (with_stamp i.next) i.groups c.note.new.groups = c.if-not-note.ensures (search rules) in
    let edits = subst (λ n. EditsStamps n (with_stamp i.next) i.groups c.note.new.groups) names noted in (
      subst AreRising same (rises_last es e c.index.invariant.0 c.index.invariant.1),
      subst (AreBelow (i.next + 1)) same (below_last es e c.index.invariant.1),
      subst (TellsStamps c.note.new.groups) same (told_pushed i.groups c.note.new.groups es e c.index.invariant.2 c.index.invariant.1 edits),
    )
