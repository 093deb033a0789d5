use Rattle.std.proofs.Common.{◌≡◌, filter}
use Rattle.std.specs.Prelude.{slice_get}
use Rattle.std.specs.Str.{bytes_eq}
use Rattle.named_list.proofs.list.nth_by_walk.Given as goal

abbrev pub invariant-loop-item : goal.invariant-loop-item
invariant-loop-item g l =
    slice_get (filter (λ item. bytes_eq (g.T.Named.name_of item) l.name) l.item-iterator) l.left
    ≡ slice_get (filter (λ item. bytes_eq (g.T.Named.name_of item) l.name) l.items) l.number
