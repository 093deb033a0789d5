use Rattle.std.proofs.Common.{◌≡◌, zip}
use Rattle.std.specs.List.{list_all}
use Rattle.queue_rows.specs.Propagating.{is_same_field}
use Rattle.propagation.proofs.destination.are_same_fields.Given as goal

abbrev pub invariant-loop-field : goal.invariant-loop-field
invariant-loop-field l =
    list_all (λ pair. is_same_field pair.0 pair.1) (zip l.field-iterator l.others) ≡ list_all (λ pair. is_same_field pair.0 pair.1) (zip l.left l.right)
