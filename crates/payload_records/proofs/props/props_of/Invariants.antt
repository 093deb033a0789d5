use Rattle.std.proofs.Common.{◌≡◌, ◌++◌}
use Rattle.std.specs.List.{list_all, filter_map}
use Rattle.payload_records.specs.Props.{is_prop_member, prop_of}
use Rattle.payload_records.proofs.props.props_of.Given as goal

abbrev pub invariant-loop-member : goal.invariant-loop-member
invariant-loop-member l = record {
  right : list_all is_prop_member l.member-iterator ≡ list_all is_prop_member l.members;
  found : l.props ++ filter_map prop_of l.member-iterator ≡ filter_map prop_of l.members;
}
