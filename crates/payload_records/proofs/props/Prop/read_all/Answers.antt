use Rattle.std.proofs.Common.{◌≡◌, List, IfOk, IsTrue, Result, Ok, Err, Some, map}
use Rattle.payload_records.specs.Order.{are_ascending}
use Rattle.payload_records.specs.Props.{are_props, props_of}
use Rattle.payload_records.specs.declared.payload.Member.{Member}
use Rattle.payload_records.specs.declared.props.Prop.{Prop}
use Rattle.payload_records.specs.declared.props.PropFault.{PropFault}
use Rattle.payload_records.proofs.PropOrder.{props_are_in_order}
use Rattle.payload_records.proofs.props.Prop.read_all.Goals as goal

if_read : (ms : List Member) (read : Result (List Prop) PropFault) → IsTrue (are_ascending (map (λ m. m.key) ms)) → IfOk read (λ props. props_of ms ≡ Some props) → IfOk read (λ props. IsTrue (are_props props))
if_read ms (Ok props) h e = props_are_in_order ms props h e
if_read ms (Err fault) h e = e

pub returns-in-Members-clause-in_order : goal.returns-in-Members-clause-in_order
returns-in-Members-clause-in_order c = if_read c.in-Members.members c.props_of.result (rw c.in-Members.is at c.in_ok-of.ensures.in_order) c.props_of.ensures.ok
