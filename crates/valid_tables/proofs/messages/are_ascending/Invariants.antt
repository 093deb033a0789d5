use Rattle.std.proofs.Common.{◌≡◌, ◌∷◌, map}
use Rattle.payload_records.specs.Order.{are_ascending}
use Rattle.valid_tables.proofs.messages.are_ascending.Given as goal

abbrev pub invariant-loop-prop : goal.invariant-loop-prop
invariant-loop-prop l = are_ascending (map (λ p. p.name) l.props) ≡ are_ascending (map (λ p. p.name) (l.before ∷ l.prop-iterator))
