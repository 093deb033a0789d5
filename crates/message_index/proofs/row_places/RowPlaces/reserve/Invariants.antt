use Rattle.std.proofs.Common.{◌≡◌, ◌+◌, ◌≤◌, ◌-◌, vec_len}
use Rattle.message_index.proofs.row_places.RowPlaces.reserve.Given as goal

abbrev pub invariant-loop : goal.invariant-loop
invariant-loop g l = (l.fn.self ≤ vec_len l.self-inside.spares) × (vec_len l.self-inside.spares ≡ vec_len l.initial.self-inside.spares + l.counter) × (l.counter ≤ l.missing) × (l.missing ≡ l.rows - vec_len l.initial.self-inside.spares)
