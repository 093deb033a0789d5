use Rattle.std.proofs.Common.{◌≡◌, ◌+◌, ◌≤◌, ◌-◌, vec_len}
use Rattle.open_rows.proofs.rooms.Rooms.reserve.Given as goal

abbrev pub invariant-loop : goal.invariant-loop
invariant-loop g l = (vec_len l.self-inside.rooms ≡ vec_len l.initial.self-inside.rooms + l.counter) × (l.counter ≤ l.missing) × (l.missing ≡ l.more - vec_len l.initial.self-inside.rooms)
