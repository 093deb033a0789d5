-- A turn whose value was written through a borrow.
use Rattle.turnstile.specs.declared.turn.Turn.{Turn}

abbrev pub with_value : {W O E : Type 0} → Turn W O E → W → Turn W O E
with_value t x = record t { value = x }
