-- How rounds end.
use Rattle.std.specs.Prelude.{◌≡◌, ℕ}
use Rattle.queue_rows.specs.World.{World}
use Rattle.queue_rows.specs.Serial.{at_closing, next_closing_turn}
use Rattle.queue_rows.specs.Turns.{DrainsIn}

-- the closing turn drained in some number of steps, until nothing was due and nothing could be sent
abbrev pub IsClosed : World → World → Type 0
IsClosed old new = (steps : ℕ) × DrainsIn (at_closing old) steps × (new ≡ next_closing_turn steps old)
