use Rattle.std.specs.Prelude.{◌≡◌}
use Rattle.aq_disk.specs.declared.held.Held.{Held}

-- what is held is the same
pub record SameHeld (old new : Held) : Type 0 where
  pub start : new.start.items ≡ old.start.items
  pub kept : new.kept.items ≡ old.kept.items
  pub bytes : new.bytes.items ≡ old.bytes.items
