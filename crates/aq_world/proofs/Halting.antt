-- What is left of a turn behind a failure of a disk.
use Rattle.std.proofs.Common.{◌≡◌, inl, ℕ, true, false, refl, sym, ap, subst, ◌∙◌}
use Rattle.queue_rows.specs.Order.{IsFront}
use Rattle.queue_rows.specs.World.{World, read_clock}
use Rattle.run_turns.proofs.Growing.{front_same}
use Rattle.aq_world.specs.Turning.{IsBrokenOff, IsPartDrained, IsUnclosed, reads_clock, turned}
use Rattle.aq_world.proofs.Fronts.{turned_grows}
use Rattle.aq_world.proofs.Turning.{none_drained, undone_broken, untold_broken}

-- ---- a reading alone

pub reading_broken : (actor reading : ℕ) (w new : World) → reads_clock actor w ≡ true → new ≡ read_clock reading w → IsBrokenOff actor reading w new
reading_broken actor reading w new reads e = undone_broken actor reading w new reads (inl e)

entries_read : (reading : ℕ) (w : World) → (read_clock reading w).entries ≡ w.entries
unfolding read_clock
entries_read reading w = refl

pub reading_front : (actor reading : ℕ) (w new : World) → new ≡ read_clock reading w → IsFront new.entries (turned reading actor w).entries
reading_front actor reading w new e =
    subst (λ es. IsFront es (turned reading actor w).entries) (sym (ap (λ v. v.entries) e ∙ entries_read reading w)) (turned_grows reading actor w)

-- ---- nothing at all

pub resting_broken : (actor reading : ℕ) (w : World) → reads_clock actor w ≡ false → IsBrokenOff actor reading w w
resting_broken actor reading w rests = untold_broken actor reading w w rests (inl refl)

-- ---- the closing turn

pub reading_part : (reading : ℕ) (w new : World) → new ≡ read_clock reading w → IsPartDrained (read_clock reading w) new
reading_part reading w new e = (0, inl (e ∙ none_drained (read_clock reading w)))

pub reading_unclosed : (reading : ℕ) (w new : World) → new ≡ read_clock reading w → IsUnclosed reading w new
reading_unclosed reading w new e = (0, front_same (ap (λ v. v.entries) (sym (e ∙ none_drained (read_clock reading w)))))
