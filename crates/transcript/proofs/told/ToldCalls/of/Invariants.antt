use Rattle.std.proofs.Common.{◌≡◌, ℕ, ◌||◌}
use Rattle.transcript.specs.Print.{is_told}
use Rattle.transcript.specs.Told.{has_call}
use Rattle.transcript.proofs.told.ToldCalls.of.Given as goal

abbrev pub invariant-loop-entry : goal.invariant-loop-entry
invariant-loop-entry l =
    (session number : ℕ) → (has_call l.told session number || is_told l.entry-iterator session number) ≡ is_told l.entries session number
