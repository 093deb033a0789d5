-- What turns leave passes on to the turns behind them.
use Rattle.std.proofs.Common.{ℕ, List, Option}
use Rattle.aq_world.specs.Clocked.{Clocked}
use Rattle.aq_world.proofs.OfRun.{of_run-refl, of_run-trans}
use Rattle.aq_world.specs.RunGoing.{goes_same, goes_on}
use Rattle.aq_run.specs.Passing.{Passes}

module _ {D C : Type 0} (seen : D → Option (List ℕ)) (images : D → ℕ → List ℕ → Type 0) (calls faults : D → ℕ) (given : C → Option (List ℕ)) (plan : C → Option (ℕ → ℕ)) where
  pub passes-refl : (v : Clocked D C) → Passes seen images calls faults given plan v v
  passes-refl v = record { run = of_run-refl v.held.world; disks = goes_same seen images calls faults v.held; clock = λ on. on }

  pub passes-trans : (a b c : Clocked D C) → Passes seen images calls faults given plan a b → Passes seen images calls faults given plan b c → Passes seen images calls faults given plan a c
  passes-trans a b c x y = record {
    run = of_run-trans a.held.world b.held.world c.held.world x.run y.run;
    disks = goes_on seen images calls faults a.held b.held c.held x.disks y.disks;
    clock = λ on. y.clock (x.clock on);
  }
