-- What parts of a turn leave of the disks, put together.
use Rattle.std.proofs.Common.{◌≡◌, ℕ, List, Option, Result, refl, ap}
use Rattle.std.specs.Prelude.{Ok, Err, IsErrAnd}
use Rattle.durable_state.proofs.Growing.{adds_none, adds_on}
use Rattle.durable_state.specs.Going.{AddsEntries, Goes, goes_same, goes_on}
use Rattle.durable_state.specs.Held.{Held, HasFailed}
use Rattle.durable_state.specs.declared.broken.Broken.{Broken}
use Rattle.durable_state.specs.declared.broken.Broken.TheVariants.{Halted, Memory}
use Rattle.aq_world.specs.Going.{GoesAs, GoesQuietly}

-- ---- answers that are passed up

-- what wants memory was not halted
pub never_halted : {T P : Type 0} (r : Result T Broken) → IsErrAnd r (λ e. e ≡ Memory) → r ≡ Err Halted → P
never_halted (Ok x) none is = absurd none
never_halted (Err e) memory is = absurd (cc)

-- what is halted was halted before
pub passed_halted : {S T : Type 0} (before : Result S Broken) (why : Broken) (r : Result T Broken) → before ≡ Err why → IsErrAnd r (λ e. e ≡ why) → r ≡ Err Halted → before ≡ Err Halted
passed_halted before why (Ok x) was none is = absurd none
passed_halted before why (Err e) was same is = cc

module _ {D : Type 0} {actor : ℕ} {seen : D → Option (List ℕ)} {images : D → ℕ → List ℕ → Type 0} {calls faults : D → ℕ} where
  -- ---- parts that make no call on a disk

  pub quiet_same : (v : Held D) → GoesQuietly actor seen images calls faults v v
  quiet_same v = record { goes = goes_same seen images calls faults v; adds = adds_none v v refl; fine = λ failed. failed }

  pub quiet_by : (old new : Held D) → Goes seen images calls faults old new → AddsEntries actor old new → (HasFailed new → HasFailed old) → GoesQuietly actor seen images calls faults old new
  quiet_by old new goes adds fine = record { goes = goes; adds = adds; fine = fine }

  pub quiet_on : (a b c : Held D) → GoesQuietly actor seen images calls faults a b → GoesQuietly actor seen images calls faults b c → GoesQuietly actor seen images calls faults a c
  quiet_on a b c first second = record { goes = goes_on seen images calls faults a b c first.goes second.goes; adds = adds_on a b c first.adds second.adds; fine = λ failed. first.fine (second.fine failed) }

  -- ---- parts that may be halted

  pub as_on : {T : Type 0} (r : Result T Broken) (a b c : Held D) → GoesQuietly actor seen images calls faults a b → GoesAs actor seen images calls faults r b c → GoesAs actor seen images calls faults r a c
  as_on r a b c first second = record { goes = goes_on seen images calls faults a b c first.goes second.goes; adds = adds_on a b c first.adds second.adds; halted = second.halted; fine = λ other failed. first.fine (second.fine other failed) }

  -- what was not halted went quietly
  pub as_ok : {T : Type 0} (x : T) (old new : Held D) → GoesQuietly actor seen images calls faults old new → GoesAs actor seen images calls faults (Ok x) old new
  as_ok x old new quiet = record { goes = quiet.goes; adds = quiet.adds; halted = λ e. absurd (cc); fine = λ other failed. quiet.fine failed }

  pub quiet_ok : {T : Type 0} (r : Result T Broken) (x : T) (old new : Held D) → r ≡ Ok x → GoesAs actor seen images calls faults r old new → GoesQuietly actor seen images calls faults old new
  quiet_ok r x old new is step = record { goes = step.goes; adds = step.adds; fine = λ failed. step.fine (λ e. absurd (cc)) failed }

  -- at want of memory
  pub as_memory : {T : Type 0} (r : Result T Broken) (old new : Held D) → IsErrAnd r (λ e. e ≡ Memory) → GoesQuietly actor seen images calls faults old new → GoesAs actor seen images calls faults r old new
  as_memory (Ok x) old new none quiet = absurd none
  as_memory (Err e) old new is quiet = record { goes = quiet.goes; adds = quiet.adds; halted = λ h. absurd (cc); fine = λ other failed. quiet.fine failed }

  -- an error that is passed up
  pub as_passed : {S T : Type 0} (before : Result S Broken) (why : Broken) (r : Result T Broken) (old new : Held D) → before ≡ Err why → IsErrAnd r (λ e. e ≡ why) → GoesAs actor seen images calls faults before old new
      → GoesAs actor seen images calls faults r old new
  as_passed before why (Ok x) old new was none step = absurd none
  as_passed before why (Err e) old new was is step = record {
    goes = step.goes;
    adds = step.adds;
    halted = λ h. let same : before ≡ Err Halted = cc in step.halted same;
    fine = λ other failed. step.fine (λ h. other (cc)) failed;
  }

  -- a call on a disk failed, which is told
  pub as_failed : {T : Type 0} (r : Result T Broken) (old new : Held D) → IsErrAnd r (λ e. e ≡ Halted) → Goes seen images calls faults old new → AddsEntries actor old new → HasFailed new → GoesAs actor seen images calls faults r old new
  as_failed (Ok x) old new none goes adds failed = absurd none
  as_failed (Err e) old new is goes adds failed = record { goes = goes; adds = adds; halted = λ _. failed; fine = λ other _. absurd (other (ap Err is)) }
