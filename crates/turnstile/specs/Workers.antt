-- Workers that add to one list, and the first pass that made theirs.
use Rattle.std.specs.Prelude.{◌≡◌, ℕ, ◌<◌, ◌⊎◌, List, [], length, Contains, slice_index_or, Bool, true, false}
use Rattle.turnstile.specs.declared.lock.Turnstile.{Turnstile}
use Rattle.turnstile.specs.declared.number_log.NumberLog.{NumberLog}
use Rattle.turnstile.specs.declared.number_log.workers.Worker.{Worker}
use Rattle.turnstile.specs.Passes.{Known, known, IsPassOf, IsJoined}
use Rattle.turnstile.specs.Counting.{Pair, numbered}

abbrev pub Gate : Type 0
Gate = Turnstile NumberLog ℕ Pair

abbrev pub Knows : Type 0
Knows = Known ℕ Pair

-- the worker's pass is of this turnstile and has its number
pub record IsWorker (t : Gate) (w : Worker) : Type 0 where
  pub pass : IsPassOf t w.pass
  pub actor : (known w.pass).actor ≡ w.actor
  pub first : (known w.pass).first ≡ false

-- it has added nothing
abbrev pub IsFresh : Gate → Worker → Type 0
IsFresh t w = IsWorker t w × ((known w.pass).own ≡ [])

-- once it is done it has added its numbers below n
abbrev pub IsBack : Gate → ℕ → Worker → Type 0
IsBack t n w = IsWorker t w × (w.done ≡ true → (known w.pass).own ≡ numbered w.actor n)

-- the fact holds of each place and the worker there
abbrev pub EachAt : (ℕ → Worker → Type 0) → List Worker → Type 0
EachAt P ws = (k : ℕ) (d : Worker) → k < length ws → P k (slice_index_or ws k d)

-- the workers are numbered by their places, and have added nothing
abbrev pub AreFresh : Gate → List Worker → Type 0
AreFresh t ws = EachAt (λ k w. IsFresh t w × (w.actor ≡ k)) ws

-- the workers are numbered by their places, and each that is done has added its numbers below n
abbrev pub AreBack : Gate → ℕ → List Worker → Type 0
AreBack t n ws = EachAt (λ k w. IsBack t n w × (w.actor ≡ k)) ws

-- the first pass has a number above those of the workers, which it has made, and has added nothing
pub record Leads (actors : ℕ) (k : Knows) : Type 0 where
  pub first : k.first ≡ true
  pub actor : k.actor ≡ actors
  pub own : k.own ≡ []
  pub made : (a : ℕ) → a < actors → Contains k.made a

-- each number that was made was joined, or is that of one of the first m workers
abbrev pub IsManned : Knows → ℕ → Type 0
IsManned k m = (a : ℕ) → Contains k.made a → IsJoined k a ⊎ (a < m)

-- the joined numbers are workers', and if all were done each joined one has added its numbers below n
abbrev pub AreCounted : ℕ → ℕ → Bool → Knows → Type 0
AreCounted actors n done k = (a : ℕ) (own : List Pair) → Contains k.joined (a, own) → (a < actors) × (done ≡ true → own ≡ numbered a n)
