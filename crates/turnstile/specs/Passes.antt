-- What a caller knows of a turnstile, a pass and a turn.
use Rattle.std.specs.Prelude.{◌≡◌, ◌≢◌, ℕ, List, [], ◌∷◌, ◌++◌, length, drop, Contains, Bool, Option, Some, None, IsSome, true, false}
use mathlib.Core.List.{IsPrefix}
use Rattle.atomic_table.specs.Seated.{TableId}
use Rattle.turnstile.specs.declared.lock.Turnstile.{Turnstile}
use Rattle.turnstile.specs.declared.pass.Pass.{Pass}
use Rattle.turnstile.specs.declared.rule.View.{View}
use Rattle.turnstile.specs.Entries.{entries_by, AllBy, longer}

-- what a pass knows: its number, whether it is the first, the opening given at the start, the entries that it has seen and its own.
-- The first knows also the numbers that it has made, and each joined number with its entries
pub record Known (O E : Type 0) : Type 0 where
  pub actor : ℕ
  pub first : Bool
  pub opening : Option O
  pub seen : List E
  pub own : List E
  pub made : List ℕ
  pub joined : List (ℕ × List E)

module _ {O E : Type 0} where
  abbrev pub known_of : View O E → Known O E
  known_of v = record { actor = v.actor; first = v.first; opening = v.opening; seen = v.seen; own = v.own; made = v.made; joined = v.joined }

  -- the first pass at the start
  abbrev pub first_known : ℕ → O → Known O E
  first_known a start = record { actor = a; first = true; opening = Some start; seen = []; own = []; made = []; joined = [] }

  -- the first pass, which has made one number more
  abbrev pub has_made : Known O E → ℕ → Known O E
  has_made k a = record k { made = k.made ++ a ∷ [] }

  -- a new pass with this number has seen what the first has, and has no entry of its own
  abbrev pub new_known : Known O E → ℕ → Known O E
  new_known k a = record { actor = a; first = false; opening = k.opening; seen = k.seen; own = []; made = []; joined = [] }

  -- in its turn a pass has seen the entries of the value
  abbrev pub in_turn : Known O E → List E → Known O E
  in_turn k log = record k { seen = log }

  -- after its turn a pass has seen all entries of the value, and those behind the ones seen before are its own
  abbrev pub after_turn : Known O E → List E → Known O E
  after_turn k log = record k { seen = log; own = k.own ++ drop (length k.seen) log }

  -- the first pass knows the other's number and own entries as joined, and has seen the longer of the two lists
  abbrev pub has_joined : Known O E → Known O E → Known O E
  has_joined k other = record k { seen = longer k.seen other.seen; joined = k.joined ++ (other.actor, other.own) ∷ [] }

  -- the number was joined
  abbrev pub IsJoined : Known O E → ℕ → Type 0
  IsJoined k n = (own : List E) × Contains k.joined (n, own)

  -- each number that was made was joined
  abbrev pub AllJoined : Known O E → Type 0
  AllJoined k = (n : ℕ) → Contains k.made n → IsJoined k n

module _ {W O E : Type 0} where
  -- which turnstile it is
  abbrev pub turnstile_id : Turnstile W O E → TableId
  turnstile_id t = t.table.shared.table_id

  -- what the pass knows
  abbrev pub known : Pass W O E → Known O E
  known p = known_of p.seat.me.0

  -- the pass is of this turnstile, and has no turn
  pub record IsPassOf (t : Turnstile W O E) (p : Pass W O E) : Type 0 where
    pub table : p.seat.table_id ≡ turnstile_id t
    pub idle : p.seat.me.1 ≡ []
    pub live : IsSome p.seat.me.0.opening
    pub waits : p.seat.me.0.holds ≡ false

  -- the pass is of this turnstile, and has the turn with the value
  pub record IsTurnOf (t : Turnstile W O E) (p : Pass W O E) : Type 0 where
    pub table : p.seat.table_id ≡ turnstile_id t
    pub out : p.seat.me.1 ≡ (0, None) ∷ []
    pub live : IsSome p.seat.me.0.opening
    pub holds : p.seat.me.0.holds ≡ true
    pub away : p.seat.me.0.out ≡ true

  module _ (opens : W → O) (lists : W → List E) (actor : E → ℕ) where
    -- the value that a pass finds has the opening given at the start, its entries begin with all that the pass has seen, and those of its actor are its own
    pub record Continues (k : Known O E) (x : W) : Type 0 where
      pub opening : k.opening ≡ Some (opens x)
      pub seen : IsPrefix k.seen (lists x)
      pub own : k.own ≡ entries_by actor k.actor (lists x)

    -- the value kept its opening, and grew by entries of this pass's actor alone
    pub record Grew (k : Known O E) (x : W) : Type 0 where
      pub opening : k.opening ≡ Some (opens x)
      pub new : List E
      pub grown : lists x ≡ k.seen ++ new
      pub made : AllBy actor k.actor new

    -- the closed value has the opening given at the start, and its entries begin with all that the first pass has seen.
    -- By actor they are the first pass's own and each joined pass's own, and nobody else has any
    pub record Closes (k : Known O E) (x : W) : Type 0 where
      pub opening : k.opening ≡ Some (opens x)
      pub seen : IsPrefix k.seen (lists x)
      pub own : entries_by actor k.actor (lists x) ≡ k.own
      pub joined : (n : ℕ) (own : List E) → Contains k.joined (n, own) → entries_by actor n (lists x) ≡ own
      pub nobody_else : (a : ℕ) → a ≢ k.actor → ¬ IsJoined k a → entries_by actor a (lists x) ≡ []
