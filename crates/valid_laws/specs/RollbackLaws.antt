-- The laws of what a rollback commits.
use Rattle.std.specs.Prelude.{◌≡◌, ◌≤◌, ◌==◌, ◌&&◌, ◌^◌, ℕ, List, [], ◌∷◌, true, false, Option, All, AllPairs}
use Rattle.aq_base.specs.declared.limits.TheConstants.{MOMENT_LIMIT}
use Rattle.queue_rows.specs.Tables.{after_all}
use Rattle.queue_rows.specs.Transactions.{rollback_of}
use Rattle.queue_rows.specs.Valid.{is_valid}
use Rattle.queue_rows.specs.Fits.{fits, all_name_what_is_there}
use Rattle.queue_rows.specs.declared.tables.Tables.{Tables}
use Rattle.queue_rows.specs.declared.session.Pending.{Pending}
use Rattle.queue_rows.specs.declared.session.Pending.TheVariants.{Add, Remove}
use Rattle.queue_rows.specs.declared.change.Change.TheVariants.{Retried, Expired}
use Rattle.valid_laws.specs.Openness.{is_open_at}
use Rattle.valid_laws.specs.ValidLaws.{ChangesUnmoved}

-- A slot that was rolled back once too often is retried and expires at once. Between the two the tables need not be valid, since its
-- queue does not allow so many retries; after both they are.
abbrev pub GivingUpKeepsValid : Type 0
GivingUpKeepsValid = (t : Tables) (id slot retries : ℕ) (until : Option ℕ) (at : ℕ) → is_valid t ≡ true
    → ChangesUnmoved t id slot at → retries ≤ 2 ^ 31
    → (is_valid (after_all t (Retried id slot retries until at ∷ Expired id slot at ∷ [])) ≡ true)
    × (all_name_what_is_there t (Retried id slot retries until at ∷ Expired id slot at ∷ []) ≡ true)

-- a removal is of a slot that can still be taken
abbrev pub IsRemovalOpen : Tables → Pending → Type 0
IsRemovalOpen t (Add m) = Unit {0}
IsRemovalOpen t (Remove id slot) = is_open_at t id slot ≡ true

-- no slot is removed twice
abbrev pub AreOther : Pending → Pending → Type 0
AreOther (Remove id slot) (Remove other behind) = ((id == other) && (slot == behind)) ≡ false
AreOther (Remove id slot) (Add a) = Unit {0}
AreOther (Add a) later = Unit {0}

pub record MayRollBack (t : Tables) (pending : List Pending) : Type 0 where
  pub open_all : All (IsRemovalOpen t) pending
  pub other : AllPairs AreOther pending

-- what may be rolled back fits, with what it settles
abbrev pub RollbackFits : Type 0
RollbackFits = (t : Tables) (moment : ℕ) (pending : List Pending) → is_valid t ≡ true → t.latest ≤ moment → moment ≤ MOMENT_LIMIT
    → MayRollBack t pending → fits t (record { moment = moment; changes = rollback_of t moment pending }) ≡ true
