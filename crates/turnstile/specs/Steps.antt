-- What each kind of step tells the seat that makes it.
use Rattle.std.specs.Prelude.{◌≡◌, ◌≢◌, ℕ, List, [], ◌∷◌, Option, Some}
use mathlib.Core.List.{IsPrefix}
use Rattle.atomic_table.specs.Table.{Me, Step}
use Rattle.turnstile.specs.declared.rule.View.{View}
use Rattle.turnstile.specs.Entries.{entries_by}
use Rattle.turnstile.specs.Views.{entered, taken_out, announced, put_in, left, with_longer}

module _ {W O E : Type 0} (opens : W → O) (lists : W → List E) (actor : E → ℕ) where
  -- a view, and the slots that its seat holds
  abbrev Mine : Type 0
  Mine = Me (Option W) (View O E)

  -- the word was free: the turn begins with the list, which begins with what was seen and has the own entries
  pub record HasTurn (m m' : Mine) : Type 0 where
    pub log : List E
    pub view : m' ≡ (entered m.0 log, [])
    pub seen : IsPrefix m.0.seen log
    pub own : m.0.own ≡ entries_by actor m.0.actor log

  -- take, won and lost
  abbrev pub took : Step (Option W) → Mine → ℕ → Mine → Type 0
  took st m r m' = (r ≡ 0 → HasTurn m m') × (r ≢ 0 → m' ≡ m)

  -- the value is out with the seat, with the one opening and the entries that were at home
  pub record HasOut (m m' : Mine) : Type 0 where
    pub value : W
    pub out : m' ≡ (taken_out m.0, (0, Some value) ∷ [])
    pub opening : m.0.opening ≡ Some (opens value)
    pub entries : lists value ≡ m.0.home

  -- value out
  abbrev pub went_out : Step (Option W) → Mine → ℕ → Mine → Type 0
  went_out st m r m' = HasOut m m'

  -- announce, with the value out
  abbrev pub told_home : Step (Option W) → Mine → ℕ → Mine → Type 0
  told_home st m r m' = (x : W) → m.1 ≡ (0, Some x) ∷ [] → m' ≡ (announced m.0 (lists x), m.1)

  -- value in
  abbrev pub came_in : Step (Option W) → Mine → ℕ → Mine → Type 0
  came_in st m r m' = (x : W) → m.1 ≡ (0, Some x) ∷ [] → m' ≡ (put_in m.0, [])

  -- release
  abbrev pub released : Step (Option W) → Mine → ℕ → Mine → Type 0
  released st m r m' = m' ≡ (left m.0, m.1)

  -- the look after a join: each of the two lists begins the longer
  abbrev pub learned : Step (Option W) → Mine → ℕ → Mine → Type 0
  learned st m r m' = (m'.1 ≡ m.1) × (m'.0 ≡ with_longer m.0) × IsPrefix m.0.seen m'.0.seen × IsPrefix m.0.told m'.0.seen
