-- What holds of the word, the slot and all views between any two steps.
use Rattle.std.specs.Prelude.{◌≡◌, ◌≢◌, ℕ, ◌⊎◌, ◌<◌, List, [], ◌++◌, length, Contains, slice_index, true, false, Option, Some, IsSome}
use mathlib.Core.List.{IsPrefix}
use mathlib.Core.Option.{some}
use mathlib.Core.Option as opt
use lib.ListN.{get_elem?}
use Rattle.atomic_table.specs.Table.{State}
use Rattle.turnstile.specs.declared.rule.View.{View}
use Rattle.turnstile.specs.Entries.{entries_by, AllBy}
use Rattle.turnstile.specs.Views.{HasJoined}

-- the numbers that the first pass made are distinct, and differ from its own
pub record AreNumbers (own : ℕ) (made : List ℕ) : Type 0 where
  pub distinct : (i j : ℕ) → i < j → j < length made → slice_index made i ≢ slice_index made j
  pub apart : ¬ Contains made own

module _ {W O E : Type 0} (opens : W → O) (lists : W → List E) (actor : E → ℕ) (start : O) where
  -- the view is not spent: its pass was not joined
  abbrev pub IsLive : View O E → Type 0
  IsLive v = IsSome v.opening

  -- the seat has this view, which is not spent
  abbrev pub Sits : List (View O E) → ℕ → View O E → Type 0
  Sits views j v = (get_elem? views j ≡ some v) × IsLive v

  -- the view has the one opening, the list begins with what it has seen, and its own entries are all that the list has of its number
  pub record Fits (log : List E) (v : View O E) : Type 0 where
    pub opening : v.opening ≡ Some start
    pub seen : IsPrefix v.seen log
    pub told : IsPrefix v.told log
    pub own : v.own ≡ entries_by actor v.actor log

  -- a view other than the first has a number that the first has made and not joined
  pub record IsOther (chief v : View O E) : Type 0 where
    pub first : v.first ≡ false
    pub made : Contains chief.made v.actor
    pub new : ¬ HasJoined chief v.actor
    pub apart : v.actor ≢ chief.actor

  -- one view is the first, no two carry one number, and the list has the entries of their numbers and of the joined ones alone
  pub record Roster (log : List E) (seat : ℕ) (chief : View O E) (views : List (View O E)) : Type 0 where
    pub sits : Sits views seat chief
    pub first : chief.first ≡ true
    pub numbers : AreNumbers chief.actor chief.made
    pub fits : (j : ℕ) (v : View O E) → Sits views j v → Fits log v
    pub others : (j : ℕ) (v : View O E) → j ≢ seat → Sits views j v → IsOther chief v
    pub distinct : (i j : ℕ) (v w : View O E) → i ≢ j → Sits views i v → Sits views j w → v.actor ≢ w.actor
    pub joined : (n : ℕ) (own : List E) → Contains chief.joined (n, own) → (own ≡ entries_by actor n log) × (n ≢ chief.actor) × Contains chief.made n
    pub nobody_else : (a : ℕ) → a ≢ chief.actor → ¬ Contains chief.made a → entries_by actor a log ≡ []

  -- the slot has a value with the one opening and these entries
  pub record IsHome (homes : List (opt.Option (Option W))) (log : List E) : Type 0 where
    pub value : W
    pub home : get_elem? homes 0 ≡ some (some (Some value))
    pub opening : opens value ≡ start
    pub entries : lists value ≡ log

  -- while the word is free, no view is the holder, and the value is at home with the list
  pub record IsFree (log : List E) (homes : List (opt.Option (Option W))) (views : List (View O E)) : Type 0 where
    pub at_home : IsHome homes log
    pub nobody : (j : ℕ) (v : View O E) → Sits views j v → v.holds ≡ false

  -- this seat alone has the turn. It has seen the list. A value that is at home has the list and then entries of its own
  pub record HoldsTurn (log : List E) (homes : List (opt.Option (Option W))) (views : List (View O E)) (id : ℕ) (v : View O E) : Type 0 where
    pub seen : v.seen ≡ log
    pub at_home : v.out ≡ false → IsHome homes v.home
    pub new : List E
    pub grown : v.home ≡ log ++ new
    pub made : AllBy actor v.actor new
    pub others : (j : ℕ) (u : View O E) → j ≢ id → Sits views j u → u.holds ≡ false

  -- while the word is taken, one view is the holder
  pub record IsTaken (log : List E) (homes : List (opt.Option (Option W))) (views : List (View O E)) : Type 0 where
    pub holder : ℕ
    pub view : View O E
    pub sits : Sits views holder view
    pub holds : view.holds ≡ true
    pub turn : HoldsTurn log homes views holder view

  -- the rule. The log is the list at the last release, and the word is 0 while it is free and 1 while it is taken
  pub record Kept (s : State (Option W) (View O E)) : Type 0 where
    pub log : List E
    pub seat : ℕ
    pub chief : View O E
    pub one_word : length s.words ≡ 1
    pub roster : Roster log seat chief s.views
    pub turn : ((slice_index s.words 0 ≡ 0) × IsFree log s.homes s.views) ⊎ ((slice_index s.words 0 ≡ 1) × IsTaken log s.homes s.views)
