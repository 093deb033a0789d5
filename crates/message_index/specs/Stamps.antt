-- How an index finds where an id stands: each id in the list has a stamp, and of each id it is kept what stamps
-- it has.
use Rattle.std.specs.Prelude.{◌≡◌, ℕ, ◌<◌, ◌==◌, List, [], ◌∷◌, All, AllPairs, filter, map, Option, Some, None, if◌then◌else◌}
use Rattle.message_index.specs.declared.entry.Entry.{Entry}
use Rattle.message_index.specs.declared.message_index.Place.{Place}
use Rattle.message_index.specs.declared.message_index.Place.TheVariants as places

-- the ids in the order of the list
abbrev pub listed : List Entry → List ℕ
listed entries = map (λ e. e.id) entries

-- the stamps in the order of the list
abbrev pub stamps_in : List Entry → List ℕ
stamps_in entries = map (λ e. e.stamp) entries

-- the stamps of those entries that have the id
abbrev pub stamps_of : ℕ → List Entry → List ℕ
stamps_of id entries = map (λ e. e.stamp) (filter (λ e. e.id == id) entries)

-- later entries have greater stamps
abbrev pub AreRising : List Entry → Type 0
AreRising entries = AllPairs (λ earlier later. earlier.stamp < later.stamp) entries

-- all stamps are below that number
abbrev pub AreBelow : ℕ → List Entry → Type 0
AreBelow next entries = All (λ e. e.stamp < next) entries

-- what is told of an id is true of its stamps: there is none, there is that one alone, or nothing is said of
-- them
abbrev pub HasStamps : Option Place → List ℕ → Type 0
HasStamps None stamps = stamps ≡ []
HasStamps (Some (places.Alone stamp)) stamps = stamps ≡ stamp ∷ []
HasStamps (Some places.Several) stamps = Unit {0}

-- what is told of each id is true
abbrev pub TellsStamps : (ℕ → Option Place) → List Entry → Type 0
TellsStamps told entries = (id : ℕ) → HasStamps (told id) (stamps_of id entries)

-- what is told of that id has changed, and of no other
abbrev pub TellsChanged : ℕ → (Option Place → Option Place) → (ℕ → Option Place) → (ℕ → Option Place) → Type 0
TellsChanged id change old new = (q : ℕ) → new q ≡ (if id == q then change (old q) else old q)

-- what is told of an id that gets one more entry
abbrev pub with_entry : ℕ → Option Place → Place
with_entry stamp None = places.Alone stamp
with_entry stamp (Some place) = places.Several

-- what is told of an id that lost one entry
abbrev pub without_entry : Option Place → Option Place
without_entry (Some places.Several) = Some places.Several
without_entry _ = None
