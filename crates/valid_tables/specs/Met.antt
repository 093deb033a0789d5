-- Names that were met.
use Rattle.std.specs.Prelude.{◌≡◌, ℕ, List, Bool, ◌&&◌, ◌||◌}
use Rattle.std.specs.BTreeSet.{BTreeSet, contains}
use Rattle.std.specs.Cmp.Lexicographic.{slice_cmp}
use Rattle.std.specs.Ordering.{nat_cmp, ordering_then}
use Rattle.std.specs.Str.{bytes_eq}
use Rattle.std.specs.declared.cmp.Ordering.{Ordering}

-- ---- names

abbrev pub has_name : BTreeSet (List ℕ) → List ℕ → Bool
has_name met name = contains (slice_cmp nat_cmp) met name

-- the name is among them now, and all others as before
abbrev pub MeetsName : List ℕ → BTreeSet (List ℕ) → BTreeSet (List ℕ) → Type 0
MeetsName name old new = (q : List ℕ) → has_name new q ≡ (bytes_eq name q || has_name old q)

-- ---- pairs of names

-- by the first, and then by the second
abbrev pub pair_cmp : List ℕ × List ℕ → List ℕ × List ℕ → Ordering
pair_cmp a b = ordering_then (slice_cmp nat_cmp a.0 b.0) (slice_cmp nat_cmp a.1 b.1)

abbrev pub has_pair : BTreeSet (List ℕ × List ℕ) → List ℕ → List ℕ → Bool
has_pair met first second = contains pair_cmp met (first, second)

-- the pair is among them now, and all others as before
abbrev pub MeetsPair : List ℕ → List ℕ → BTreeSet (List ℕ × List ℕ) → BTreeSet (List ℕ × List ℕ) → Type 0
MeetsPair first second old new = (q r : List ℕ) → has_pair new q r ≡ ((bytes_eq first q && bytes_eq second r) || has_pair old q r)
