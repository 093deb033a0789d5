-- Where the first item of each pair stands.
use Rattle.std.specs.Prelude.{◌≡◌, ℕ, ◌==◌, ◌&&◌, Bool, List, is_some, option_map, position, if◌then◌else◌}
use Rattle.std.specs.Cmp.{IsTotalOrder, nat_cmp_total, on_total, then_total}
use Rattle.std.specs.List.{find}
use Rattle.std.specs.Ordering.{is_eq, nat_cmp, ordering_then}
use Rattle.std.specs.declared.cmp.Ordering.{Ordering}
use Rattle.row_tree.specs.Order.{put_in_order}
use Rattle.pair_list.specs.declared.place.PairPlace.{PairPlace}

-- the pair is of these numbers
abbrev pub has_pair : ℕ → ℕ → ℕ × ℕ → Bool
has_pair first second pair = pair.0 == first && pair.1 == second

-- by the first numbers of the pairs, then by the second ones
abbrev pub place_cmp : PairPlace → PairPlace → Ordering
place_cmp left right = ordering_then (nat_cmp left.first right.first) (nat_cmp left.second right.second)

pub place_cmp_total : IsTotalOrder place_cmp
place_cmp_total = then_total (on_total (λ (p : PairPlace). p.first) nat_cmp_total) (on_total (λ (p : PairPlace). p.second) nat_cmp_total)

-- a place of this pair
abbrev pub key : ℕ → ℕ → PairPlace
key first second = record { first = first; second = second; at = 0 }

-- the place is one of this pair
abbrev pub is_of : ℕ → ℕ → PairPlace → Bool
is_of first second place = is_eq (place_cmp place (key first second))

-- the places with one more, where none is of its pair
abbrev pub noted : PairPlace → List PairPlace → List PairPlace
noted place places = if is_some (find (is_of place.first place.second) places) then places else put_in_order place_cmp place places

-- of each pair is told where its first item stands
abbrev pub Tells : {T : Type 0} → (T → ℕ × ℕ) → List PairPlace → List T → Type 0
Tells pair_of places items = (first second : ℕ) → option_map (λ p. p.at) (find (is_of first second) places) ≡ position (λ item. has_pair first second (pair_of item)) items
