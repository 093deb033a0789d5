-- What a take at a bound leaves, by what stands where the search stops.
use Rattle.std.proofs.Common.{◌≡◌, ℕ, ◌<◌, Bool, true, false, not, List, filter, remove, length, slice_get, None, sym, ap, ◌∙◌, subst, arith}
use Rattle.std.specs.List.{prefix_len, find}
use Rattle.std.specs.Option.{option_map_or}
use Rattle.std.specs.Ordering.{is_lt, is_eq}
use Rattle.std.specs.declared.cmp.Ordering.{Ordering}
use Rattle.row_tree.specs.Order.{IsRising, without_first}
use Rattle.row_tree.proofs.Places.{found, taken_there, within_there}
use Rattle.row_tree.specs.Bounds.{Falls}
use Rattle.row_tree.proofs.Rising.{Taken, taken, is_there}

-- the row and the rows without it
pub record Takes {T : Type 0} (standing : T → Ordering) (xs : List T) (at : ℕ) : Type 0 where
  pub within : at < length xs
  pub row : slice_get xs at ≡ find (λ y. is_eq (standing y)) xs
  pub rest : remove xs at ≡ filter (λ y. not (is_eq (standing y))) xs

-- nothing
pub record Leaves {T : Type 0} (standing : T → Ordering) (xs : List T) : Type 0 where
  pub row : find (λ y. is_eq (standing y)) xs ≡ None
  pub rest : filter (λ y. not (is_eq (standing y))) xs ≡ xs

took : {T : Type 0} {order : T → T → Ordering} (standing : T → Ordering) → Falls order standing → (xs : List T) → IsRising order xs → (at : ℕ) (b : Bool)
    → at ≡ prefix_len (λ y. is_lt (standing y)) xs → option_map_or (λ y. is_eq (standing y)) (slice_get xs at) false ≡ b
    → Taken (find (λ y. not (is_lt (standing y))) xs) (find (λ y. is_eq (standing y)) xs) (without_first (λ y. not (is_lt (standing y))) xs)
    (filter (λ y. not (is_eq (standing y))) xs) xs b
took standing falls xs rising at b here there =
    let P : Bool → Type 0 = λ c. Taken (find (λ y. not (is_lt (standing y))) xs) (find (λ y. is_eq (standing y)) xs) (without_first (λ y. not (is_lt (standing y))) xs)
    (filter (λ y. not (is_eq (standing y))) xs) xs c in
    let e : is_there standing (find (λ y. not (is_lt (standing y))) xs) ≡ b =
    ap (is_there standing) (sym (found (λ y. is_lt (standing y)) xs)) ∙ ap (λ n. is_there standing (slice_get xs n)) (sym here) ∙ there in
    subst P e (taken standing falls xs rising)

pub takes : {T : Type 0} {order : T → T → Ordering} (standing : T → Ordering) → Falls order standing → (xs : List T) → IsRising order xs → (at : ℕ)
    → at ≡ prefix_len (λ y. is_lt (standing y)) xs → option_map_or (λ y. is_eq (standing y)) (slice_get xs at) false ≡ true → Takes standing xs at
takes standing falls xs rising at here there =
    let t = took standing falls xs rising at true here there in
    let below = within_there (λ y. is_eq (standing y)) xs at there in
    let front : prefix_len (λ y. is_lt (standing y)) xs < length xs = omega arith in
    record {
      within = below;
      row = ap (slice_get xs) here ∙ found (λ y. is_lt (standing y)) xs ∙ t.0;
      rest = ap (remove xs) here ∙ taken_there (λ y. is_lt (standing y)) xs front ∙ t.1;
    }

pub leaves : {T : Type 0} {order : T → T → Ordering} (standing : T → Ordering) → Falls order standing → (xs : List T) → IsRising order xs → (at : ℕ)
    → at ≡ prefix_len (λ y. is_lt (standing y)) xs → option_map_or (λ y. is_eq (standing y)) (slice_get xs at) false ≡ false → Leaves standing xs
leaves standing falls xs rising at here there =
    let t = took standing falls xs rising at false here there in
    record { row = t.0; rest = t.1 }
