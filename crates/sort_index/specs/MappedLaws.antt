-- Rows by what is told of each, where their order and the tests ask for no more: as for their places and ids alone.
use Rattle.std.specs.Prelude.{◌≡◌, Bool, true, false, cond, filter, map, List, [], ◌∷◌, Some, refl}
use Rattle.std.proofs.Common.{ap}
use Rattle.std.specs.List.{find}
use Rattle.std.specs.Option.{option_map}
use Rattle.std.specs.Ordering.{is_lt}
use Rattle.std.specs.declared.cmp.Ordering.{Ordering}
use Rattle.row_tree.specs.Order.{put_in_order}

-- a row that is put in
pub put_mapped : {T U : Type 0} (order : U → U → Ordering) (told : T → U) (x : T) (xs : List T)
    → map told (put_in_order (λ a b. order (told a) (told b)) x xs) ≡ put_in_order order (told x) (map told xs)
put_mapped order told x [] = refl
put_mapped {T} {U} order told x (y ∷ ys) =
    let P : Bool → Type 0 = λ b. map told (cond b (y ∷ put_in_order (λ a c. order (told a) (told c)) x ys) (x ∷ y ∷ ys))
    ≡ cond b (told y ∷ put_in_order order (told x) (map told ys)) (told x ∷ told y ∷ map told ys) in
    elim (is_lt (order (told y) (told x))) as P [ true ↦ ap (λ us. told y ∷ us) (put_mapped order told x ys) | false ↦ refl ]

-- the rows that pass a test
pub kept_mapped : {T U : Type 0} (passes : U → Bool) (told : T → U) (xs : List T) → map told (filter (λ x. passes (told x)) xs) ≡ filter passes (map told xs)
kept_mapped passes told [] = refl
kept_mapped {T} {U} passes told (x ∷ xs) =
    let rest = filter (λ y. passes (told y)) xs in
    let kept = filter passes (map told xs) in
    let P : Bool → Type 0 = λ b. map told (cond b (x ∷ rest) rest) ≡ cond b (told x ∷ kept) kept in
    elim (passes (told x)) as P [ true ↦ ap (λ us. told x ∷ us) (kept_mapped passes told xs) | false ↦ kept_mapped passes told xs ]

-- the first row that passes a test
pub found_mapped : {T U : Type 0} (passes : U → Bool) (told : T → U) (xs : List T) → option_map told (find (λ x. passes (told x)) xs) ≡ find passes (map told xs)
found_mapped passes told [] = refl
found_mapped {T} {U} passes told (x ∷ xs) =
    let P : Bool → Type 0 = λ b. option_map told (cond b (Some x) (find (λ y. passes (told y)) xs)) ≡ cond b (Some (told x)) (find passes (map told xs)) in
    elim (passes (told x)) as P [ true ↦ refl | false ↦ found_mapped passes told xs ]
