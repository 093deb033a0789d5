-- How rows stand to a bound.
use Rattle.std.specs.Prelude.{◌≡◌, ◌≢◌, Bool, not}
use Rattle.std.specs.Ordering.{is_lt, is_eq}
use Rattle.std.specs.declared.cmp.Ordering.{Ordering}
use Rattle.std.specs.declared.cmp.Ordering.TheVariants.{Less, Greater}

-- the row stands before the bound
abbrev pub is_before : {T : Type 0} → (T → Ordering) → T → Bool
is_before standing = λ row. is_lt (standing row)

abbrev pub is_not_before : {T : Type 0} → (T → Ordering) → T → Bool
is_not_before standing = λ row. not (is_lt (standing row))

-- the row stands at the bound
abbrev pub is_at : {T : Type 0} → (T → Ordering) → T → Bool
is_at standing = λ row. is_eq (standing row)

abbrev pub is_not_at : {T : Type 0} → (T → Ordering) → T → Bool
is_not_at standing = λ row. not (is_eq (standing row))

-- what stands before a row that does not stand behind the bound stands before it
abbrev pub Falls : {T : Type 0} → (T → T → Ordering) → (T → Ordering) → Type 0
Falls {T} order standing = (x y : T) → order x y ≡ Less → standing y ≢ Greater → standing x ≡ Less
