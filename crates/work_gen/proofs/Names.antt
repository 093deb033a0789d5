-- The names of sessions are names, and no two are the same.
use Rattle.std.proofs.Common.{◌≡◌, ℕ, zero, suc, ◌+◌, ◌%◌, ◌<◌, ◌≤◌, ◌^◌, Bool, true, false, ◌&&◌, ◌||◌, not, List, [], ◌∷◌, ◌++◌, length, refl, sym, ap, ◌∙◌, arith}
use Rattle.std.specs.Prelude.{nat_le, decimal, ◌==◌}
use Rattle.std.specs.List.{list_all, list_any}
use Rattle.std.specs.Str.{bytes_eq}
use Rattle.std.proofs.lemmas.Bool.{le-leb}
use Rattle.std.proofs.lemmas.Fmt.{decimal_by_steps, decimal_injective, length-decimal-le}
use Rattle.std.proofs.lemmas.List.Folds.{list_any-append}
use Rattle.std.proofs.lemmas.Slice.Eq.{bytes_eq-Decides}
use Rattle.payload_records.specs.Name.{is_name, is_name_byte, is_small_letter}
use Rattle.queue_rows.specs.Distinct.{are_distinct}
use Rattle.queue_rows.specs.Within.{is_session_name, reserved}
use Rattle.work_gen.specs.Script.{session_name}
use Rattle.work_gen.proofs.Tests.{both, joined, second_holds, is_false, push_all}

-- ---- digits

digit : (n : ℕ) → n < 10 → is_name_byte (48 + n) ≡ true
digit n h = second_holds (is_small_letter (48 + n)) (nat_le 48 (48 + n) && nat_le (48 + n) 57) (48 + n == 95)
    (joined (nat_le 48 (48 + n)) (nat_le (48 + n) 57) (le-leb 48 (48 + n) (omega arith)) (le-leb (48 + n) 57 (omega arith)))

digits_named : (n : ℕ) → n < 2 ^ 64 → list_all is_name_byte (decimal n) ≡ true
digits_named = decimal_by_steps (λ n ds. list_all is_name_byte ds ≡ true)
    (λ n h. joined (is_name_byte (48 + n)) true (digit n h) refl)
    (λ n ds h e. push_all is_name_byte ds (48 + n % 10) e (digit (n % 10) (omega arith)))

-- ---- names

pub is_a_name : (session : ℕ) → session < 64 → is_name (session_name session) ≡ true
is_a_name session h =
    let short : length (decimal (session + 1)) ≤ 2 = length-decimal-le 2 (session + 1) (omega arith) (omega arith) (omega arith) in
    joined (list_all is_name_byte (decimal (session + 1))) (nat_le (length (session_name session)) 128)
    (digits_named (session + 1) (omega arith)) (le-leb (length (session_name session)) 128 (omega arith))

pub is_a_session_name : (session : ℕ) → session < 64 → is_session_name (session_name session) ≡ true
is_a_session_name session h = joined (is_name (session_name session)) (not (list_any (bytes_eq (session_name session)) reserved)) (is_a_name session h) refl

-- ---- none twice

differs : (m n : ℕ) → m < n → n < 64 → bytes_eq (session_name n) (session_name m) ≡ false
differs m n below h = is_false (bytes_eq (session_name n) (session_name m)) (λ e.
    let same : session_name n ≡ session_name m = (bytes_eq-Decides (session_name n) (session_name m)).0 e in
    let digits : decimal (n + 1) ≡ decimal (m + 1) = cc in
    let number : n + 1 ≡ m + 1 = decimal_injective (n + 1) (m + 1) (omega arith) (omega arith) digits in
    omega arith)

-- the names of the first sessions
unfoldable pub first_names : ℕ → List (List ℕ)
first_names zero = []
first_names (suc n) = first_names n ++ session_name n ∷ []

none_before : (m n : ℕ) → m ≤ n → n < 64 → list_any (bytes_eq (session_name n)) (first_names m) ≡ false
unfolding first_names
none_before zero n below h = refl
none_before (suc m) n below h =
    list_any-append (bytes_eq (session_name n)) (first_names m) (session_name m ∷ [])
    ∙ rw (none_before m n (omega arith) h, differs m n (omega arith) h) refl

neither : (a b : Bool) → (a || b) ≡ false → (a ≡ false) × (b ≡ false)
neither true b h = absurd cc
neither false b h = (refl, h)

turned_off : (b : Bool) → not b ≡ true → b ≡ false
turned_off true h = absurd cc
turned_off false h = refl

other : (a b : List ℕ) → bytes_eq a b ≡ false → bytes_eq b a ≡ false
other a b e = is_false (bytes_eq b a) (λ same. let again : bytes_eq a b ≡ true = (bytes_eq-Decides a b).1 (sym ((bytes_eq-Decides b a).0 same)) in absurd cc)

-- a name that is none of those that are distinct, put behind them
distinct_last : (ns : List (List ℕ)) (name : List ℕ) → are_distinct bytes_eq ns ≡ true → list_any (bytes_eq name) ns ≡ false → are_distinct bytes_eq (ns ++ name ∷ []) ≡ true
distinct_last [] name d none = refl
distinct_last (n ∷ ns) name d none =
    let parts = both (not (list_any (bytes_eq n) ns)) (are_distinct bytes_eq ns) d in
    let others = neither (bytes_eq name n) (list_any (bytes_eq name) ns) none in
    let back : bytes_eq n name ≡ false = other name n others.0 in
    let free : list_any (bytes_eq n) ns ≡ false = turned_off (list_any (bytes_eq n) ns) parts.0 in
    let more : list_any (bytes_eq n) (ns ++ name ∷ []) ≡ (list_any (bytes_eq n) ns || list_any (bytes_eq n) (name ∷ [])) = list_any-append (bytes_eq n) ns (name ∷ []) in
    let none_more : list_any (bytes_eq n) (ns ++ name ∷ []) ≡ false = more ∙ rw (free, back) refl in
    joined (not (list_any (bytes_eq n) (ns ++ name ∷ []))) (are_distinct bytes_eq (ns ++ name ∷ [])) (ap not none_more) (distinct_last ns name parts.1 others.1)

pub names_distinct : (n : ℕ) → n ≤ 64 → are_distinct bytes_eq (first_names n) ≡ true
unfolding first_names
names_distinct zero h = refl
names_distinct (suc n) h = distinct_last (first_names n) (session_name n) (names_distinct n (omega arith)) (none_before n n (omega arith) (omega arith))
