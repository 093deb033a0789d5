-- Messages whose numbers are their positions: each is found by its own, and no two have one.
use Rattle.std.proofs.Common.{◌≡◌, ℕ, ◌+◌, ◌<◌, ◌≤◌, ◌==◌, zero, suc, Bool, true, false, cond, not, List, [], ◌∷◌, ◌++◌, Option, Some, None, length, refl, sym, ap, ◌∙◌, arith, subst, ◌||◌, ◌&&◌}
use Rattle.std.proofs.lemmas.Bool.{eq-eqb, ne_eqb}
use Rattle.std.proofs.lemmas.Bool.Decides.{nat_tests}
use Rattle.std.proofs.lemmas.Option.{none-some, same_Some}
use Rattle.std.specs.Prelude.{find, min, nat_lt, position, slice_get}
use Rattle.std.specs.List.{list_any, position_or_len}
use Rattle.queue_rows.specs.Distinct.{are_distinct}
use Rattle.queue_rows.specs.Valid.{is_same_message}
use Rattle.queue_rows.specs.declared.rows.MsgRow.{MsgRow}
use Rattle.benches.specs.Kept.{AreNumbered}

-- from one number on
abbrev AreFrom : ℕ → List MsgRow → Type 0
AreFrom n ms = (at : ℕ) (m : MsgRow) → slice_get ms at ≡ Some m → m.id ≡ n + at

rest_from : (n : ℕ) (x : MsgRow) (xs : List MsgRow) → AreFrom n (x ∷ xs) → AreFrom (n + 1) xs
rest_from n x xs numbered at m there = let own : m.id ≡ n + suc at = numbered (suc at) m there in omega arith

first_from : (n : ℕ) (x : MsgRow) (xs : List MsgRow) → AreFrom n (x ∷ xs) → x.id ≡ n
first_from n x xs numbered = let own : x.id ≡ n + zero = numbered zero x refl in omega arith

all_from : (ms : List MsgRow) → AreNumbered ms → AreFrom 0 ms
all_from ms numbered at m there = let own : m.id ≡ at = numbered at m there in omega arith

found_from : (n id at : ℕ) (ms : List MsgRow) → AreFrom n ms → id ≡ n + at → find (λ m. m.id == id) ms ≡ slice_get ms at
found_from n id at [] numbered e = refl
found_from n id zero (x ∷ xs) numbered e =
    let own : x.id ≡ n = first_from n x xs numbered in
    let same : (x.id == id) ≡ true = eq-eqb x.id id (omega arith) in
    ap (λ b. cond b (Some x) (find (λ (m : MsgRow). m.id == id) xs)) same
found_from n id (suc at) (x ∷ xs) numbered e =
    let own : x.id ≡ n = first_from n x xs numbered in
    let other : (x.id == id) ≡ false = ne_eqb x.id id (λ same. omega arith) in
    ap (λ b. cond b (Some x) (find (λ (m : MsgRow). m.id == id) xs)) other
    ∙ found_from (n + 1) id at xs (rest_from n x xs numbered) (omega arith)

pub found : (ms : List MsgRow) (id : ℕ) → AreNumbered ms → find (λ m. m.id == id) ms ≡ slice_get ms id
found ms id numbered = let e : id ≡ 0 + id = omega arith in found_from 0 id id ms (all_from ms numbered) e

placed_from : (n id at : ℕ) (ms : List MsgRow) → AreFrom n ms → id ≡ n + at → position_or_len (λ m. m.id == id) ms ≡ min at (length ms)
placed_from n id at [] numbered e = let none : 0 ≡ min at 0 = omega arith in none
placed_from n id zero (x ∷ xs) numbered e =
    let own : x.id ≡ n = first_from n x xs numbered in
    let same : (x.id == id) ≡ true = eq-eqb x.id id (omega arith) in
    let p : MsgRow → Bool = λ m. m.id == id in
    let least : 0 ≡ min 0 (length (x ∷ xs)) = omega arith in
    ap (λ b. cond (not b) (1 + position_or_len p xs) 0) same ∙ least
placed_from n id (suc at) (x ∷ xs) numbered e =
    let own : x.id ≡ n = first_from n x xs numbered in
    let other : (x.id == id) ≡ false = ne_eqb x.id id (λ same. omega arith) in
    let p : MsgRow → Bool = λ m. m.id == id in
    let ih : position_or_len p xs ≡ min at (length xs) = placed_from (n + 1) id at xs (rest_from n x xs numbered) (omega arith) in
    let long : length (x ∷ xs) ≡ 1 + length xs = omega arith in
    let more : 1 + position_or_len p xs ≡ min (suc at) (length (x ∷ xs)) = omega arith in
    ap (λ b. cond (not b) (1 + position_or_len p xs) 0) other ∙ more

less_is : (a b : ℕ) → a < b → nat_lt a b ≡ true
less_is a b h = grind (arith, nat_tests)

not_less_is : (a b : ℕ) → b ≤ a → nat_lt a b ≡ false
not_less_is a b h = grind (arith, nat_tests)

pub placed : (ms : List MsgRow) (id : ℕ) → AreNumbered ms → id < length ms → Some id ≡ position (λ m. m.id == id) ms
placed ms id numbered within =
    let e : id ≡ 0 + id = omega arith in
    let at = position_or_len (λ (m : MsgRow). m.id == id) ms in
    let at_is : at ≡ min id (length ms) = placed_from 0 id id ms (all_from ms numbered) e in
    let same : at ≡ id = omega arith in
    sym (ap (λ b. cond b (Some at) None) (less_is at (length ms) (omega arith)) ∙ ap Some same)

pub not_placed : (ms : List MsgRow) (id : ℕ) → AreNumbered ms → length ms ≤ id → None ≡ position (λ m. m.id == id) ms
not_placed ms id numbered past =
    let e : id ≡ 0 + id = omega arith in
    let at = position_or_len (λ (m : MsgRow). m.id == id) ms in
    let at_is : at ≡ min id (length ms) = placed_from 0 id id ms (all_from ms numbered) e in
    sym (ap (λ b. cond b (Some at) None) (not_less_is at (length ms) (omega arith)))

-- ---- no two have one number

none_same : (x : MsgRow) (n : ℕ) (ms : List MsgRow) → x.id < n → AreFrom n ms → list_any (is_same_message x) ms ≡ false
none_same x n [] less numbered = refl
none_same x n (y ∷ ys) less numbered =
    let own : y.id ≡ n = first_from n y ys numbered in
    let other : (x.id == y.id) ≡ false = ne_eqb x.id y.id (λ same. omega arith) in
    ap (λ b. b || list_any (is_same_message x) ys) other ∙ none_same x (n + 1) ys (omega arith) (rest_from n y ys numbered)

distinct_from : (n : ℕ) (ms : List MsgRow) → AreFrom n ms → are_distinct is_same_message ms ≡ true
distinct_from n [] numbered = refl
distinct_from n (x ∷ xs) numbered =
    let own : x.id ≡ n = first_from n x xs numbered in
    ap (λ b. not b && are_distinct is_same_message xs) (none_same x (n + 1) xs (omega arith) (rest_from n x xs numbered))
    ∙ distinct_from (n + 1) xs (rest_from n x xs numbered)

pub are_apart : (ms : List MsgRow) → AreNumbered ms → are_distinct is_same_message ms ≡ true
are_apart ms numbered = distinct_from 0 ms (all_from ms numbered)

-- ---- one message after the other

last_from : (n k : ℕ) (front : List MsgRow) (x m : MsgRow) → AreFrom n front → x.id ≡ n + length front → slice_get (front ++ x ∷ []) k ≡ Some m → m.id ≡ n + k
last_from n zero [] x m numbered e there = let same : x ≡ m = same_Some x m there in let own : x.id ≡ m.id = ap (λ (r : MsgRow). r.id) same in omega arith
last_from n (suc k) [] x m numbered e there = absurd (none-some m there)
last_from n zero (y ∷ ys) x m numbered e there = numbered zero m there
last_from n (suc k) (y ∷ ys) x m numbered e there =
    let long : length (y ∷ ys) ≡ 1 + length ys = omega arith in
    let own : m.id ≡ (n + 1) + k = last_from (n + 1) k ys x m (rest_from n y ys numbered) (omega arith) there in
    omega arith

pub one_more : (done : List MsgRow) (x : MsgRow) (at : ℕ) → at ≡ length done → x.id ≡ at → AreNumbered done → AreNumbered (done ++ x ∷ [])
one_more done x at long own numbered k m there =
    let last : m.id ≡ 0 + k = last_from 0 k done x m (all_from done numbered) (omega arith) there in
    omega arith
