-- What a read from memory gives is the front of what was left.
use Rattle.std.proofs.Common.{◌≡◌, ℕ, ◌+◌, ◌-◌, ◌<◌, ◌≤◌, min, List, [], ◌++◌, length, take, drop, arith, sym, ap, ◌∙◌, length-append, length-drop}
use Rattle.std.proofs.Math.Seq.{take-append_seam}
use Rattle.std.proofs.lemmas.List.{take-append-drop, length-take-le, drop-drop, drop_all}

pub part_length : (bytes : List ℕ) (at n : ℕ) → at + n ≤ length bytes → length (take (at + n - at) (drop at bytes)) ≡ n
part_length bytes at n h =
    let within : at + n - at ≤ length (drop at bytes) = omega (arith, length-drop at bytes) in
    length-take-le (at + n - at) (drop at bytes) within ∙ omega arith

front : (given more : List ℕ) (n : ℕ) → length given ≡ n → take n (given ++ more) ≡ given
front given more n h = rw (← h) (take-append_seam given more)

joined : (bytes : List ℕ) (at n : ℕ) → drop at bytes ≡ take (at + n - at) (drop at bytes) ++ drop (at + n) bytes
joined bytes at n =
    let count : at + n - at ≡ n = omega arith in
    rw (count, ← drop-drop n at bytes) (sym (take-append-drop n (drop at bytes)))

pub consumed : (bytes left given into : List ℕ) (at n : ℕ) → left ≡ drop at bytes → at + n ≤ length bytes → given ≡ take (at + n - at) (drop at bytes)
    → left ≡ take n (given ++ drop n into) ++ drop (at + n) bytes
consumed bytes left given into at n l h g =
    let size : length given ≡ n = ap length g ∙ part_length bytes at n h in
    rw (front given (drop n into) n size) (l ∙ joined bytes at n ∙ ap (λ xs. xs ++ drop (at + n) bytes) (sym g))

pub ended : (bytes given into : List ℕ) (at n : ℕ) → n ≡ min (length into) (length bytes - at) → length given ≡ n → n ≡ 0 → 0 < length (given ++ drop n into) → drop (at + n) bytes ≡ []
ended bytes given into at n count size zero room =
    let past : length bytes ≤ at + n = omega (arith, length-append given (drop n into), length-drop n into) in
    drop_all (at + n) bytes past
