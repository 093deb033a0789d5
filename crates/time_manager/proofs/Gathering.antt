-- The messages of which something is due are those that rows name, in the order of the messages.
use Rattle.std.proofs.Common.{◌≡◌, ◌≢◌, ◌<◌, ◌≤◌, ◌+◌, ◌-◌, ◌++◌, ◌==◌, ◌↔◌, ℕ, zero, suc, Bool, true, false, eqb, List, [], ◌∷◌, slice_get, length, refl, sym, ap, ◌∙◌, subst, arith, inl, inr, eq-eqb}
use Rattle.std.specs.Prelude.{◌||◌, ◌⊎◌, All, AllPairs, Contains, flat_map, IsPermutation, slice_index_or}
use Rattle.std.specs.List.{dedup, list_any, range_with_len}
use Rattle.std.specs.List.Retain.{IsFiltered, DiffersFromLast}
use Rattle.std.specs.List.Sorted.{IsSorted, IsStrictlyIncreasing}
use Rattle.std.specs.Ordering.{nat_cmp}
use Rattle.std.proofs.lemmas.Bool.{false≢true, or_cases, or_left, or_right, eqb-true, ne_eqb, cases_eq}
use Rattle.std.proofs.lemmas.List.Filters.{dedup_is}
use Rattle.std.proofs.lemmas.List.Kept.{AllPairs-from_increasing, Contains-dedup_nat, Contains-from_dedup}
use Rattle.std.proofs.lemmas.List.Sorted.{Contains-permutation, IsPermutation-sym}
use Rattle.std.proofs.lemmas.Map.Keys.{IsStrictlyIncreasing-dedup}
use Rattle.queue_rows.specs.declared.rows.MsgRow.{MsgRow}
use Rattle.queue_rows.specs.declared.change.Change.{Change}
use Rattle.time_manager.specs.Ranks.{given}

-- ---- numbers that were sorted, each kept once

pub record Gathered (found kept : List ℕ) : Type 0 where
  pub rising : IsStrictlyIncreasing kept
  pub each : (n : ℕ) → Contains kept n ↔ Contains found n

pub gathered : (found named sorted kept : List ℕ) → named ≡ found → IsPermutation named sorted → IsSorted nat_cmp sorted → IsFiltered (DiffersFromLast eqb) [] sorted kept → Gathered found kept
gathered found named sorted kept is permutation in_order filtered =
    let once : kept ≡ dedup eqb sorted = dedup_is eqb sorted kept filtered in
    record {
      rising = subst (λ (ns : List ℕ). IsStrictlyIncreasing ns) (sym once) (IsStrictlyIncreasing-dedup sorted in_order);
      each = λ n. (
        λ in_kept. subst (λ (ns : List ℕ). Contains ns n) is
            (Contains-permutation sorted named n (IsPermutation-sym named sorted permutation)
            (Contains-from_dedup eqb sorted n (subst (λ (ns : List ℕ). Contains ns n) once in_kept))),
        λ in_found. subst (λ (ns : List ℕ). Contains ns n) (sym once)
            (Contains-dedup_nat sorted n (Contains-permutation named sorted n permutation (subst (λ (ns : List ℕ). Contains ns n) (sym is) in_found))),
      );
    }

-- ---- members

abbrev pub has : List ℕ → ℕ → Bool
has ns n = list_any (λ k. k == n) ns

has_cons : (x n : ℕ) (xs : List ℕ) → (x ≡ n) ⊎ (has xs n ≡ true) → has (x ∷ xs) n ≡ true
has_cons x n xs (inl same) = or_left (x == n) (has xs n) (eq-eqb x n same)
has_cons x n xs (inr later) = or_right (x == n) (has xs n) later

pub has_from : (ns : List ℕ) (n : ℕ) → Contains ns n → has ns n ≡ true
has_from [] n (k, below, at) = absurd (omega arith)
has_from (x ∷ xs) n (zero, below, at) = has_cons x n xs (inl at)
has_from (x ∷ xs) n (suc k, below, at) = has_cons x n xs (inr (has_from xs n (k, (let b : suc k < suc (length xs) = below in omega arith), at)))

contains_cons : (x n : ℕ) (xs : List ℕ) → Contains xs n → Contains (x ∷ xs) n
contains_cons x n xs (k, below, at) = (suc k, (let b : k < length xs = below in let g : suc k < suc (length xs) = omega arith in g), at)

pub contains_from : (ns : List ℕ) (n : ℕ) → has ns n ≡ true → Contains ns n
contains_from [] n some = absurd (false≢true some)
contains_from (x ∷ xs) n some = elim (or_cases (x == n) (has xs n) some) [
  | inl here ↦ (0, (let g : 0 < suc (length xs) = omega arith in g), eqb-true x n here)
  | inr later ↦ contains_cons x n xs (contains_from xs n later)
]

-- ---- numbers that rise

abbrev Rises : ℕ → List ℕ → Type 0
Rises n [] = Unit {0}
Rises n (k ∷ ks) = (n ≤ k) × Rises (k + 1) ks

rises_from : (n : ℕ) (ns : List ℕ) → All (λ k. n ≤ k) ns → AllPairs (λ x y. x < y) ns → Rises n ns
rises_from n [] all pairs = tt
rises_from n (x ∷ xs) all pairs = (
  all 0 x (let g : 0 < suc (length xs) = omega arith in g),
  rises_from (x + 1) xs
      (λ k d below. let g : x < slice_index_or xs k d = pairs 0 (suc k) d (let z : 0 < suc k = omega arith in z) (let z : suc k < suc (length xs) = omega arith in z) in omega arith)
      (λ i j d less below. pairs (suc i) (suc j) d (let z : suc i < suc j = omega arith in z) (let z : suc j < suc (length xs) = omega arith in z)),
)

pub rises : (ns : List ℕ) → IsStrictlyIncreasing ns → Rises 0 ns
rises ns rising = rises_from 0 ns (λ k d below. omega arith) (AllPairs-from_increasing ns rising)

rises_less : (m n : ℕ) (ns : List ℕ) → m ≤ n → Rises n ns → Rises m ns
rises_less m n [] less rise = tt
rises_less m n (k ∷ ks) less rise = (let a : n ≤ k = rise.0 in omega arith, rise.1)

-- none is below the first
none_below : (n i : ℕ) (ns : List ℕ) → i < n → Rises n ns → has ns i ≡ false
none_below n i [] less rise = refl
none_below n i (k ∷ ks) less rise =
    let differs : k ≢ i = λ same. let a : n ≤ k = rise.0 in omega arith in
    ap (λ b. b || has ks i) (ne_eqb k i differs) ∙ none_below (k + 1) i ks (let a : n ≤ k = rise.0 in omega arith) rise.1

-- ---- lists by number

module _ {Y : Type 0} (G : ℕ → List Y) where
  none_left : (ns : List ℕ) → ((i : ℕ) → has ns i ≡ true → ⊥) → flat_map G ns ≡ []
  none_left [] never = refl
  none_left (k ∷ ks) never = absurd (never k (or_left (k == k) (has ks k) (eq-eqb k k refl)))

  -- what is given at numbers that rise is what is given at all, where nothing is given at the others
  pub gives_all : (k n : ℕ) (ns : List ℕ) → Rises n ns → ((i : ℕ) → has ns i ≡ true → i < n + k) → ((i : ℕ) → n ≤ i → has ns i ≡ false → G i ≡ [])
      → flat_map G ns ≡ flat_map G (range_with_len n k)
  gives_all zero n [] rise within none = refl
  gives_all zero n (r ∷ rs) rise within none =
      absurd (let a : r < n + 0 = within r (or_left (r == r) (has rs r) (eq-eqb r r refl)) in let b : n ≤ r = rise.0 in omega arith)
  gives_all (suc k) n [] rise within none =
      gives_all k (n + 1) [] tt (λ i some. absurd (false≢true some)) (λ i least absent. none i (omega arith) absent)
      ∙ sym (ap (λ xs. xs ++ flat_map G (range_with_len (n + 1) k)) (none n (omega arith) refl))
  gives_all (suc k) n (r ∷ rs) rise within none = elim (cases_eq r n) [
    | inl same ↦
        ap (λ i. G i ++ flat_map G rs) same
        ∙ ap (λ xs. G n ++ xs)
        (gives_all k (n + 1) rs (rises_less (n + 1) (r + 1) rs (omega arith) rise.1)
        (λ i some. let a : i < n + suc k = within i (or_right (r == i) (has rs i) some) in omega arith)
        (λ i least absent. none i (omega arith) (ap (λ b. b || has rs i) (ne_eqb r i (λ e. omega arith)) ∙ absent)))
    | inr other ↦
        let first : n ≤ r = rise.0 in
        let later : n + 1 ≤ r = omega arith in
        gives_all k (n + 1) (r ∷ rs) (later, rise.1)
        (λ i some. let a : i < n + suc k = within i some in omega arith)
        (λ i least absent. none i (omega arith) absent)
        ∙ sym (ap (λ xs. xs ++ flat_map G (range_with_len (n + 1) k)) (none n (omega arith) (none_below (n + 1) n (r ∷ rs) (omega arith) (later, rise.1))))
  ]

shifted : {Y : Type 0} (G : ℕ → List Y) (k n : ℕ) → flat_map G (range_with_len (n + 1) k) ≡ flat_map (λ i. G (suc i)) (range_with_len n k)
shifted G zero n = refl
shifted G (suc k) n =
    let e : n + 1 ≡ suc n = omega arith in
    ap (λ i. G i ++ flat_map G (range_with_len (n + 1 + 1) k)) e ∙ ap (λ xs. G (suc n) ++ xs) (shifted G k (n + 1))

-- what is given at a place of the list
pub by_place : (f : MsgRow → List Change) (ms : List MsgRow) → flat_map (λ i. given f (slice_get ms i)) (range_with_len 0 (length ms)) ≡ flat_map f ms
by_place f [] = refl
by_place f (m ∷ ms) = ap (λ ys. f m ++ ys) (shifted (λ i. given f (slice_get (m ∷ ms) i)) (length ms) 0 ∙ by_place f ms)

-- what is given at the numbers that are left, one by one
pub given_next : {Y : Type 0} (G : ℕ → List Y) (n end : ℕ) → n < end → flat_map G (range_with_len n (end - n)) ≡ G n ++ flat_map G (range_with_len (n + 1) (end - (n + 1)))
given_next G n end below =
    let more : end - n ≡ suc (end - (n + 1)) = omega arith in
    ap (λ k. flat_map G (range_with_len n k)) more

-- the places that are left, one by one
pub next_place : (n end : ℕ) → n < end → range_with_len n (end - n) ≡ n ∷ range_with_len (n + 1) (end - (n + 1))
next_place n end below =
    let more : end - n ≡ suc (end - (n + 1)) = omega arith in
    ap (λ k. range_with_len n k) more
