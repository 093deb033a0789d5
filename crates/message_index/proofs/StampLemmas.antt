-- What is told of ids by their stamps, and how it follows the entries.
use Rattle.std.proofs.Common.{◌≡◌, ◌≢◌, ℕ, zero, suc, ◌+◌, ◌<◌, ◌≤◌, List, [], ◌∷◌, ◌++◌, map, take, drop, length, Bool, true, false, cond, not, inl, inr, Option, Some, None, ◌==◌, nat_lt, refl, sym, ap, ◌∙◌, subst, arith, eq-eqb, get_or, append-nil, length-append, drop-cons}
use Rattle.std.specs.Prelude.{All, position, remove, count_by, filter, slice_get}
use Rattle.std.specs.Option.{option_map_or}
use Rattle.std.specs.List.{AllByRecursion, prefix_len, position_or_len}
use Rattle.std.specs.Cmp.{nat_cmp_is}
use Rattle.std.specs.Ordering.{is_eq, is_lt, nat_cmp}
use Rattle.std.specs.declared.cmp.Ordering.TheVariants.{Less, Equal, Greater}
use Rattle.std.proofs.lemmas.Bool.{cases_eq, cases_Bool, lt-ltb, le-ltb, ltb-true, ltb-false, ne_eqb, eqb-false}
use Rattle.std.proofs.lemmas.List.{take-append-drop, map-append, take-map, drop-map, length-map, nil_from_length}
use Rattle.std.proofs.lemmas.List.Elements.{All-append, All-drop, All-filter, All-head, All-map, All-push, All-tail, All-take, All-weaker, filter-append}
use Rattle.std.proofs.lemmas.List.Folds.{fold-map}
use Rattle.std.proofs.lemmas.List.Sums.{length-filter}
use Rattle.std.proofs.lemmas.Option.{none-some, slice_get_within}
use Rattle.row_tree.specs.Bounds.{is_at, is_before}
use Rattle.row_tree.specs.Split.{NonePass, IsSplit}
use Rattle.message_index.specs.StampOrder.{to_stamp}
use Rattle.message_index.specs.Stamped.{AreStamps, Rise}
use Rattle.message_index.specs.Stamps.{listed, stamps_in, stamps_of, AreBelow, AreRising, HasStamps, TellsStamps, with_entry, without_entry}
use Rattle.message_index.specs.declared.entry.Entry.{Entry}
use Rattle.message_index.specs.declared.message_index.Place.{Place}
use Rattle.message_index.specs.declared.message_index.Place.TheVariants as places

less : (a b : ℕ) → a < b → is_lt (nat_cmp a b) ≡ true
less a b h = ap is_lt (sym (nat_cmp_is a b Less h))

not_less : (a b : ℕ) → b ≤ a → is_lt (nat_cmp a b) ≡ false
not_less a b h = elim (cases_eq a b) [
  | inl same ↦ ap is_lt (sym (nat_cmp_is a b Equal same))
  | inr other ↦ ap is_lt (sym (nat_cmp_is a b Greater (omega arith)))
]

lower : (s : ℕ) (e : Entry) → is_before (to_stamp s) e ≡ nat_lt e.stamp s
lower s e = elim (cases_Bool (nat_lt e.stamp s)) [
  | inl is ↦ less e.stamp s (ltb-true e.stamp s is) ∙ sym is
  | inr is ↦ not_less e.stamp s (ltb-false e.stamp s is) ∙ sym is
]

unequal : (a b : ℕ) → a ≢ b → is_eq (nat_cmp a b) ≡ false
unequal a b other = elim (cases_Bool (nat_lt a b)) [
  | inl below ↦ ap is_eq (sym (nat_cmp_is a b Less (ltb-true a b below)))
  | inr past ↦ let least : b ≤ a = ltb-false a b past in ap is_eq (sym (nat_cmp_is a b Greater (omega arith)))
]

its_own : (s : ℕ) (e : Entry) → is_at (to_stamp s) e ≡ (e.stamp == s)
its_own s e = elim (cases_eq e.stamp s) [
  | inl same ↦ ap is_eq (sym (nat_cmp_is e.stamp s Equal same)) ∙ sym (eq-eqb e.stamp s same)
  | inr other ↦ unequal e.stamp s other ∙ sym (ne_eqb e.stamp s other)
]

-- the tail of rising entries rises
tail_rises : (e : Entry) (es : List Entry) → AreRising (e ∷ es) → AreRising es
tail_rises e es rising = λ i j d before within. rising (suc i) (suc j) d (omega arith) (omega arith)

above_head : (e : Entry) (es : List Entry) → AreRising (e ∷ es) → All (λ later. e.stamp < later.stamp) es
above_head e es rising = λ k d within. rising 0 (suc k) d (omega arith) (omega arith)

-- an id that stands elsewhere in rising entries has a stamp above the first one
above : (id s : ℕ) (e : Entry) (es : List Entry) → AreRising (e ∷ es) → stamps_of id es ≡ s ∷ [] → e.stamp < s
above id s e es rising is =
    let Above : ℕ → Type 0 = λ n. e.stamp < n in
    let kept = filter (λ l. l.id == id) es in
    let all : All Above (stamps_of id es) = All-map Above (λ (l : Entry). l.stamp) kept (All-filter (λ (l : Entry). l.id == id) (λ l. e.stamp < l.stamp) es (above_head e es rising)) in
    All-head Above s [] (subst (All Above) is all)

none_lower : (s : ℕ) (es : List Entry) → All (λ e. s ≤ e.stamp) es → NonePass (is_before (to_stamp s)) es
none_lower s [] above = tt
none_lower s (e ∷ es) above = (
  not_less e.stamp s (All-head (λ (l : Entry). s ≤ l.stamp) e es above),
  none_lower s es (All-tail (λ (l : Entry). s ≤ l.stamp) e es above),
)

-- stamps that rise can be searched for by halves
pub can_be_halved : (s : ℕ) (es : List Entry) → AreRising es → IsSplit (is_before (to_stamp s)) es
can_be_halved s [] rising = tt
can_be_halved s (e ∷ es) rising = (
  λ fails.
      let past : s ≤ e.stamp = ltb-false e.stamp s (sym (lower s e) ∙ fails) in
      none_lower s es (All-weaker (λ (l : Entry). e.stamp < l.stamp) (λ (l : Entry). s ≤ l.stamp) (λ l h. omega (arith, h, past)) es (above_head e es rising)),
  can_be_halved s es (tail_rises e es rising),
)

-- how many stand before a stamp
pub counted : (s : ℕ) (es : List Entry) → prefix_len (is_before (to_stamp s)) es ≡ prefix_len (λ e. nat_lt e.stamp s) es
counted s [] = refl
counted s (e ∷ es) =
    ap (λ n. cond (is_before (to_stamp s) e) (1 + n) 0) (counted s es) ∙ ap (λ b. cond b (1 + prefix_len (λ l. nat_lt l.stamp s) es) 0) (lower s e)

module _ {X Y : Type 0} (f : X → Y) where
  prefix_len-map : (p : Y → Bool) (xs : List X) → prefix_len p (map f xs) ≡ prefix_len (λ x. p (f x)) xs
  prefix_len-map p [] = refl
  prefix_len-map p (x ∷ xs) = ap (λ n. cond (p (f x)) (1 + n) 0) (prefix_len-map p xs)

  position-map : (p : Y → Bool) (xs : List X) → position p (map f xs) ≡ position (λ x. p (f x)) xs
  position-map p xs =
      let n = position_or_len (λ x. p (f x)) xs in
      ap (λ k. cond (nat_lt k (length (map f xs))) (Some k) None) (prefix_len-map (λ y. not (p y)) xs) ∙ ap (λ l. cond (nat_lt n l) (Some n) None) (length-map xs f)

-- the place of an id among the entries is that among the ids
pub same_place : (id : ℕ) (es : List Entry) → position (λ e. e.id == id) es ≡ position (λ i. i == id) (listed es)
same_place id es = sym (position-map (λ (e : Entry). e.id) (λ i. i == id) es)

-- an id stands in as many places as it has stamps
pub stamps_counted : (id : ℕ) (es : List Entry) → count_by (λ i. i == id) (listed es) ≡ length (stamps_of id es)
stamps_counted id es =
    fold-map (λ a i. a + cond (i == id) 1 0) (λ (e : Entry). e.id) 0 es ∙ sym (length-filter (λ (e : Entry). e.id == id) es) ∙ sym (length-map (filter (λ e. e.id == id) es) (λ (e : Entry). e.stamp))

-- an id without stamps stands nowhere
nowhere : (id : ℕ) (es : List Entry) → stamps_of id es ≡ [] → position_or_len (λ e. e.id == id) es ≡ length es
nowhere id [] none = refl
nowhere id (e ∷ es) none = elim (cases_Bool (e.id == id)) [
  | inl same ↦ let found : stamps_of id (e ∷ es) ≡ e.stamp ∷ stamps_of id es = rw same refl in absurd (omega (arith, ap length none, ap length found))
  | inr other ↦
      let rest : stamps_of id (e ∷ es) ≡ stamps_of id es = rw other refl in
      let behind = nowhere id es (sym rest ∙ none) in
      rw other (omega (arith, behind))
]

pub no_place : (id : ℕ) (es : List Entry) → stamps_of id es ≡ [] → None ≡ position (λ i. i == id) (listed es)
no_place id es none =
    let n = length es in
    let past : nat_lt n n ≡ false = le-ltb n n (omega arith) in
    let e : position (λ e. e.id == id) es ≡ None = ap (λ k. cond (nat_lt k n) (Some k) None) (nowhere id es none) ∙ rw past refl in
    sym e ∙ same_place id es

record IsFirst (id s : ℕ) (es : List Entry) : Type 0 where
  at : position_or_len (λ e. e.id == id) es ≡ prefix_len (λ e. nat_lt e.stamp s) es
  within : prefix_len (λ e. nat_lt e.stamp s) es < length es

-- the entry with the one stamp of an id stands behind those with lower stamps
one_place : (id s : ℕ) (es : List Entry) → AreRising es → stamps_of id es ≡ s ∷ [] → IsFirst id s es
one_place id s [] rising is = absurd (omega (arith, ap length is))
one_place id s (e ∷ es) rising is = elim (cases_Bool (e.id == id)) [
  | inl same ↦
      let found : stamps_of id (e ∷ es) ≡ e.stamp ∷ stamps_of id es = rw same refl in
      let joined : e.stamp ∷ stamps_of id es ≡ s ∷ [] = sym found ∙ is in
      let stamp : e.stamp ≡ s = cc in
      let not_below : nat_lt e.stamp s ≡ false = le-ltb e.stamp s (omega arith) in
      record { at = rw (same, not_below) refl; within = rw not_below (omega arith) }
  | inr other ↦
      let rest : stamps_of id (e ∷ es) ≡ stamps_of id es = rw other refl in
      let is_there : stamps_of id es ≡ s ∷ [] = sym rest ∙ is in
      let below : nat_lt e.stamp s ≡ true = lt-ltb e.stamp s (above id s e es rising is_there) in
      let behind = one_place id s es (tail_rises e es rising) is_there in
      record { at = rw (other, below) (ap (λ n. 1 + n) behind.at); within = rw below (let h = behind.within in omega (arith, h)) }
]

pub place_within : (id s : ℕ) (es : List Entry) → AreRising es → stamps_of id es ≡ s ∷ [] → prefix_len (λ e. nat_lt e.stamp s) es < length (listed es)
place_within id s es rising is = let first = one_place id s es rising is in omega (arith, first.within, length-map es (λ (e : Entry). e.id))

pub its_place : (id s : ℕ) (es : List Entry) → AreRising es → stamps_of id es ≡ s ∷ [] → Some (prefix_len (λ e. nat_lt e.stamp s) es) ≡ position (λ i. i == id) (listed es)
its_place id s es rising is =
    let first = one_place id s es rising is in
    let n = prefix_len (λ e. nat_lt e.stamp s) es in
    let inside : nat_lt n (length es) ≡ true = lt-ltb n (length es) first.within in
    let e : position (λ e. e.id == id) es ≡ Some n = ap (λ k. cond (nat_lt k (length es)) (Some k) None) first.at ∙ rw inside refl in
    sym e ∙ same_place id es

-- the ids without one are those of the entries without it
pub ids_removed : (es : List Entry) (at : ℕ) → listed (remove es at) ≡ remove (listed es) at
ids_removed es at =
    let f : Entry → ℕ = λ e. e.id in
    map-append f (take at es) (drop (suc at) es) ∙ ap (λ x. x ++ map f (drop (suc at) es)) (sym (take-map f at es)) ∙ ap (λ x. take at (map f es) ++ x) (sym (drop-map f (suc at) es))

stamps-append : (id : ℕ) (front back : List Entry) → stamps_of id (front ++ back) ≡ stamps_of id front ++ stamps_of id back
stamps-append id front back =
    ap (map (λ (e : Entry). e.stamp)) (filter-append (λ (e : Entry). e.id == id) front back) ∙ map-append (λ (e : Entry). e.stamp) (filter (λ e. e.id == id) front) (filter (λ e. e.id == id) back)

-- what is told of an id that lost one of its stamps
lost : (place : Option Place) (front back : List ℕ) (s : ℕ) → HasStamps place (front ++ s ∷ back) → HasStamps (without_entry place) (front ++ back)
lost None front back s is = absurd (omega (arith, ap length is, length-append front (s ∷ back)))
lost (Some (places.Alone stamp)) front back s is = nil_from_length (front ++ back) (omega (arith, ap length is, length-append front (s ∷ back), length-append front back))
lost (Some places.Several) front back s is = tt

-- an entry is taken out, and what is told of its id follows it
pub removed : (told now_told : ℕ → Option Place) (es : List Entry) (at : ℕ) (e : Entry) → at < length es → e ≡ get_or es at e → TellsStamps told es
    → ((q : ℕ) → now_told q ≡ cond (e.id == q) (without_entry (told q)) (told q)) → TellsStamps now_told (remove es at)
removed told now_told es at e within read found says q =
    let front = stamps_of q (take at es) in
    let back = stamps_of q (drop (suc at) es) in
    let left : stamps_of q (remove es at) ≡ front ++ back = stamps-append q (take at es) (drop (suc at) es) in
    let whole : es ≡ take at es ++ e ∷ drop (suc at) es =
    sym (take-append-drop at es) ∙ ap (λ x. take at es ++ x) (drop-cons es at e within ∙ ap (λ x. x ∷ drop (suc at) es) (sym read)) in
    let was : stamps_of q es ≡ front ++ stamps_of q (e ∷ drop (suc at) es) = ap (stamps_of q) whole ∙ stamps-append q (take at es) (e ∷ drop (suc at) es) in
    elim (cases_Bool (e.id == q)) [
      | inl same ↦
          let its : stamps_of q (e ∷ drop (suc at) es) ≡ e.stamp ∷ back = rw same refl in
          let had : HasStamps (told q) (front ++ e.stamp ∷ back) = subst (HasStamps (told q)) (was ∙ ap (λ x. front ++ x) its) (found q) in
          let is : now_told q ≡ without_entry (told q) = says q ∙ rw same refl in
          subst (λ o. HasStamps o (stamps_of q (remove es at))) (sym is) (subst (HasStamps (without_entry (told q))) (sym left) (lost (told q) front back e.stamp had))
      | inr other ↦
          let its : stamps_of q (e ∷ drop (suc at) es) ≡ back = rw other refl in
          let had : HasStamps (told q) (front ++ back) = subst (HasStamps (told q)) (was ∙ ap (λ x. front ++ x) its) (found q) in
          let is : now_told q ≡ told q = says q ∙ rw other refl in
          subst (λ o. HasStamps o (stamps_of q (remove es at))) (sym is) (subst (HasStamps (told q)) (sym left) had)
    ]

-- stamps stay below a number when an entry is taken out
pub below_removed : (next : ℕ) (es : List Entry) (at : ℕ) → AreBelow next es → AreBelow next (remove es at)
below_removed next es at below =
    let Below : Entry → Type 0 = λ e. e.stamp < next in
    All-append Below (take at es) (drop (suc at) es) (All-take Below at es below) (All-drop Below (suc at) es below)

-- what is told of an id that gets one more stamp
got : (place : Option Place) (stamps : List ℕ) (s : ℕ) → HasStamps place stamps → HasStamps (Some (with_entry s place)) (stamps ++ s ∷ [])
got None stamps s is = ap (λ x. x ++ s ∷ []) is
got (Some place) stamps s is = tt

-- an entry is put last, and what is told of its id follows it
pub pushed : (told now_told : ℕ → Option Place) (es : List Entry) (e : Entry) → TellsStamps told es
    → ((q : ℕ) → now_told q ≡ cond (e.id == q) (Some (with_entry e.stamp (told q))) (told q)) → TellsStamps now_told (es ++ e ∷ [])
pushed told now_told es e found says q =
    let was = stamps_of q es in
    let left : stamps_of q (es ++ e ∷ []) ≡ was ++ stamps_of q (e ∷ []) = stamps-append q es (e ∷ []) in
    elim (cases_Bool (e.id == q)) [
      | inl same ↦
          let its : stamps_of q (e ∷ []) ≡ e.stamp ∷ [] = rw same refl in
          let is : now_told q ≡ Some (with_entry e.stamp (told q)) = says q ∙ rw same refl in
          let whole : stamps_of q (es ++ e ∷ []) ≡ was ++ e.stamp ∷ [] = left ∙ ap (λ x. was ++ x) its in
          subst (λ o. HasStamps o (stamps_of q (es ++ e ∷ []))) (sym is) (subst (HasStamps (Some (with_entry e.stamp (told q)))) (sym whole) (got (told q) was e.stamp (found q)))
      | inr other ↦
          let its : stamps_of q (e ∷ []) ≡ [] = rw other refl in
          let is : now_told q ≡ told q = says q ∙ rw other refl in
          let whole : stamps_of q (es ++ e ∷ []) ≡ was = left ∙ ap (λ x. was ++ x) its ∙ append-nil was in
          subst (λ o. HasStamps o (stamps_of q (es ++ e ∷ []))) (sym is) (subst (HasStamps (told q)) (sym whole) (found q))
    ]

-- stamps stay below the next number when an entry gets the one before it
pub below_pushed : (next : ℕ) (es : List Entry) (e : Entry) → AreBelow next es → e.stamp ≡ next → AreBelow (next + 1) (es ++ e ∷ [])
below_pushed next es e below is =
    let Below : Entry → Type 0 = λ l. l.stamp < next + 1 in
    All-push Below es e (All-weaker (λ (l : Entry). l.stamp < next) Below (λ l h. omega (arith, h)) es below) (omega (arith, is))

-- ---- stamps alone

module _ {X : Type 0} (P : X → Type 0) where
  by_recursion : (xs : List X) → All P xs → AllByRecursion P xs
  by_recursion [] all = tt
  by_recursion (x ∷ xs) all = (All-head P x xs all, by_recursion xs (All-tail P x xs all))

stamps_above : (n : ℕ) (es : List Entry) → AllByRecursion (λ e. n < e.stamp) es → AllByRecursion (λ later. n < later) (stamps_in es)
stamps_above n [] all = tt
stamps_above n (e ∷ es) all = (all.0, stamps_above n es all.1)

-- the stamps of rising entries rise
pub stamps_rise : (es : List Entry) → AreRising es → Rise (stamps_in es)
stamps_rise [] rising = tt
stamps_rise (e ∷ es) rising =
    (stamps_above e.stamp es (by_recursion (λ later. e.stamp < later.stamp) es (above_head e es rising)), stamps_rise es (tail_rises e es rising))

pub are_stamps : (es : List Entry) → AreRising es → AreStamps (length (listed es)) (stamps_in es)
are_stamps es rising = record { rise = stamps_rise es rising; long = length-map es (λ (e : Entry). e.stamp) ∙ sym (length-map es (λ (e : Entry). e.id)) }

-- the stamps without one are those of the entries without it
pub stamps_removed : (es : List Entry) (at : ℕ) → stamps_in (remove es at) ≡ remove (stamps_in es) at
stamps_removed es at =
    let f : Entry → ℕ = λ e. e.stamp in
    map-append f (take at es) (drop (suc at) es) ∙ ap (λ x. x ++ map f (drop (suc at) es)) (sym (take-map f at es)) ∙ ap (λ x. take at (map f es) ++ x) (sym (drop-map f (suc at) es))

-- the stamp at an index is that of the entry there
pub stamp_there : (es : List Entry) (at : ℕ) (e : Entry) → slice_get es at ≡ Some e → slice_get (stamps_in es) at ≡ Some e.stamp
stamp_there [] at e there = absurd (none-some e there)
stamp_there (x ∷ es) zero e there = cc
stamp_there (x ∷ es) (suc at) e there = stamp_there es at e there

absent : (s : ℕ) (es : List Entry) → All (λ e. s < e.stamp) es → position_or_len (λ k. k == s) (stamps_in es) ≡ length es
absent s [] all = refl
absent s (e ∷ es) all =
    let P : Entry → Type 0 = λ e. s < e.stamp in
    let other : (e.stamp == s) ≡ false = let h = All-head P e es all in ne_eqb e.stamp s (λ same. omega (arith, h, same)) in
    let behind = absent s es (All-tail P e es all) in
    rw other (omega (arith, behind))

-- where a stamp stands, told by what stands behind the lower ones
abbrev pub told_place : ℕ → List Entry → ℕ
told_place s es = let n = prefix_len (λ e. nat_lt e.stamp s) es in option_map_or (λ e. cond (e.stamp == s) n (length es)) (slice_get es n) (length es)

one_further : (s n long : ℕ) (o : Option Entry) → option_map_or (λ e. cond (e.stamp == s) (1 + n) (suc long)) o (suc long) ≡ 1 + option_map_or (λ e. cond (e.stamp == s) n long) o long
one_further s n long None = omega arith
one_further s n long (Some e) = elim (cases_Bool (e.stamp == s)) [
  | inl same ↦ rw same refl
  | inr other ↦ rw other (omega arith)
]

further : (e : Entry) (es : List Entry) (n : ℕ) → slice_get (e ∷ es) (1 + n) ≡ slice_get es n
further e es n = let next : 1 + n ≡ suc n = omega arith in ap (slice_get (e ∷ es)) next

place_told : (s : ℕ) (es : List Entry) → AreRising es → position_or_len (λ k. k == s) (stamps_in es) ≡ told_place s es
place_told s [] rising = refl
place_told s (e ∷ es) rising = elim (cases_Bool (nat_lt e.stamp s)) [
  | inl below ↦
      let n = prefix_len (λ e. nat_lt e.stamp s) es in
      let less : e.stamp < s = ltb-true e.stamp s below in
      let other : (e.stamp == s) ≡ false = ne_eqb e.stamp s (λ same. omega (arith, less, same)) in
      let behind = place_told s es (tail_rises e es rising) in
      rw (below, other) (ap (λ k. 1 + k) behind ∙ sym (one_further s n (length es) (slice_get es n))
      ∙ ap (λ o. option_map_or (λ e. cond (e.stamp == s) (1 + n) (suc (length es))) o (suc (length es))) (sym (further e es n)))
  | inr past ↦ elim (cases_Bool (e.stamp == s)) [
    | inl same ↦ rw (past, same) refl
    | inr other ↦
        let least : s ≤ e.stamp = ltb-false e.stamp s past in
        let more : s < e.stamp = elim (cases_Bool (nat_lt s e.stamp)) [
          | inl less ↦ ltb-true s e.stamp less
          | inr not_less ↦ let same : e.stamp ≡ s = let most = ltb-false s e.stamp not_less in omega (arith, least, most) in absurd (eqb-false e.stamp s other same)
        ] in
        let all = All-weaker (λ (l : Entry). e.stamp < l.stamp) (λ (l : Entry). s < l.stamp) (λ l h. omega (arith, h, more)) es (above_head e es rising) in
        rw (past, other) (let none = absent s es all in omega (arith, none))
  ]
]

placed : (s n : ℕ) (es : List Entry) → position_or_len (λ k. k == s) (stamps_in es) ≡ n → cond (nat_lt n (length es)) (Some n) None ≡ position (λ k. k == s) (stamps_in es)
placed s n es is =
    let long = length-map es (λ (e : Entry). e.stamp) in
    ap (λ l. cond (nat_lt n l) (Some n) None) (sym long) ∙ ap (λ k. cond (nat_lt k (length (stamps_in es))) (Some k) None) (sym is)

module _ (s : ℕ) (es : List Entry) (rising : AreRising es) where
  told_by : (o : Option Entry) → slice_get es (prefix_len (λ e. nat_lt e.stamp s) es) ≡ o
      → position_or_len (λ k. k == s) (stamps_in es) ≡ option_map_or (λ e. cond (e.stamp == s) (prefix_len (λ e. nat_lt e.stamp s) es) (length es)) o (length es)
  told_by o is = place_told s es rising ∙ ap (λ o. option_map_or (λ e. cond (e.stamp == s) (prefix_len (λ e. nat_lt e.stamp s) es) (length es)) o (length es)) is

  past_all : position_or_len (λ k. k == s) (stamps_in es) ≡ length es → None ≡ position (λ k. k == s) (stamps_in es)
  past_all is =
      let n = length es in
      let past : nat_lt n n ≡ false = le-ltb n n (omega arith) in
      ap (λ b. cond b (Some n) None) (sym past) ∙ placed s n es is

  rank_none : slice_get es (prefix_len (λ e. nat_lt e.stamp s) es) ≡ None → None ≡ position (λ k. k == s) (stamps_in es)
  rank_none none = past_all (told_by None none)

  rank_other : (e : Entry) → slice_get es (prefix_len (λ e. nat_lt e.stamp s) es) ≡ Some e → (e.stamp == s) ≡ false → None ≡ position (λ k. k == s) (stamps_in es)
  rank_other e there other = past_all (told_by (Some e) there ∙ ap (λ b. cond b (prefix_len (λ e. nat_lt e.stamp s) es) (length es)) other)

  rank_some : (e : Entry) → slice_get es (prefix_len (λ e. nat_lt e.stamp s) es) ≡ Some e → (e.stamp == s) ≡ true
      → Some (prefix_len (λ e. nat_lt e.stamp s) es) ≡ position (λ k. k == s) (stamps_in es)
  rank_some e there same =
      let n = prefix_len (λ e. nat_lt e.stamp s) es in
      let inside : nat_lt n (length es) ≡ true = lt-ltb n (length es) (slice_get_within es n e there) in
      ap (λ b. cond b (Some n) None) (sym inside) ∙ placed s n es (told_by (Some e) there ∙ ap (λ b. cond b n (length es)) same)

  rank_by : (o : Option Entry) (b : Bool) → slice_get es (prefix_len (λ e. nat_lt e.stamp s) es) ≡ o → option_map_or (is_at (to_stamp s)) o false ≡ b
      → cond b (Some (prefix_len (λ e. nat_lt e.stamp s) es)) None ≡ position (λ k. k == s) (stamps_in es)
  rank_by None b is there = ap (λ b. cond b (Some (prefix_len (λ e. nat_lt e.stamp s) es)) None) (sym there) ∙ rank_none is
  rank_by (Some e) true is there = rank_some e is (sym (its_own s e) ∙ there)
  rank_by (Some e) false is there = rank_other e is (sym (its_own s e) ∙ there)

  -- where a search for the stamp stops, it stands or nowhere
  pub rank_told : (at : ℕ) (b : Bool) → at ≡ prefix_len (is_before (to_stamp s)) es → b ≡ option_map_or (is_at (to_stamp s)) (slice_get es at) false
      → cond b (Some at) None ≡ position (λ k. k == s) (stamps_in es)
  rank_told at b here there =
      let counts = here ∙ counted s es in
      let own = there ∙ ap (λ n. option_map_or (is_at (to_stamp s)) (slice_get es n) false) counts in
      ap (λ n. cond b (Some n) None) counts ∙ rank_by (slice_get es (prefix_len (λ e. nat_lt e.stamp s) es)) b refl (sym own)
