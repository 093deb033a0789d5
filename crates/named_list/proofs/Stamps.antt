-- The stamps of names, as entries come and go.
use Rattle.std.proofs.Common.{◌≡◌, ◌≢◌, ℕ, zero, suc, ◌+◌, ◌<◌, ◌≤◌, Bool, true, false, not, cond, List, [], ◌∷◌, ◌++◌, filter, map, take, drop, length, Option, Some, None, nat_lt, refl, sym, ap, ◌∙◌, subst, arith, inl, inr, append-nil}
use Rattle.std.specs.Prelude.{All, remove, slice_get}
use Rattle.std.specs.Cmp.{nat_cmp_is}
use Rattle.std.specs.Cmp.Lexicographic.{slice_cmp, texts_ties}
use Rattle.std.specs.List.{AllByRecursion, prefix_len}
use Rattle.std.specs.Option.{option_map}
use Rattle.std.specs.Ordering.{is_eq, is_lt, nat_cmp}
use Rattle.std.specs.Str.{bytes_eq}
use Rattle.std.specs.declared.cmp.Ordering.TheVariants.{Less, Equal, Greater}
use Rattle.std.proofs.lemmas.Bool.{cases_eq, cases_Bool, lt-ltb, le-ltb, ltb-true, ltb-false}
use Rattle.std.proofs.lemmas.List.{map-append, take-map, drop-map, length-map}
use Rattle.std.proofs.lemmas.List.Elements.{All-cons, All-weaker, filter-append}
use Rattle.std.proofs.lemmas.Map.Lookups.{exact_bytes}
use Rattle.std.proofs.lemmas.Option.{none-some, slice_get-map}
use Rattle.row_tree.specs.Bounds.{is_before}
use Rattle.row_tree.specs.Order.{put_in_order}
use Rattle.row_tree.specs.Split.{NonePass, IsSplit}
use Rattle.named_list.specs.Order.{key, stamp_cmp}
use Rattle.named_list.specs.Places.{places_from, places_of}
use Rattle.named_list.specs.Stamps.{AreBelow, AreRising, EditsStamps, TellsStamps, is_of, names_in, stamp_of, stamps_in, stamps_of, with_stamp, without_stamp}
use Rattle.named_list.specs.declared.entry.Entry.{Entry}
use Rattle.named_list.specs.declared.entry.Stamp.{Stamp}
use Rattle.named_list.specs.declared.group.Group.{Group}
use Rattle.named_list.proofs.Groups.{is_Equal}

-- ---- numbers in their order

less : (a b : ℕ) → a < b → nat_cmp a b ≡ Less
less a b h = sym (nat_cmp_is a b Less h)

not_less : (a b : ℕ) → b ≤ a → is_lt (nat_cmp a b) ≡ false
not_less a b h = elim (cases_eq a b) [
  | inl same ↦ ap is_lt (sym (nat_cmp_is a b Equal same))
  | inr other ↦ ap is_lt (sym (nat_cmp_is a b Greater (omega arith)))
]

lower : (s : ℕ) (e : Entry) → is_lt (nat_cmp e.stamp s) ≡ nat_lt e.stamp s
lower s e = elim (cases_Bool (nat_lt e.stamp s)) [
  | inl is ↦ ap is_lt (less e.stamp s (ltb-true e.stamp s is)) ∙ sym is
  | inr is ↦ not_less e.stamp s (ltb-false e.stamp s is) ∙ sym is
]

lower_differs : (a b : ℕ) → a < b → nat_cmp a b ≢ Equal
lower_differs a b h same = let below = less a b h in cc (below, same)

kept_apart : (a b : ℕ) → a < b → not (is_eq (nat_cmp a b)) ≡ true
kept_apart a b h = ap (λ o. not (is_eq o)) (less a b h)

kept_above : (a b : ℕ) → b < a → not (is_eq (nat_cmp a b)) ≡ true
kept_above a b h = ap (λ o. not (is_eq o)) (sym (nat_cmp_is a b Greater h))

not_kept : (a : ℕ) → not (is_eq (nat_cmp a a)) ≡ false
not_kept a = ap (λ o. not (is_eq o)) (sym (nat_cmp_is a a Equal refl))

-- ---- what holds of all

module _ {X : Type 0} (P : X → Type 0) where
  all_removed : (xs : List X) (at : ℕ) → AllByRecursion P xs → AllByRecursion P (remove xs at)
  all_removed [] zero all = tt
  all_removed [] (suc at) all = tt
  all_removed (x ∷ xs) zero all = all.1
  all_removed (x ∷ xs) (suc at) all = (all.0, all_removed xs at all.1)

  all_last : (xs : List X) (x : X) → P x → AllByRecursion P xs → AllByRecursion P (xs ++ x ∷ [])
  all_last [] x own all = (own, tt)
  all_last (y ∷ ys) x own all = (all.0, all_last ys x own all.1)

  all_by_index : (xs : List X) → AllByRecursion P xs → All P xs
  all_by_index [] all = λ k d within. absurd (omega (arith, within))
  all_by_index (x ∷ xs) all = All-cons P x xs all.0 (all_by_index xs all.1)

  all_at : (xs : List X) (at : ℕ) (x : X) → slice_get xs at ≡ Some x → AllByRecursion P xs → P x
  all_at [] at x there all = absurd (none-some x there)
  all_at (y ∷ ys) zero x there all = let first : y ≡ x = cc in subst P first all.0
  all_at (y ∷ ys) (suc at) x there all = all_at ys at x there all.1

module _ {X : Type 0} (P Q : X → Type 0) (weaker : (x : X) → P x → Q x) where
  all_weaker : (xs : List X) → AllByRecursion P xs → AllByRecursion Q xs
  all_weaker [] all = tt
  all_weaker (x ∷ xs) all = (weaker x all.0, all_weaker xs all.1)

-- what holds of the stamps of all entries holds of the stamps of a name
module _ (P : ℕ → Type 0) (name : List ℕ) where
  all_told : (es : List Entry) → AllByRecursion (λ e. P e.stamp) es → AllByRecursion (λ s. P s.number) (stamps_of name es)
  all_told [] all = tt
  all_told (e ∷ es) all =
      let Q : Bool → Type 0 = λ b. AllByRecursion (λ (s : Stamp). P s.number) (map stamp_of (cond b (e ∷ filter (λ l. bytes_eq l.name name) es) (filter (λ l. bytes_eq l.name name) es))) in
      elim (bytes_eq e.name name) as Q [ true ↦ (all.0, all_told es all.1) | false ↦ all_told es all.1 ]

-- ---- a search by halves

none_lower : (s : ℕ) (es : List Entry) → AllByRecursion (λ e. s ≤ e.stamp) es → NonePass (is_before (λ (e : Entry). nat_cmp e.stamp s)) es
none_lower s [] above = tt
none_lower s (e ∷ es) above = (not_less e.stamp s above.0, none_lower s es above.1)

pub can_be_halved : (s : ℕ) (es : List Entry) → AreRising es → IsSplit (is_before (λ (e : Entry). nat_cmp e.stamp s)) es
can_be_halved s [] rising = tt
can_be_halved s (e ∷ es) rising = (
  λ fails.
      let past : s ≤ e.stamp = ltb-false e.stamp s (sym (lower s e) ∙ fails) in
      none_lower s es (all_weaker (λ (l : Entry). e.stamp < l.stamp) (λ (l : Entry). s ≤ l.stamp) (λ l h. omega (arith, h, past)) es rising.0),
  can_be_halved s es rising.1,
)

-- how many stand before a stamp
pub counted : (s : ℕ) (es : List Entry) → prefix_len (is_before (λ (e : Entry). nat_cmp e.stamp s)) es ≡ prefix_len (λ e. nat_lt e.stamp s) es
counted s [] = refl
counted s (e ∷ es) =
    ap (λ n. cond (is_lt (nat_cmp e.stamp s)) (1 + n) 0) (counted s es) ∙ ap (λ b. cond b (1 + prefix_len (λ l. nat_lt l.stamp s) es) 0) (lower s e)

-- ---- places by stamps

module _ {X Y : Type 0} (P : X → Type 0) (f g : X → Y) (alike : (x : X) → P x → f x ≡ g x) where
  maps_alike : (xs : List X) → AllByRecursion P xs → map f xs ≡ map g xs
  maps_alike [] all = refl
  maps_alike (x ∷ xs) all = ap (λ y. y ∷ map f xs) (alike x all.0) ∙ ap (λ ys. g x ∷ ys) (maps_alike xs all.1)

-- how many entries stand before a stamp
abbrev before : List Entry → Stamp → ℕ
before es s = prefix_len (λ e. nat_lt e.stamp s.number) es

one_further : (at : ℕ) (e : Entry) (es : List Entry) (s : Stamp) → e.stamp < s.number → at + before (e ∷ es) s ≡ suc at + before es s
one_further at e es s above =
    let moved : at + (1 + before es s) ≡ suc at + before es s = omega arith in
    ap (λ b. at + cond b (1 + before es s) 0) (lt-ltb e.stamp s.number above) ∙ moved

at_once : (at : ℕ) (e : Entry) (es : List Entry) → at + before (e ∷ es) (stamp_of e) ≡ at
at_once at e es =
    let none : at + 0 ≡ at = omega arith in
    let own : nat_lt e.stamp e.stamp ≡ false = le-ltb e.stamp e.stamp (omega arith) in
    ap (λ b. at + cond b (1 + before es (stamp_of e)) 0) own ∙ none

places_told : (at : ℕ) (name : List ℕ) (es : List Entry) → AreRising es → places_from at name (names_in es) ≡ map (λ s. at + before es s) (stamps_of name es)
places_told at name [] rising = refl
places_told at name (e ∷ es) rising =
    let rest = places_from (suc at) name (names_in es) in
    let kept = filter (λ (l : Entry). bytes_eq l.name name) es in
    let above = all_told (λ n. e.stamp < n) name es rising.0 in
    let later : rest ≡ map (λ s. at + before (e ∷ es) s) (stamps_of name es) =
    places_told (suc at) name es rising.1
    ∙ sym (maps_alike (λ (s : Stamp). e.stamp < s.number) (λ s. at + before (e ∷ es) s) (λ s. suc at + before es s) (one_further at e es) (stamps_of name es) above) in
    let Q : Bool → Type 0 = λ b. cond b (at ∷ rest) rest ≡ map (λ s. at + before (e ∷ es) s) (map stamp_of (cond b (e ∷ kept) kept)) in
    elim (bytes_eq e.name name) as Q [
      | true ↦ ap (λ n. n ∷ rest) (sym (at_once at e es)) ∙ ap (λ ns. (at + before (e ∷ es) (stamp_of e)) ∷ ns) later
      | false ↦ later
    ]

from_zero : (es : List Entry) (o : Option Stamp) → option_map (λ s. 0 + before es s) o ≡ option_map (before es) o
from_zero es None = refl
from_zero es (Some s) = let none : 0 + before es s ≡ before es s = omega arith in ap Some none

-- a name stands, for the time of a number, behind the entries with lower stamps than that of the number among its own
pub nth_place : (name : List ℕ) (es : List Entry) (stamps : List Stamp) (number : ℕ) → AreRising es → stamps ≡ stamps_of name es
    → slice_get (places_of name (names_in es)) number ≡ option_map (λ s. prefix_len (λ e. nat_lt e.stamp s.number) es) (slice_get stamps number)
nth_place name es stamps number rising told =
    ap (λ (ns : List ℕ). slice_get ns number) (places_told 0 name es rising)
    ∙ slice_get-map (λ s. 0 + before es s) (stamps_of name es) number
    ∙ from_zero es (slice_get (stamps_of name es) number)
    ∙ ap (λ (ss : List Stamp). option_map (before es) (slice_get ss number)) (sym told)

-- a name stands in as many places as it has stamps
pub places_counted : (name : List ℕ) (es : List Entry) (stamps : List Stamp) → AreRising es → stamps ≡ stamps_of name es → length stamps ≡ length (places_of name (names_in es))
places_counted name es stamps rising told =
    ap length told ∙ sym (length-map (stamps_of name es) (λ s. 0 + before es s)) ∙ sym (ap length (places_told 0 name es rising))

-- ---- an entry comes

pub rises_last : (es : List Entry) (e : Entry) → AreRising es → AreBelow e.stamp es → AreRising (es ++ e ∷ [])
rises_last [] e rising below = (tt, tt)
rises_last (x ∷ xs) e rising below = (all_last (λ (l : Entry). x.stamp < l.stamp) xs e below.0 rising.0, rises_last xs e rising.1 below.1)

pub below_last : (es : List Entry) (e : Entry) → AreBelow e.stamp es → AreBelow (e.stamp + 1) (es ++ e ∷ [])
below_last es e below =
    all_last (λ (l : Entry). l.stamp < e.stamp + 1) es e (omega arith)
    (all_weaker (λ (l : Entry). l.stamp < e.stamp) (λ (l : Entry). l.stamp < e.stamp + 1) (λ l h. omega (arith, h)) es below)

-- the stamps that are kept of a name are below the next one
pub told_below : (name : List ℕ) (next : ℕ) (gs : List Group) (es : List Entry) → TellsStamps gs es → AreBelow next es → All (λ s. s.number < next) (stamps_in name gs)
told_below name next gs es told below =
    subst (All (λ (s : Stamp). s.number < next)) (sym (told name)) (all_by_index (λ (s : Stamp). s.number < next) (stamps_of name es) (all_told (λ n. n < next) name es below))

-- a stamp above all that a name has is free
pub free_stamp : (stamp : ℕ) (ss : List Stamp) → All (λ s. s.number < stamp) ss → All (λ s. nat_cmp s.number stamp ≢ Equal) ss
free_stamp stamp ss below = All-weaker (λ (s : Stamp). s.number < stamp) (λ (s : Stamp). nat_cmp s.number stamp ≢ Equal) (λ s h. lower_differs s.number stamp h) ss below

put_last : (stamp : ℕ) (ss : List Stamp) → AllByRecursion (λ s. s.number < stamp) ss → with_stamp stamp ss ≡ ss ++ record { number = stamp } ∷ []
put_last stamp [] below = refl
put_last stamp (s ∷ ss) below =
    let new : Stamp = record { number = stamp } in
    ap (λ o. cond (is_lt o) (s ∷ put_in_order stamp_cmp new ss) (new ∷ s ∷ ss)) (less s.number stamp below.0) ∙ ap (λ rest. s ∷ rest) (put_last stamp ss below.1)

stamps_last : (name : List ℕ) (es : List Entry) (e : Entry) → stamps_of name (es ++ e ∷ []) ≡ stamps_of name es ++ stamps_of name (e ∷ [])
stamps_last name es e =
    ap (map stamp_of) (filter-append (λ (l : Entry). bytes_eq l.name name) es (e ∷ [])) ∙ map-append stamp_of (filter (λ l. bytes_eq l.name name) es) (filter (λ l. bytes_eq l.name name) (e ∷ []))

-- the names tie exactly where they are the same
ties : (name n : List ℕ) → is_of n (key name) ≡ bytes_eq name n
ties name n = sym (texts_ties name n)

same_name : (name n : List ℕ) → bytes_eq name n ≡ true → name ≡ n
same_name name n same = exact_bytes name n (is_Equal (slice_cmp nat_cmp name n) (ties name n ∙ same))

pub told_pushed : (gs now : List Group) (es : List Entry) (e : Entry) → TellsStamps gs es → AreBelow e.stamp es → EditsStamps e.name (with_stamp e.stamp) gs now → TellsStamps now (es ++ e ∷ [])
told_pushed gs now es e told below edits name =
    let Q : Bool → Type 0 = λ b. bytes_eq e.name name ≡ b
    → cond b (with_stamp e.stamp (stamps_in e.name gs)) (stamps_in name gs) ≡ stamps_of name es ++ map stamp_of (cond b (e ∷ []) []) in
    let is : cond (bytes_eq e.name name) (with_stamp e.stamp (stamps_in e.name gs)) (stamps_in name gs) ≡ stamps_of name es ++ stamps_of name (e ∷ []) =
    elim (bytes_eq e.name name) as Q [
      | true ↦ λ same.
          ap (λ n. with_stamp e.stamp (stamps_in n gs)) (same_name e.name name same)
          ∙ ap (with_stamp e.stamp) (told name)
          ∙ put_last e.stamp (stamps_of name es) (all_told (λ n. n < e.stamp) name es below)
      | false ↦ λ other. told name ∙ sym (append-nil (stamps_of name es))
    ] refl in
    edits name ∙ ap (λ b. cond b (with_stamp e.stamp (stamps_in e.name gs)) (stamps_in name gs)) (ties e.name name) ∙ is ∙ sym (stamps_last name es e)

-- ---- an entry goes

pub rises_removed : (es : List Entry) (at : ℕ) → AreRising es → AreRising (remove es at)
rises_removed [] zero rising = tt
rises_removed [] (suc at) rising = tt
rises_removed (e ∷ es) zero rising = rising.1
rises_removed (e ∷ es) (suc at) rising = (all_removed (λ (l : Entry). e.stamp < l.stamp) es at rising.0, rises_removed es at rising.1)

pub below_removed : (next : ℕ) (es : List Entry) (at : ℕ) → AreBelow next es → AreBelow next (remove es at)
below_removed next es at below = all_removed (λ (e : Entry). e.stamp < next) es at below

none_without : (stamp : ℕ) (ss : List Stamp) → AllByRecursion (λ s. stamp < s.number) ss → without_stamp stamp ss ≡ ss
none_without stamp [] above = refl
none_without stamp (s ∷ ss) above =
    let rest = without_stamp stamp ss in
    ap (λ b. cond b (s ∷ rest) rest) (kept_above s.number stamp above.0) ∙ ap (λ ss. s ∷ ss) (none_without stamp ss above.1)

own_goes : (e : Entry) (ss : List Stamp) → AllByRecursion (λ s. e.stamp < s.number) ss → ss ≡ without_stamp e.stamp (stamp_of e ∷ ss)
own_goes e ss above =
    let rest = without_stamp e.stamp ss in
    sym (none_without e.stamp ss above) ∙ sym (ap (λ b. cond b (stamp_of e ∷ rest) rest) (not_kept e.stamp))

other_stays : (x : Entry) (stamp : ℕ) (b : Bool) (ss : List Stamp) → x.stamp < stamp
    → stamp_of x ∷ cond b (without_stamp stamp ss) ss ≡ cond b (without_stamp stamp (stamp_of x ∷ ss)) (stamp_of x ∷ ss)
other_stays x stamp true ss below = sym (ap (λ b. cond b (stamp_of x ∷ without_stamp stamp ss) (without_stamp stamp ss)) (kept_apart x.stamp stamp below))
other_stays x stamp false ss below = refl

stamps_removed : (name : List ℕ) (es : List Entry) (at : ℕ) (e : Entry) → AreRising es → slice_get es at ≡ Some e
    → stamps_of name (remove es at) ≡ cond (bytes_eq e.name name) (without_stamp e.stamp (stamps_of name es)) (stamps_of name es)
stamps_removed name [] at e rising there = absurd (none-some e there)
stamps_removed name (x ∷ xs) zero e rising there =
    let first : x ≡ e = cc in
    let kept = filter (λ (l : Entry). bytes_eq l.name name) xs in
    let Q : Bool → Type 0 = λ b. stamps_of name xs ≡ cond b (without_stamp x.stamp (map stamp_of (cond b (x ∷ kept) kept))) (map stamp_of (cond b (x ∷ kept) kept)) in
    let is : stamps_of name xs ≡ cond (bytes_eq x.name name) (without_stamp x.stamp (stamps_of name (x ∷ xs))) (stamps_of name (x ∷ xs)) =
    elim (bytes_eq x.name name) as Q [ true ↦ own_goes x (stamps_of name xs) (all_told (λ n. x.stamp < n) name xs rising.0) | false ↦ refl ] in
    is ∙ ap (λ (l : Entry). cond (bytes_eq l.name name) (without_stamp l.stamp (stamps_of name (x ∷ xs))) (stamps_of name (x ∷ xs))) first
stamps_removed name (x ∷ xs) (suc at) e rising there =
    let below : x.stamp < e.stamp = all_at (λ (l : Entry). x.stamp < l.stamp) xs at e there rising.0 in
    let later = stamps_removed name xs at e rising.1 there in
    let own = bytes_eq e.name name in
    let kept = filter (λ (l : Entry). bytes_eq l.name name) xs in
    let left = filter (λ (l : Entry). bytes_eq l.name name) (remove xs at) in
    let Q : Bool → Type 0 = λ b. map stamp_of (cond b (x ∷ left) left) ≡ cond own (without_stamp e.stamp (map stamp_of (cond b (x ∷ kept) kept))) (map stamp_of (cond b (x ∷ kept) kept)) in
    elim (bytes_eq x.name name) as Q [ true ↦ ap (λ ss. stamp_of x ∷ ss) later ∙ other_stays x e.stamp own (stamps_of name xs) below | false ↦ later ]

pub told_removed : (gs now : List Group) (es : List Entry) (at : ℕ) (e : Entry) → AreRising es → slice_get es at ≡ Some e → TellsStamps gs es
    → EditsStamps e.name (without_stamp e.stamp) gs now → TellsStamps now (remove es at)
told_removed gs now es at e rising there told edits name =
    let Q : Bool → Type 0 = λ b. bytes_eq e.name name ≡ b
    → cond b (without_stamp e.stamp (stamps_in e.name gs)) (stamps_in name gs) ≡ cond b (without_stamp e.stamp (stamps_of name es)) (stamps_of name es) in
    let is : cond (bytes_eq e.name name) (without_stamp e.stamp (stamps_in e.name gs)) (stamps_in name gs) ≡ cond (bytes_eq e.name name) (without_stamp e.stamp (stamps_of name es)) (stamps_of name es) =
    elim (bytes_eq e.name name) as Q [
      | true ↦ λ same. ap (λ n. without_stamp e.stamp (stamps_in n gs)) (same_name e.name name same) ∙ ap (without_stamp e.stamp) (told name)
      | false ↦ λ other. told name
    ] refl in
    edits name ∙ ap (λ b. cond b (without_stamp e.stamp (stamps_in e.name gs)) (stamps_in name gs)) (ties e.name name) ∙ is ∙ sym (stamps_removed name es at e rising there)

-- the names without one are those of the entries without it
pub names_removed : (es : List Entry) (at : ℕ) → names_in (remove es at) ≡ remove (names_in es) at
names_removed es at =
    let f : Entry → List ℕ = λ e. e.name in
    map-append f (take at es) (drop (suc at) es) ∙ ap (λ x. x ++ map f (drop (suc at) es)) (sym (take-map f at es)) ∙ ap (λ x. take at (map f es) ++ x) (sym (drop-map f (suc at) es))

pub no_stamps : (ss : List Stamp) → length ss ≤ 0 → [] ≡ ss
no_stamps [] none = refl
no_stamps (s ∷ ss) none = absurd (omega (arith, none))
