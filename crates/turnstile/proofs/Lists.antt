-- Lists that begin one another, and the entries of one actor.
use Rattle.std.proofs.Common.{◌≡◌, ◌≢◌, ◌⊎◌, ℕ, zero, suc, ◌+◌, ◌<◌, ◌≤◌, eqb, ltb, List, [], ◌∷◌, ◌++◌, length, drop, Bool, true, false, cond, refl, sym, ap, ◌∙◌, subst, inl, inr, ⊎_elim, arith, append_assoc, eq-eqb, ne_eqb}
use Rattle.std.proofs.lemmas.List.Elements.{filter-append}
use mathlib.Core.List.{IsPrefix}
use mathlib.Core.Option.{some, some-injective, some-ne-none}
use lib.ListN.{get_elem?}
use mathlib.Core.Logic.{dite}
use native.Mathlib.Decide.{ℕ_discrete}
use Rattle.std.specs.Prelude.{Contains, slice_index}
use Rattle.std.proofs.lemmas.List.{get_or_append_left, get_or-append_right}
use Rattle.std.proofs.lemmas.List.Elements.{Contains-get_or, Contains-push_cases}
use Rattle.turnstile.specs.Entries.{entries_by, AllBy, longer}
use Rattle.turnstile.specs.Rule.{AreNumbers}

module _ {X : Type 0} where
  pub prefix_refl : (a : List X) → IsPrefix a a
  prefix_refl a = ([], simp Rattle.std.proofs.lemmas.List.append-nil)

  pub prefix_more : (a log new : List X) → IsPrefix a log → IsPrefix a (log ++ new)
  prefix_more a log new h = (h.0 ++ new, sym (append_assoc a h.0 new) ∙ ap (λ (z : List X). z ++ new) h.1)

  shorter_begins : (a b log : List X) → length a ≤ length b → IsPrefix a log → IsPrefix b log → IsPrefix a b
  shorter_begins [] b log le h k = (b, refl)
  shorter_begins (x ∷ a) [] log le h k = absurd (omega arith)
  shorter_begins (x ∷ a) (y ∷ b) log le h k =
      let e : x ∷ (a ++ h.0) ≡ y ∷ (b ++ k.0) = h.1 ∙ sym k.1 in
      let first : x ≡ y = cc in
      let rest : a ++ h.0 ≡ b ++ k.0 = cc in
      let r = shorter_begins a b (b ++ k.0) (omega arith) (h.0, rest) (k.0, refl) in
      (r.0, ap (λ (z : X). z ∷ (a ++ r.0)) first ∙ ap (λ (z : List X). y ∷ z) r.1)

  pub record Longer (a b log : List X) : Type 0 where
    pub this : IsPrefix a (longer a b)
    pub that : IsPrefix b (longer a b)
    pub known : IsPrefix (longer a b) log

  longer_at : (a b log : List X) → IsPrefix a log → IsPrefix b log → (t : Bool) → ltb (length a) (length b) ≡ t → Longer a b log
  longer_at a b log h k true is =
      let e : longer a b ≡ b = ap (λ (t : Bool). cond t b a) is in
      let le : length a ≤ length b = grind (arith, Rattle.std.proofs.lemmas.Bool.ltb-true) in
      subst (λ (z : List X). IsPrefix a z × IsPrefix b z × IsPrefix z log → Longer a b log) e (λ t. record { this = t.0; that = t.1; known = t.2 }) (shorter_begins a b log le h k, prefix_refl b, k)
  longer_at a b log h k false is =
      let e : longer a b ≡ a = ap (λ (t : Bool). cond t b a) is in
      let le : length b ≤ length a = grind arith in
      record { this = rw e (prefix_refl a); that = rw e (shorter_begins b a log le k h); known = rw e h }

  pub longer_begins : (a b log : List X) → IsPrefix a log → IsPrefix b log → Longer a b log
  longer_begins a b log h k = longer_at a b log h k (ltb (length a) (length b)) refl

  pub drop_append : (a new : List X) → drop (length a) (a ++ new) ≡ new
  drop_append [] new = refl
  drop_append (x ∷ a) new = drop_append a new

  pub at_snoc : (l : List X) (a b : X) (j : ℕ) → get_elem? (l ++ a ∷ []) j ≡ some b → (get_elem? l j ≡ some b) ⊎ ((j ≡ length l) × (a ≡ b))
  at_snoc [] a b zero e = inr (refl, some-injective a b e)
  at_snoc [] a b (suc j) e = absurd (some-ne-none b (sym e))
  at_snoc (x ∷ xs) a b zero e = inl e
  at_snoc (x ∷ xs) a b (suc j) e = Rattle.std.proofs.Common.⊎_elim inl (λ (t : (j ≡ length xs) × (a ≡ b)). inr (ap suc t.0, t.1)) (at_snoc xs a b j e)

module _ {E : Type 0} (actor : E → ℕ) where
  tail_by : (a : ℕ) (e : E) (es : List E) → AllBy actor a (e ∷ es) → AllBy actor a es
  tail_by a e es h k d l = h (suc k) d (omega arith)

  pub by_all : (a : ℕ) (new : List E) → AllBy actor a new → entries_by actor a new ≡ new
  by_all a [] h = refl
  by_all a (e ∷ es) h = let is : actor e ≡ a = h 0 e (omega arith) in
      ap (λ (t : Bool). cond t (e ∷ entries_by actor a es) (entries_by actor a es)) (eq-eqb (actor e) a is) ∙ ap (λ (z : List E). e ∷ z) (by_all a es (tail_by a e es h))

  pub by_none : (a b : ℕ) (new : List E) → a ≢ b → AllBy actor b new → entries_by actor a new ≡ []
  by_none a b [] ne h = refl
  by_none a b (e ∷ es) ne h = let is : actor e ≡ b = h 0 e (omega arith) in
      ap (λ (t : Bool). cond t (e ∷ entries_by actor a es) (entries_by actor a es)) (ne_eqb (actor e) a (λ q. ne (sym q ∙ is))) ∙ by_none a b es ne (tail_by b e es h)

  -- the entries of another actor stay
  pub by_other : (a b : ℕ) (log new : List E) → a ≢ b → AllBy actor b new → entries_by actor a (log ++ new) ≡ entries_by actor a log
  by_other a b log new ne h = filter-append (λ e. eqb (actor e) a) log new ∙ ap (λ (z : List E). entries_by actor a log ++ z) (by_none a b new ne h) ∙ simp Rattle.std.proofs.lemmas.List.append-nil

  pub by_same : (a : ℕ) (log new : List E) → AllBy actor a new → entries_by actor a (log ++ new) ≡ entries_by actor a log ++ new
  by_same a log new h = filter-append (λ e. eqb (actor e) a) log new ∙ ap (λ (z : List E). entries_by actor a log ++ z) (by_all a new h)

-- a fresh number more
pub numbers_push : (own : ℕ) (made : List ℕ) (a : ℕ) → AreNumbers own made → a ≢ own → ¬ Contains made a → AreNumbers own (made ++ a ∷ [])
numbers_push own made a numbers ne fresh =
    let count : length (made ++ a ∷ []) ≡ length made + 1 = simp Rattle.std.proofs.Common.length-append in
    let before : (i : ℕ) → i < length made → slice_index (made ++ a ∷ []) i ≡ slice_index made i = λ i l. get_or_append_left made (a ∷ []) 0 i l in record {
      distinct = λ i j lt l. dite (ℕ_discrete j (length made))
          (λ e q. let last : slice_index (made ++ a ∷ []) j ≡ a = ap (slice_index (made ++ a ∷ [])) e ∙ last_of made a in
          let l' : i < length made = omega arith in
          fresh (subst (Contains made) (sym (before i l') ∙ (q ∙ last)) (Contains-get_or made i 0 l')))
          (λ ne q. let l' : j < length made = omega arith in
          let l'' : i < length made = omega arith in
          numbers.distinct i j lt l' (sym (before i l'') ∙ (q ∙ before j l')));
      apart = λ c. ⊎_elim (λ (t : Contains made own). numbers.apart t) (λ (e : a ≡ own). ne e) (Contains-push_cases made a own c);
    }
  where
    last_of : (xs : List ℕ) (x : ℕ) → slice_index (xs ++ x ∷ []) (length xs) ≡ x
    last_of [] x = refl
    last_of (y ∷ ys) x = last_of ys x
