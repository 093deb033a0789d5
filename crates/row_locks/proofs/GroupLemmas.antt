-- How the index of groups follows a change of places.
use Rattle.std.proofs.Common.{◌≡◌, ◌≢◌, ℕ, ◌<◌, ◌≤◌, ◌+◌, ◌-◌, ◌==◌, Bool, true, false, cond, ◌⊎◌, inl, inr, Option, Some, None, IsSome, is_some, refl, sym, ◌∙◌, ap, subst, arith}
use Rattle.std.proofs.lemmas.Bool.{cases_eq, cases_lt, cases_Bool, eqb-true, eq-eqb, both_ways, false_from_ne_true}
use Rattle.row_locks.specs.Groups.{is_same_rank, is_same_class, DiffersAt, IsDense, IsClassIndex}
use Rattle.row_locks.specs.declared.classes.Place.{Place}
use Rattle.row_locks.proofs.CellLemmas.{same_rank, rank_is, same_class, key_is}

pub cases_place : (p q : Place) → (p ≡ q) ⊎ (p ≢ q)
cases_place p q = elim (cases_eq p.session q.session) [
  | inl s ↦ elim (cases_eq p.at q.at) [
    | inl a ↦ inl (λ i. record { session = s i; at = a i })
    | inr ne ↦ inr (λ e. ne (ap (λ x. x.at) e))
  ]
  | inr ne ↦ inr (λ e. ne (ap (λ x. x.session) e))
]

pub same_some : {A : Type 0} (a b : A) → Some a ≡ Some b → a ≡ b
same_some a b e = cc e

pub not_none : {A : Type 0} {o : Option A} (a : A) → o ≡ None → o ≡ Some a → ⊥
not_none a none some = let e : None ≡ Some a = sym none ∙ some in cc e

pub some_is : {A : Type 0} {o : Option A} (a : A) → o ≡ Some a → IsSome o
some_is a e = ap is_some e

pub chosen : {A : Type 0} {o : A} (b : Bool) (x y : A) → o ≡ cond b x y → b ≡ true → o ≡ x
chosen b x y told e = told ∙ rw e refl

pub passed : {A : Type 0} {o : A} (b : Bool) (x y : A) → o ≡ cond b x y → b ≡ false → o ≡ y
passed b x y told e = told ∙ rw e refl

-- a key and a rank that are not both those
pub apart : (key k : ℕ) (rank r : ℕ) → ((key ≡ k) × (rank ≡ r) → ⊥) → is_same_rank key rank k r ≡ false
apart key k rank r off = false_from_ne_true (is_same_rank key rank k r) (λ h. off (same_rank key k rank r h))

pub other_key : (key k : ℕ) → (key ≡ k → ⊥) → is_same_class key k ≡ false
other_key key k off = false_from_ne_true (is_same_class key k) (λ h. off (same_class key k h))

pub cases_key : (key k : ℕ) → (key ≡ k) ⊎ (key ≡ k → ⊥)
cases_key key k = elim (cases_Bool (is_same_class key k)) [ inl e ↦ inl (same_class key k e) | inr e ↦ inr (λ h. both_ways (is_same_class key k) e (key_is key k h)) ]

module _ (P P' : ℕ → ℕ → Option Place) (C C' : ℕ → ℕ) (key : ℕ) where
  -- one more mark has the key
  dense_put : (p : Place) → IsDense P C → ((k : ℕ) (r : ℕ) → P' k r ≡ cond (is_same_rank key (C key) k r) (Some p) (P k r))
      → ((k : ℕ) → C' k ≡ cond (is_same_class key k) (C key + 1) (C k)) → IsDense P' C'
  dense_put p dense places counts = record {
    below = λ k r less. elim (cases_Bool (is_same_rank key (C key) k r)) [
      | inl here ↦ some_is p (chosen _ _ _ (places k r) here)
      | inr elsewhere ↦ ap is_some (passed _ _ _ (places k r) elsewhere) ∙ dense.below k r (elim (cases_key key k) [
        | inl same ↦
            let count : C' k ≡ C key + 1 = chosen _ _ _ (counts k) (key_is key k same) in
            let its : C key ≡ C k = ap C same in
            let ne : C key ≡ r → ⊥ = λ e. both_ways (is_same_rank key (C key) k r) elsewhere (rank_is key k (C key) r same e) in
            elim (cases_eq (C key) r) [ inl e ↦ absurd (ne e) | inr far ↦ omega arith ]
        | inr other ↦ let count : C' k ≡ C k = passed _ _ _ (counts k) (other_key key k other) in omega arith
      ])
    ];
    past = λ k r more. elim (cases_key key k) [
      | inl same ↦
          let count : C' k ≡ C key + 1 = chosen _ _ _ (counts k) (key_is key k same) in
          let its : C key ≡ C k = ap C same in
          passed _ _ _ (places k r) (apart key k (C key) r (λ e. absurd (let at = e.1 in omega arith))) ∙ dense.past k r (omega arith)
      | inr other ↦
          let count : C' k ≡ C k = passed _ _ _ (counts k) (other_key key k other) in
          passed _ _ _ (places k r) (apart key k (C key) r (λ e. other e.0)) ∙ dense.past k r (omega arith)
    ];
  }

  -- one mark less has the key, and the last one takes its rank over
  dense_taken : (rank : ℕ) → rank < C key → IsDense P C
      → ((k : ℕ) (r : ℕ) → P' k r ≡ cond (is_same_rank key (C key - 1) k r) None (cond (is_same_rank key rank k r) (P key (C key - 1)) (P k r)))
      → ((k : ℕ) → C' k ≡ cond (is_same_class key k) (C key - 1) (C k)) → IsDense P' C'
  dense_taken rank there dense places counts = record {
    below = λ k r less. elim (cases_key key k) [
      | inl same ↦
          let count : C' k ≡ C key - 1 = chosen _ _ _ (counts k) (key_is key k same) in
          let its : C key ≡ C k = ap C same in
          let inner = passed _ _ _ (places k r) (apart key k (C key - 1) r (λ e. absurd (let at = e.1 in omega arith))) in
          elim (cases_Bool (is_same_rank key rank k r)) [
            | inl here ↦ ap is_some (chosen _ _ _ inner here) ∙ dense.below key (C key - 1) (omega arith)
            | inr elsewhere ↦ ap is_some (passed _ _ _ inner elsewhere) ∙ dense.below k r (omega arith)
          ]
      | inr other ↦
          let count : C' k ≡ C k = passed _ _ _ (counts k) (other_key key k other) in
          let inner = passed _ _ _ (places k r) (apart key k (C key - 1) r (λ e. other e.0)) in
          ap is_some (passed _ _ _ inner (apart key k rank r (λ e. other e.0))) ∙ dense.below k r (omega arith)
    ];
    past = λ k r more. elim (cases_Bool (is_same_rank key (C key - 1) k r)) [
      | inl last ↦ chosen _ _ _ (places k r) last
      | inr elsewhere ↦
          let inner = passed _ _ _ (places k r) elsewhere in
          elim (cases_key key k) [
            | inl same ↦
                let count : C' k ≡ C key - 1 = chosen _ _ _ (counts k) (key_is key k same) in
                let its : C key ≡ C k = ap C same in
                let ne : C key - 1 ≡ r → ⊥ = λ e. both_ways (is_same_rank key (C key - 1) k r) elsewhere (rank_is key k (C key - 1) r same e) in
                let far : C key ≤ r = elim (cases_eq (C key - 1) r) [ inl e ↦ absurd (ne e) | inr f ↦ omega arith ] in
                passed _ _ _ inner (apart key k rank r (λ e. absurd (let at = e.1 in omega arith))) ∙ dense.past k r (omega arith)
            | inr other ↦
                let count : C' k ≡ C k = passed _ _ _ (counts k) (other_key key k other) in
                passed _ _ _ inner (apart key k rank r (λ e. other e.0)) ∙ dense.past k r (omega arith)
          ]
    ];
  }

-- each place is as it was, or has no key and is not in the index
pub index_same : (K K' : Place → Option ℕ) (R R' : Place → Option ℕ) (P P' : ℕ → ℕ → Option Place) (C C' : ℕ → ℕ) → IsClassIndex K R P C
    → ((p : Place) → ((K' p ≡ K p) × (R' p ≡ R p)) ⊎ ((K' p ≡ None) × ((K p ≡ None) ⊎ (R p ≡ None))))
    → ((k : ℕ) (r : ℕ) → P' k r ≡ P k r) → ((k : ℕ) → C' k ≡ C k) → IsClassIndex K' R' P' C'
index_same K K' R R' P P' C C' index each places counts = record {
  found = λ p k r key rank. elim (each p) [
    | inl same ↦ places k r ∙ index.found p k r (sym same.0 ∙ key) (sym same.1 ∙ rank)
    | inr gone ↦ absurd (not_none k gone.0 key)
  ];
  real = λ k r p is.
      let was = index.real k r p (sym (places k r) ∙ is) in
      elim (each p) [
        | inl same ↦ (same.0 ∙ was.0, same.1 ∙ was.1)
        | inr gone ↦ elim (gone.1) [ inl no_key ↦ absurd (not_none k no_key was.0) | inr no_rank ↦ absurd (not_none r no_rank was.1) ]
      ];
  dense = record {
    below = λ k r less. ap is_some (places k r) ∙ index.dense.below k r (let count = counts k in omega arith);
    past = λ k r more. places k r ∙ index.dense.past k r (let count = counts k in omega arith);
  };
}

-- a mark without a key is put where there was none
pub index_beside : (K K' : Place → Option ℕ) (R R' : Place → Option ℕ) (P : ℕ → ℕ → Option Place) (C : ℕ → ℕ) (p : Place) (rank : Option ℕ) → IsClassIndex K R P C → K p ≡ None
    → DiffersAt K K' p None → DiffersAt R R' p rank → IsClassIndex K' R' P C
index_beside K K' R R' P C p rank index vacant keys ranks =
    index_same K K' R R' P P C C index (λ q. elim (cases_place q p) [
      | inl here ↦
          let F : Place → Type 0 = λ x. (K' x ≡ None) × (K x ≡ None) in
          let both = subst F (sym here) (keys.here, vacant) in
          inr (both.0, inl both.1)
      | inr elsewhere ↦ inl (keys.elsewhere q elsewhere, ranks.elsewhere q elsewhere)
    ]) (λ k r. refl) (λ k. refl)

-- a mark with the key is put where there was none
pub index_put : (K K' : Place → Option ℕ) (R R' : Place → Option ℕ) (P P' : ℕ → ℕ → Option Place) (C C' : ℕ → ℕ) (key : ℕ) (p : Place) → IsClassIndex K R P C → K p ≡ None
    → DiffersAt K K' p (Some key) → DiffersAt R R' p (Some (C key)) → ((k : ℕ) (r : ℕ) → P' k r ≡ cond (is_same_rank key (C key) k r) (Some p) (P k r))
    → ((k : ℕ) → C' k ≡ cond (is_same_class key k) (C key + 1) (C k)) → IsClassIndex K' R' P' C'
index_put K K' R R' P P' C C' key p index vacant keys ranks places counts = record {
  found = λ q k r its_key its_rank. elim (cases_place q p) [
    | inl here ↦
        let own : K' p ≡ Some k = let F : Place → Type 0 = λ x. K' x ≡ Some k in subst F here its_key in
        let at : R' p ≡ Some r = let F : Place → Type 0 = λ x. R' x ≡ Some r in subst F here its_rank in
        let same = same_some key k (sym keys.here ∙ own) in
        let rank = same_some (C key) r (sym ranks.here ∙ at) in
        chosen _ _ _ (places k r) (rank_is key k (C key) r same rank) ∙ ap Some (sym here)
    | inr elsewhere ↦
        let was = index.found q k r (sym (keys.elsewhere q elsewhere) ∙ its_key) (sym (ranks.elsewhere q elsewhere) ∙ its_rank) in
        passed _ _ _ (places k r) (apart key k (C key) r (λ e.
        let past : P k r ≡ None = index.dense.past k r (let count : C key ≡ C k = ap C e.0 in let rank = e.1 in omega arith) in
        not_none q past was)) ∙ was
  ];
  real = λ k r q is. elim (cases_Bool (is_same_rank key (C key) k r)) [
    | inl here ↦
        let same = same_rank key k (C key) r here in
        let it : p ≡ q = same_some p q (sym (chosen _ _ _ (places k r) here) ∙ is) in
        let F : Place → Type 0 = λ x. (K' x ≡ Some k) × (R' x ≡ Some r) in
        subst F it (keys.here ∙ ap Some same.0, ranks.here ∙ ap Some same.1)
    | inr elsewhere ↦
        let was = index.real k r q (sym (passed _ _ _ (places k r) elsewhere) ∙ is) in
        let off : q ≢ p = λ e. not_none k vacant (let F : Place → Type 0 = λ x. K x ≡ Some k in subst F e was.0) in
        (keys.elsewhere q off ∙ was.0, ranks.elsewhere q off ∙ was.1)
  ];
  dense = dense_put P P' C C' key p index.dense places counts;
}

pub rank_below : (K : Place → Option ℕ) (R : Place → Option ℕ) (P : ℕ → ℕ → Option Place) (C : ℕ → ℕ) (p : Place) (key : ℕ) (rank : ℕ) → IsClassIndex K R P C → K p ≡ Some key → R p ≡ Some rank
    → rank < C key
rank_below K R P C p key rank index its_key its_rank =
    elim (cases_lt rank (C key)) [ inl less ↦ less | inr more ↦ absurd (not_none p (index.dense.past key rank more) (index.found p key rank its_key its_rank)) ]

not_equal : (a b : ℕ) → (a ≡ b → ⊥) → (a == b) ≡ false
not_equal a b ne = false_from_ne_true (a == b) (λ e. ne (eqb-true a b e))

-- the mark that takes a rank over is the last one, and had another
pub moved_last : (P : ℕ → ℕ → Option Place) (C : ℕ → ℕ) (key : ℕ) (rank : ℕ) (moved : Option Place) (q : Place) → moved ≡ cond (rank == C key - 1) None (P key (C key - 1))
    → moved ≡ Some q → (rank ≡ C key - 1 → ⊥) × (P key (C key - 1) ≡ Some q)
moved_last P C key rank moved q told it = elim (cases_eq rank (C key - 1)) [
  | inl is_last ↦ absurd (not_none q (chosen _ _ _ told (eq-eqb rank (C key - 1) is_last)) it)
  | inr not_last ↦ (not_last, sym (passed _ _ _ told (not_equal rank (C key - 1) not_last)) ∙ it)
]

-- the mark at p leaves, and where another one takes its rank over, that one is at the place that was told
pub index_taken : (K : Place → Option ℕ) (R R' : Place → Option ℕ) (P P' : ℕ → ℕ → Option Place) (C C' : ℕ → ℕ) (key : ℕ) (rank : ℕ) (p : Place) (moved : Option Place)
    → IsClassIndex K R P C → K p ≡ Some key → R p ≡ Some rank → moved ≡ cond (rank == C key - 1) None (P key (C key - 1))
    → R' p ≡ None → ((q : Place) → moved ≡ Some q → R' q ≡ Some rank) → ((q : Place) → q ≢ p → (moved ≡ Some q → ⊥) → R' q ≡ R q)
    → ((k : ℕ) (r : ℕ) → P' k r ≡ cond (is_same_rank key (C key - 1) k r) None (cond (is_same_rank key rank k r) (P key (C key - 1)) (P k r)))
    → ((k : ℕ) → C' k ≡ cond (is_same_class key k) (C key - 1) (C k)) → IsClassIndex K R' P' C'
index_taken K R R' P P' C C' key rank p moved index its_key its_rank told out over rest places counts = record {
  found = λ q k r key_q rank_q. elim (cases_place q p) [
    | inl here ↦ absurd (not_none r out (let F : Place → Type 0 = λ x. R' x ≡ Some r in subst F here rank_q))
    | inr elsewhere ↦ elim (cases_moved moved q) [
      | inl it ↦
          let last = moved_last P C key rank moved q told it in
          let own = index.real key (C key - 1) q last.1 in
          let same : key ≡ k = same_some key k (sym own.0 ∙ key_q) in
          let at : rank ≡ r = same_some rank r (sym (over q it) ∙ rank_q) in
          let inner = passed _ _ _ (places k r) (apart key k (C key - 1) r (λ e. last.0 (at ∙ sym e.1))) in
          chosen _ _ _ inner (rank_is key k rank r same at) ∙ last.1
      | inr not_it ↦
          let was = index.found q k r key_q (sym (rest q elsewhere not_it) ∙ rank_q) in
          let inner = passed _ _ _ (places k r) (apart key k (C key - 1) r (λ e.
          let at_last : P key (C key - 1) ≡ Some q = (λ i. P (e.0 i) (e.1 i)) ∙ was in
          elim (cases_eq rank (C key - 1)) [
            | inl is_last ↦ elsewhere (same_some q p (sym at_last ∙ ap (P key) (sym is_last) ∙ present))
            | inr not_last ↦ not_it (passed _ _ _ told (not_equal rank (C key - 1) not_last) ∙ at_last)
          ])) in
          passed _ _ _ inner (apart key k rank r (λ e. elsewhere (same_some q p (sym was ∙ (λ i. P (sym e.0 i) (sym e.1 i)) ∙ present)))) ∙ was
    ]
  ];
  real = λ k r q is. elim (cases_Bool (is_same_rank key (C key - 1) k r)) [
    | inl last ↦ absurd (not_none q (chosen _ _ _ (places k r) last) is)
    | inr not_last ↦
        let inner = passed _ _ _ (places k r) not_last in
        elim (cases_Bool (is_same_rank key rank k r)) [
          | inl here ↦
              let same = same_rank key k rank r here in
              let at_last : P key (C key - 1) ≡ Some q = sym (chosen _ _ _ inner here) ∙ is in
              let own = index.real key (C key - 1) q at_last in
              let off : rank ≡ C key - 1 → ⊥ = λ e. both_ways (is_same_rank key (C key - 1) k r) not_last (rank_is key k (C key - 1) r same.0 (sym e ∙ same.1)) in
              let it : moved ≡ Some q = passed _ _ _ told (not_equal rank (C key - 1) off) ∙ at_last in
              (own.0 ∙ ap Some same.0, over q it ∙ ap Some same.1)
          | inr elsewhere ↦
              let was = index.real k r q (sym (passed _ _ _ inner elsewhere) ∙ is) in
              let off : q ≢ p = λ e.
              let own : K p ≡ Some k = let F : Place → Type 0 = λ x. K x ≡ Some k in subst F e was.0 in
              let at : R p ≡ Some r = let F : Place → Type 0 = λ x. R x ≡ Some r in subst F e was.1 in
              both_ways (is_same_rank key rank k r) elsewhere (rank_is key k rank r (same_some key k (sym its_key ∙ own)) (same_some rank r (sym its_rank ∙ at))) in
              let stays : moved ≡ Some q → ⊥ = λ it.
              let own = index.real key (C key - 1) q (moved_last P C key rank moved q told it).1 in
              both_ways (is_same_rank key (C key - 1) k r) not_last (rank_is key k (C key - 1) r (same_some key k (sym own.0 ∙ was.0)) (same_some (C key - 1) r (sym own.1 ∙ was.1))) in
              (was.0, rest q off stays ∙ was.1)
        ]
  ];
  dense = dense_taken P P' C C' key rank (rank_below K R P C p key rank index its_key its_rank) index.dense places counts;
}
  where
    present : P key rank ≡ Some p
    present = index.found p key rank its_key its_rank

    cases_moved : (m : Option Place) (q : Place) → (m ≡ Some q) ⊎ (m ≡ Some q → ⊥)
    cases_moved None q = inr (λ e. cc e)
    cases_moved (Some x) q = elim (cases_place x q) [ inl e ↦ inl (ap Some e) | inr ne ↦ inr (λ e. ne (same_some x q e)) ]
