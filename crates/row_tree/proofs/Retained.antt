-- Rows that pass a test stay: what a walk that takes out the others has done so far.
use Rattle.std.proofs.Common.{◌≡◌, ℕ, ◌+◌, ◌≤◌, Bool, true, false, cond, List, [], ◌∷◌, ◌++◌, length, drop, remove, slice_get, Some, refl, sym, ap, ◌∙◌, subst, append_assoc, append-nil, length-append, arith}
use Rattle.std.specs.List.{items_where_true}
use Rattle.std.specs.List.Retain.{ReturnsInTurn, IsFiltered}
use Rattle.row_tree.proofs.Going.{first_left}

get_seam : {X : Type 0} (front rest : List X) → slice_get (front ++ rest) (length front) ≡ slice_get rest 0
get_seam [] rest = refl
get_seam (y ∷ front) rest = get_seam front rest

remove_seam : {X : Type 0} (front rest : List X) (x : X) → remove (front ++ x ∷ rest) (length front) ≡ front ++ rest
remove_seam [] rest x = refl
remove_seam (y ∷ front) rest x = ap (λ zs. y ∷ zs) (remove_seam front rest x)

items_last : {X : Type 0} (bs : List Bool) (done : List X) (x : X) (b : Bool) → length bs ≡ length done
    → items_where_true (bs ++ b ∷ []) (done ++ x ∷ []) ≡ items_where_true bs done ++ cond b (x ∷ []) []
items_last [] [] x true same = refl
items_last [] [] x false same = refl
items_last [] (y ∷ done) x b same = absurd (omega arith)
items_last (c ∷ bs) [] x b same = absurd (omega arith)
items_last (true ∷ bs) (y ∷ done) x b same = ap (λ zs. y ∷ zs) (items_last bs done x b (omega arith))
items_last (false ∷ bs) (y ∷ done) x b same = items_last bs done x b (omega arith)

none_more : {X : Type 0} (rest : List X) (n k : ℕ) → n + length rest ≤ k → k ≡ n → rest ≡ []
none_more [] n k most at = refl
none_more (x ∷ rest) n k most at = absurd (omega arith)

module _ {X P : Type 0} (R : P → X → Bool → P → Type 0) where
  one_told : (p q u : P) (bs : List Bool) (done : List X) (x : X) (b : Bool) → length bs ≡ length done → ReturnsInTurn R p bs done q → R q x b u
      → ReturnsInTurn R p (bs ++ b ∷ []) (done ++ x ∷ []) u
  one_told p q u [] [] x b same called call = (u, subst (λ s. R s x b u) (sym called) call, refl)
  one_told p q u [] (y ∷ done) x b same called call = absurd (omega arith)
  one_told p q u (c ∷ bs) [] x b same called call = absurd (omega arith)
  one_told p q u (c ∷ bs) (y ∷ done) x b same called call = (called.0, called.1, one_told called.0 q u bs done x b (omega arith) called.2 call)

  -- a test that began as p, and is q now, told of the first rows of xs which of them stay: ys has these, of which there are k, and then the rest
  pub record Retains (p : P) (xs : List X) (q : P) (ys : List X) (k : ℕ) : Type 0 where
    pub told : List Bool
    pub seen : List X
    pub rest : List X
    pub whole : xs ≡ seen ++ rest
    pub long : length told ≡ length seen
    pub called : ReturnsInTurn R p told seen q
    pub stay : ys ≡ items_where_true told seen ++ rest
    pub count : k ≡ length (items_where_true told seen)

  pub begins : (p : P) (xs : List X) → Retains p xs p xs 0
  begins p xs = record { told = []; seen = []; rest = xs; whole = refl; long = refl; called = refl; stay = refl; count = refl }

  -- the row that comes next
  next_is : (p q : P) (xs ys : List X) (k : ℕ) (x : X) (r : Retains p xs q ys k) → slice_get ys k ≡ Some x → r.rest ≡ x ∷ drop 1 r.rest
  next_is p q xs ys k x r some =
      let front = items_where_true r.told r.seen in
      let head : slice_get r.rest 0 ≡ Some x =
      sym (get_seam front r.rest) ∙ ap (λ n. slice_get (front ++ r.rest) n) (sym r.count) ∙ ap (λ zs. slice_get zs k) (sym r.stay) ∙ some in
      first_left r.rest 0 x head

  pub one_stays : (p q u : P) (xs ys : List X) (k : ℕ) (x : X) → Retains p xs q ys k → slice_get ys k ≡ Some x → R q x true u → Retains p xs u ys (k + 1)
  one_stays p q u xs ys k x r some call =
      let front = items_where_true r.told r.seen in
      let tail = drop 1 r.rest in
      let split : r.rest ≡ x ∷ tail = next_is p q xs ys k x r some in
      let last : items_where_true (r.told ++ true ∷ []) (r.seen ++ x ∷ []) ≡ front ++ x ∷ [] = items_last r.told r.seen x true r.long in
      record {
        told = r.told ++ true ∷ [];
        seen = r.seen ++ x ∷ [];
        rest = tail;
        whole = r.whole ∙ ap (λ zs. r.seen ++ zs) split ∙ sym (append_assoc r.seen (x ∷ []) tail);
        long = length-append r.told (true ∷ []) ∙ ap (λ n. n + 1) r.long ∙ sym (length-append r.seen (x ∷ []));
        called = one_told p q u r.told r.seen x true r.long r.called call;
        stay = r.stay ∙ ap (λ zs. front ++ zs) split ∙ sym (append_assoc front (x ∷ []) tail) ∙ ap (λ zs. zs ++ tail) (sym last);
        count = ap (λ n. n + 1) r.count ∙ sym (length-append front (x ∷ [])) ∙ ap length (sym last);
      }

  pub one_goes : (p q u : P) (xs ys : List X) (k : ℕ) (x : X) → Retains p xs q ys k → slice_get ys k ≡ Some x → R q x false u → Retains p xs u (remove ys k) k
  one_goes p q u xs ys k x r some call =
      let front = items_where_true r.told r.seen in
      let tail = drop 1 r.rest in
      let split : r.rest ≡ x ∷ tail = next_is p q xs ys k x r some in
      let last : items_where_true (r.told ++ false ∷ []) (r.seen ++ x ∷ []) ≡ front = items_last r.told r.seen x false r.long ∙ append-nil front in
      record {
        told = r.told ++ false ∷ [];
        seen = r.seen ++ x ∷ [];
        rest = tail;
        whole = r.whole ∙ ap (λ zs. r.seen ++ zs) split ∙ sym (append_assoc r.seen (x ∷ []) tail);
        long = length-append r.told (false ∷ []) ∙ ap (λ n. n + 1) r.long ∙ sym (length-append r.seen (x ∷ []));
        called = one_told p q u r.told r.seen x false r.long r.called call;
        stay =
            ap (λ zs. remove zs k) (r.stay ∙ ap (λ zs. front ++ zs) split) ∙ ap (λ n. remove (front ++ x ∷ tail) n) r.count ∙ remove_seam front tail x
            ∙ ap (λ zs. zs ++ tail) (sym last);
        count = r.count ∙ ap length (sym last);
      }

  pub all_told : (p q : P) (xs ys : List X) (k : ℕ) → Retains p xs q ys k → length ys ≤ k → IsFiltered R p xs ys
  all_told p q xs ys k r most =
      let front = items_where_true r.told r.seen in
      let long = length-append front r.rest in
      let none : r.rest ≡ [] = none_more r.rest (length front) k (omega (arith, long, ap length r.stay)) r.count in
      let whole : xs ≡ r.seen = r.whole ∙ ap (λ zs. r.seen ++ zs) none ∙ append-nil r.seen in (
        r.told,
        q,
        r.long ∙ ap length (sym whole),
        subst (λ zs. ReturnsInTurn R p r.told zs q) (sym whole) r.called,
        r.stay ∙ ap (λ zs. front ++ zs) none ∙ append-nil front ∙ ap (λ zs. items_where_true r.told zs) (sym whole),
      )
