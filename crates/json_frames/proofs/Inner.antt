-- A text with a front and a back has one part between them.
use Rattle.std.proofs.Common.{◌≡◌, ℕ, ◌+◌, ◌<◌, List, [], ◌∷◌, ◌++◌, length, get_or, drop, true, false, not, refl, sym, ap, ap₂, ◌∙◌, arith, length-append}
use Rattle.std.proofs.lemmas.List.{append_cancel_left, append_cancel_right}
use Rattle.std.proofs.lemmas.Bool.{true≢false}
use Rattle.std.proofs.lemmas.Slice.Eq.{bytes_eq-Decides}
use Rattle.std.specs.Str.{bytes_eq}
use Rattle.json_frames.specs.Frame.{is_flat}

-- lists of one length that begin two lists that are the same
fronts : {A : Type 0} (xs ys us vs : List A) → xs ++ us ≡ ys ++ vs → length xs ≡ length ys → (xs ≡ ys) × (us ≡ vs)
fronts [] [] us vs e n = (refl, e)
fronts [] (y ∷ ys) us vs e n = absurd (omega arith)
fronts (x ∷ xs) [] us vs e n = absurd (omega arith)
fronts (x ∷ xs) (y ∷ ys) us vs e n =
    let later = fronts xs ys us vs (ap (drop 1) e) (omega arith) in
    (ap₂ (λ a list. a ∷ list) (ap (λ l. get_or l 0 x) e) later.0, later.1)

pub parted : (front inner back text before rest behind : List ℕ) → text ≡ before ++ rest → rest ≡ inner ++ behind → before ≡ front → behind ≡ back → text ≡ front ++ (inner ++ back)
parted front inner back text before rest behind t r f b = t ∙ ap₂ (λ x y. x ++ y) f (r ∙ ap (λ y. inner ++ y) b)

pub too_short : (front back text inner : List ℕ) → length text < length front + length back → text ≡ front ++ (inner ++ back) → ⊥
too_short front back text inner n e = omega (arith, ap length e, length-append front (inner ++ back), length-append inner back)

pub front_is : (front back text before rest inner : List ℕ) → text ≡ before ++ rest → length before ≡ length front → text ≡ front ++ (inner ++ back) → before ≡ front
front_is front back text before rest inner t n e = (fronts before front rest (inner ++ back) (sym t ∙ e) n).0

pub back_is : (front back text before rest inner middle behind : List ℕ) → text ≡ before ++ rest → length before ≡ length front → rest ≡ middle ++ behind → length behind ≡ length back → text ≡ front ++ (inner ++ back) → behind ≡ back
back_is front back text before rest inner middle behind t n r m e =
    let same : middle ++ behind ≡ inner ++ back = sym r ∙ (fronts before front rest (inner ++ back) (sym t ∙ e) n).1 in
    (fronts middle inner behind back same (omega (arith, ap length same, length-append middle behind, length-append inner back))).1

pub one_part : (front back text inner : List ℕ) → text ≡ front ++ (inner ++ back) → is_flat inner ≡ false → (other : List ℕ) → text ≡ front ++ (other ++ back) → is_flat other ≡ false
one_part front back text inner e not_flat other f =
    let same : inner ≡ other = append_cancel_right inner other back (append_cancel_left front (inner ++ back) (other ++ back) (sym e ∙ f)) in
    ap is_flat (sym same) ∙ not_flat

pub unlike : (xs ys : List ℕ) → true ≡ not (bytes_eq xs ys) → xs ≡ ys → ⊥
unlike xs ys differs same = true≢false (differs ∙ ap not ((bytes_eq-Decides xs ys).1 same))
