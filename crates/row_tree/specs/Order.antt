-- Rows in an order.
use Rattle.std.specs.Prelude.{◌≡◌, ◌≢◌, Bool, List, [], ◌∷◌, cond, refl}
use Rattle.std.proofs.Common.{sym, ap, ◌∙◌, arith}
use Rattle.std.proofs.lemmas.Cmp.{alike_right, tied_itself}
use Rattle.std.proofs.lemmas.List.Elements.{All-cons}
use Rattle.std.specs.Cmp.{IsTotalOrder}
use Rattle.std.specs.List.{All}
use Rattle.std.specs.Ordering.{is_lt, ordering_reverse}
use Rattle.std.specs.declared.cmp.Ordering.{Ordering}
use Rattle.std.specs.declared.cmp.Ordering.TheVariants.{Less, Equal, Greater}

-- the row stands before each of them
abbrev pub IsBeforeAll : {T : Type 0} → (T → T → Ordering) → T → List T → Type 0
IsBeforeAll order x [] = Unit {0}
IsBeforeAll order x (y ∷ ys) = (order x y ≡ Less) × IsBeforeAll order x ys

-- each row stands before those after it
abbrev pub IsRising : {T : Type 0} → (T → T → Ordering) → List T → Type 0
IsRising order [] = Unit {0}
IsRising order (x ∷ xs) = IsBeforeAll order x xs × IsRising order xs

-- the rows with one more, which stands before the first that does not stand before it
abbrev pub put_in_order : {T : Type 0} → (T → T → Ordering) → T → List T → List T
put_in_order order x [] = x ∷ []
put_in_order order x (y ∷ ys) = cond (is_lt (order y x)) (y ∷ put_in_order order x ys) (x ∷ y ∷ ys)

-- the rows without the first that passes
abbrev pub without_first : {T : Type 0} → (T → Bool) → List T → List T
without_first p [] = []
without_first p (x ∷ xs) = cond (p x) xs (x ∷ without_first p xs)

-- how a row stands to the place right behind another, by how it stands to that one
abbrev pub past_row : Ordering → Ordering
past_row Less = Less
past_row Equal = Less
past_row Greater = Greater

chained : (o p q : Ordering) → (p ≡ Less → q ≡ Less) → (p ≡ Equal → q ≡ Less) → p ≢ Greater → q ≡ Less
chained o Less q less same not_past = less refl
chained o Equal q less same not_past = same refl
chained o Greater q less same not_past = absurd (not_past refl)

along : {T : Type 0} {order : T → T → Ordering} → IsTotalOrder order → (x y z : T) → order x y ≡ Less → order y z ≡ Equal → order x z ≡ Less
along total x y z less same = sym (alike_right total y z x same) ∙ less

-- what stands before a row that stands before a third one or at it stands before that one
pub less_by : {T : Type 0} {order : T → T → Ordering} → IsTotalOrder order → (x y z : T) → order x y ≡ Less → order y z ≢ Greater → order x z ≡ Less
less_by {T} {order} total x y z less not_past = chained Less (order y z) (order x z) (λ e. total.trans x y z less e) (λ e. along total x y z less e) not_past

not_past_row : (o : Ordering) → past_row o ≢ Greater → o ≢ Greater
not_past_row o not_past e = not_past (ap past_row e)

pub less_by_past : {T : Type 0} {order : T → T → Ordering} → IsTotalOrder order → (x y z : T) → order x y ≡ Less → past_row (order y z) ≢ Greater → past_row (order x z) ≡ Less
less_by_past {T} {order} total x y z less not_past = ap past_row (less_by total x y z less (not_past_row (order y z) not_past))

not_less : (o r : Ordering) → o ≡ Less → r ≡ ordering_reverse o → r ≢ Less
not_less Less r less back front = cc (back, front)
not_less Equal r less back front = cc less
not_less Greater r less back front = cc less

none_less : {T : Type 0} {order : T → T → Ordering} → IsTotalOrder order → (x : T) (xs : List T) → IsBeforeAll order x xs → All (λ y. order y x ≢ Less) xs
none_less total x [] before = λ k d below. absurd (omega arith)
none_less {T} {order} total x (y ∷ ys) before =
    All-cons (λ z. order z x ≢ Less) y ys (not_less (order x y) (order y x) before.0 (total.antisymm y x)) (none_less total x ys before.1)

-- the first of rows in their order is the least of them
pub first_is_least : {T : Type 0} {order : T → T → Ordering} → IsTotalOrder order → (x : T) (xs : List T) → IsRising order (x ∷ xs)
    → All (λ y. order y x ≢ Less) (x ∷ xs)
first_is_least {T} {order} total x xs rising =
    let own : order x x ≢ Less = λ less. let tied = tied_itself total x in cc (less, tied) in
    All-cons (λ y. order y x ≢ Less) x xs own (none_less total x xs rising.0)
