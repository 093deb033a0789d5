-- Which slot of a message is found first, and the message with the least place.
use Rattle.std.proofs.Common.{◌≡◌, ℕ, List, [], ◌∷◌, ◌++◌, Bool, true, false, Option, Some, None, IfSome, All, refl, sym, ◌∙◌, ap, subst, find, filter, fold, if◌then◌else◌}
use Rattle.std.specs.Option.{option_or}
use Rattle.std.proofs.lemmas.List.Elements.{All-filter, All-head, All-tail}
use Rattle.std.proofs.lemmas.List.Folds.{find-append}
use Rattle.place_keys.specs.Place.{stands_before}
use Rattle.queue_rows.specs.Dequeueing.{nearer, least}
use Rattle.queue_rows.specs.declared.rows.MsgRow.{MsgRow}

-- ---- the first of two lists

pub found_in_first : (p : ℕ → Bool) (xs ys : List ℕ) (x : ℕ) → find p xs ≡ Some x → find p (xs ++ ys) ≡ Some x
found_in_first p xs ys x e = find-append p xs ys ∙ ap (λ r. option_or r (find p ys)) e

pub found_in_second : (p : ℕ → Bool) (xs ys : List ℕ) → find p xs ≡ None → find p (xs ++ ys) ≡ find p ys
found_in_second p xs ys e = find-append p xs ys ∙ ap (λ r. option_or r (find p ys)) e

-- ---- one message more

module _ (test : MsgRow → Bool) (best : Option MsgRow) (m : MsgRow) (rest more all : List MsgRow) (split : more ≡ m ∷ rest) where
  pub least_goes_on : (near : MsgRow) → test m ≡ true → Some near ≡ nearer best m → fold nearer best (filter test more) ≡ least (filter test all)
      → fold nearer (Some near) (filter test rest) ≡ least (filter test all)
  least_goes_on near passes near_is so =
      let front : fold nearer best (filter test (m ∷ rest)) ≡ fold nearer (nearer best m) (filter test rest) = rw passes refl in
      ap (λ b. fold nearer b (filter test rest)) near_is ∙ sym front ∙ ap (λ ms. fold nearer best (filter test ms)) (sym split) ∙ so

  pub least_stays : test m ≡ false → fold nearer best (filter test more) ≡ least (filter test all) → fold nearer best (filter test rest) ≡ least (filter test all)
  least_stays fails so =
      let front : fold nearer best (filter test (m ∷ rest)) ≡ fold nearer best (filter test rest) = rw fails refl in
      sym front ∙ ap (λ ms. fold nearer best (filter test ms)) (sym split) ∙ so

-- ---- what holds of each holds of the least

module _ (P : MsgRow → Type 0) where
  either_each : (b : Bool) (x y : MsgRow) → P x → P y → IfSome (if b then Some x else Some y) P
  either_each true x y hx hy = hx
  either_each false x y hx hy = hy

  nearer_each : (best : Option MsgRow) (m : MsgRow) → IfSome best P → P m → IfSome (nearer best m) P
  nearer_each None m h here = here
  nearer_each (Some best) m h here = either_each (stands_before m.place best.place) m best here h

  fold_each : (best : Option MsgRow) (ms : List MsgRow) → IfSome best P → All P ms → IfSome (fold nearer best ms) P
  fold_each best [] h all = h
  fold_each best (m ∷ ms) h all = fold_each (nearer best m) ms (nearer_each best m h (All-head P m ms all)) (All-tail P m ms all)

  pub least_is : (test : MsgRow → Bool) (ms : List MsgRow) (m : MsgRow) → All P ms → Some m ≡ least (filter test ms) → P m
  least_is test ms m all is = subst (λ o. IfSome o P) (sym is) (fold_each None (filter test ms) tt (All-filter test P ms all))
