-- A walk that keeps the nearest of the messages that pass.
use Rattle.std.proofs.Common.{◌≡◌, List, ◌∷◌, Bool, true, false, cond, ◌&&◌, Option, Some, None, refl, sym, ap, ◌∙◌, filter, fold}
use Rattle.std.proofs.lemmas.Option.{same_Some}
use Rattle.row_tree.specs.Found.{kept_by}
use Rattle.queue_rows.specs.Dequeueing.{least, nearer}
use Rattle.queue_rows.specs.declared.rows.MsgRow.{MsgRow}
use Rattle.ready_slots.proofs.Leading.{hit_by, missed_by}

module _ (test : MsgRow → Bool) (best : Option MsgRow) (m : MsgRow) (rest more all : List MsgRow) (split : more ≡ m ∷ rest) where
  pub nearest_goes_on : (hit near : MsgRow) → kept_by test (Some m) ≡ Some hit → Some near ≡ nearer best hit
      → fold nearer best (filter test more) ≡ least (filter test all) → fold nearer (Some near) (filter test rest) ≡ least (filter test all)
  nearest_goes_on hit near passes near_is so =
      let it = hit_by test (Some m) hit passes in
      let kept : test m ≡ true = it.passes in
      let same : m ≡ hit = same_Some m hit it.is in
      let front : fold nearer best (filter test (m ∷ rest)) ≡ fold nearer (nearer best m) (filter test rest) = rw kept refl in
      ap (λ b. fold nearer b (filter test rest)) (near_is ∙ ap (nearer best) (sym same)) ∙ sym front ∙ ap (λ ms. fold nearer best (filter test ms)) (sym split) ∙ so

  pub nearest_stays : kept_by test (Some m) ≡ None → fold nearer best (filter test more) ≡ least (filter test all) → fold nearer best (filter test rest) ≡ least (filter test all)
  nearest_stays misses so =
      let fails : test m ≡ false = missed_by test (Some m) misses in
      let front : fold nearer best (filter test (m ∷ rest)) ≡ fold nearer best (filter test rest) = rw fails refl in
      sym front ∙ ap (λ ms. fold nearer best (filter test ms)) (sym split) ∙ so

-- where the second test passes, both pass as the first does
pub kept_both : (a b : Bool) (m : MsgRow) → b ≡ true → cond a (Some m) None ≡ cond (a && b) (Some m) None
kept_both true b m e = ap (λ t. cond t (Some m) None) (sym e)
kept_both false b m e = refl
