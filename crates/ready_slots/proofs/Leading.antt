-- Messages under stamps, and one row that leads to one of them.
use Rattle.std.proofs.Common.{◌≡◌, ℕ, ◌+◌, Bool, true, false, cond, List, [], ◌∷◌, Option, Some, None, refl, ap, ◌∙◌, subst}
use Rattle.std.proofs.lemmas.List.Elements.{All-head, All-tail}
use Rattle.std.specs.List.{All}
use Rattle.std.specs.Prelude.{◌==◌, find, option_and_then, option_map}
use Rattle.std.specs.Option.{option_map_or}
use Rattle.row_tree.specs.Found.{kept_by}
use Rattle.queue_rows.specs.declared.rows.MsgRow.{MsgRow}
use Rattle.choice_laws.specs.Choosing.{first_passing, looks}
use Rattle.choice_laws.specs.Choosing as rows
use Rattle.choice_laws.specs.Entries.{Entry, Row, message_at, messages_of}

-- ---- messages under stamps

-- what holds of all messages holds of the one under a stamp
pub holds_at : (P : MsgRow → Type 0) (entries : List Entry) (stamp : ℕ) (m : MsgRow) → All P (messages_of entries) → message_at entries stamp ≡ Some m → P m
holds_at P [] stamp m all e = cc e
holds_at P (x ∷ xs) stamp m all e =
    let first = All-head P x.message (messages_of xs) all in
    let rest = All-tail P x.message (messages_of xs) all in
    let Q : Bool → Type 0 = λ b. option_map (λ (y : Entry). y.message) (cond b (Some x) (find (λ (y : Entry). y.stamp == stamp) xs)) ≡ Some m → P m in
    (elim (x.stamp == stamp) as Q [ true ↦ λ f. let same : x.message ≡ m = cc f in subst P same first | false ↦ λ f. holds_at P xs stamp m rest f ]) e

-- ---- one row

module _ (test : MsgRow → Bool) where
  pub missed_by : (o : Option MsgRow) → kept_by test o ≡ None → option_map_or test o false ≡ false
  missed_by None e = refl
  missed_by (Some m) e =
      let P : Bool → Type 0 = λ b. cond b (Some m) None ≡ None → b ≡ false in
      (elim (test m) as P [ true ↦ λ h. cc h | false ↦ λ h. refl ]) e

  pub record IsHit (o : Option MsgRow) (m : MsgRow) : Type 0 where
    pub passes : option_map_or test o false ≡ true
    pub is : o ≡ Some m

  pub hit_by : (o : Option MsgRow) (m : MsgRow) → kept_by test o ≡ Some m → IsHit o m
  hit_by None m e = cc e
  hit_by (Some n) m e =
      let P : Bool → Type 0 = λ b. test n ≡ b → cond b (Some n) None ≡ Some m → IsHit (Some n) m in
      (elim (test n) as P [ true ↦ λ h g. record { passes = h; is = g } | false ↦ λ h g. cc g ]) refl e

module _ (entries : List Entry) (test : MsgRow → Bool) (r : Row) (rest : List Row) where
  module _ (miss : kept_by test (message_at entries r.stamp) ≡ None) where
    fails : rows.passes entries test r ≡ false
    fails = missed_by test (message_at entries r.stamp) miss

    pub missed_first : first_passing entries test (r ∷ rest) ≡ first_passing entries test rest
    missed_first = ap (λ b. option_and_then (λ row. message_at entries row.stamp) (cond b (Some r) (find (rows.passes entries test) rest))) fails

    pub missed_looks : looks (rows.passes entries test) (r ∷ rest) ≡ 1 + looks (rows.passes entries test) rest
    missed_looks = ap (λ b. cond b 1 (1 + looks (rows.passes entries test) rest)) fails

  module _ (m : MsgRow) (hit : kept_by test (message_at entries r.stamp) ≡ Some m) where
    it : IsHit test (message_at entries r.stamp) m
    it = hit_by test (message_at entries r.stamp) m hit

    pub hit_first : first_passing entries test (r ∷ rest) ≡ Some m
    hit_first = ap (λ b. option_and_then (λ row. message_at entries row.stamp) (cond b (Some r) (find (rows.passes entries test) rest))) it.passes ∙ it.is

    pub hit_looks : looks (rows.passes entries test) (r ∷ rest) ≡ 1
    hit_looks = ap (λ b. cond b 1 (1 + looks (rows.passes entries test) rest)) it.passes
