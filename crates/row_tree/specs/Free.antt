-- No row stands at a bound once those at it are gone.
use Rattle.std.specs.Prelude.{◌≡◌, ◌≢◌, Bool, true, false, cond, not, List, [], ◌∷◌, filter, refl}
use Rattle.std.proofs.Common.{arith}
use Rattle.std.proofs.lemmas.List.Elements.{All-cons}
use Rattle.std.specs.List.{All}
use Rattle.std.specs.Ordering.{is_eq}
use Rattle.std.specs.declared.cmp.Ordering.{Ordering}
use Rattle.std.specs.declared.cmp.Ordering.TheVariants.{Less, Equal, Greater}
use Rattle.row_tree.specs.Bounds.{is_not_at}

untied : (o : Ordering) → not (is_eq o) ≡ true → o ≢ Equal
untied Less kept same = cc same
untied Equal kept same = cc kept
untied Greater kept same = cc same

pub none_at : {T : Type 0} (standing : T → Ordering) (rows : List T) → All (λ row. standing row ≢ Equal) (filter (is_not_at standing) rows)
none_at standing [] = λ k d below. absurd (omega arith)
none_at {T} standing (x ∷ xs) =
    let kept = filter (is_not_at standing) xs in
    let P : Bool → Type 0 = λ b. not (is_eq (standing x)) ≡ b → All (λ row. standing row ≢ Equal) (cond b (x ∷ kept) kept) in
    elim (not (is_eq (standing x))) as P [
      | true ↦ λ e. All-cons (λ row. standing row ≢ Equal) x kept (untied (standing x) e) (none_at standing xs)
      | false ↦ λ e. none_at standing xs
    ] refl
