-- The order of rows: it is total, and rows with different stamps do not tie.
use Rattle.std.proofs.Common.{◌≡◌, ◌≢◌, ℕ, ◌<◌, true, false, cond, not, refl, ap, ◌∙◌, arith, ◌==◌}
use Rattle.std.proofs.lemmas.Bool.{le-ltb, ne_eqb}
use Rattle.std.proofs.lemmas.Cmp.{tied_itself}
use Rattle.std.proofs.lemmas.Map.Lookups.{exact_unsigned}
use Rattle.std.specs.Cmp.{IsTotalOrder, nat_cmp_total, on_total, then_total}
use Rattle.std.specs.Ordering.{is_eq, is_lt, nat_cmp, ordering_then}
use Rattle.std.specs.declared.cmp.Ordering.{Ordering}
use Rattle.std.specs.declared.cmp.Ordering.TheVariants.{Less, Equal, Greater}
use Rattle.place_keys.specs.Place.{place_cmp, stands_before}
use Rattle.place_keys.specs.PlaceLaws.{place_cmp_total}
use Rattle.choice_laws.specs.Entries.{Row, row_cmp}

pub row_cmp_total : IsTotalOrder row_cmp
row_cmp_total = then_total (on_total (λ (r : Row). r.place) place_cmp_total) (on_total (λ (r : Row). r.stamp) nat_cmp_total)

second_tied : (r s : Ordering) → ordering_then r s ≡ Equal → s ≡ Equal
second_tied Less s e = cc e
second_tied Equal s e = e
second_tied Greater s e = cc e

stamps_tied : (a b : Row) → row_cmp a b ≡ Equal → a.stamp ≡ b.stamp
stamps_tied a b e = exact_unsigned a.stamp b.stamp (second_tied (place_cmp a.place b.place) (nat_cmp a.stamp b.stamp) e)

-- rows with different stamps do not tie
pub untied : (a b : Row) → a.stamp ≢ b.stamp → row_cmp a b ≢ Equal
untied a b differ e = differ (stamps_tied a b e)

kept_if_untied : (o : Ordering) → o ≢ Equal → not (is_eq o) ≡ true
kept_if_untied Less d = refl
kept_if_untied Equal d = absurd (d refl)
kept_if_untied Greater d = refl

pub kept_apart : (a b : Row) → a.stamp ≢ b.stamp → not (is_eq (row_cmp a b)) ≡ true
kept_apart a b differ = kept_if_untied (row_cmp a b) (untied a b differ)

pub not_kept_itself : (a : Row) → not (is_eq (row_cmp a a)) ≡ false
not_kept_itself a = ap (λ o. not (is_eq o)) (tied_itself row_cmp_total a)

not_less_later : (a b : ℕ) → b < a → is_lt (nat_cmp a b) ≡ false
not_less_later a b above =
    let ne : (a == b) ≡ false = ne_eqb a b (λ e. omega arith) in
    ap (λ t. is_lt (cond t Less (cond (a == b) Equal Greater))) (le-ltb a b (omega arith)) ∙ ap (λ t. is_lt (cond t Equal Greater)) ne

by_place : (o : Ordering) (a b : ℕ) → b < a → is_lt (ordering_then o (nat_cmp a b)) ≡ is_lt o
by_place Less a b above = refl
by_place Equal a b above = not_less_later a b above
by_place Greater a b above = refl

-- a row with a later stamp stands before another only by its place
pub less_by_place : (a b : Row) → b.stamp < a.stamp → is_lt (row_cmp a b) ≡ stands_before a.place b.place
less_by_place a b above = by_place (place_cmp a.place b.place) a.stamp b.stamp above
