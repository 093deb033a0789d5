-- What most messages say of themselves is one text.
use Rattle.std.proofs.Common.{◌≡◌, ℕ, ℤ, pos, List, ◌++◌, Option, None, append_assoc, arith}
use Rattle.std.specs.Prelude.{codes, decimal}
use Rattle.std.specs.Fmt.{signed_decimal}
use Rattle.std.proofs.lemmas.Fmt.{decimal_digit}
use Rattle.transcript.specs.Text.{json_or_null}

-- what stands behind the first of seven texts is one text
seven_parts : (a b c d e f g : List ℕ) → a ++ b ++ c ++ d ++ e ++ f ++ g ≡ a ++ (b ++ (c ++ (d ++ (e ++ (f ++ g)))))
seven_parts a b c d e f g = simp append_assoc

pub usual_parts : (id : List ℕ) (priority : ℤ) (retries : ℕ) (corr : Option (List ℕ)) → priority ≡ pos 1 → retries ≡ 0 → corr ≡ None
    → id ++ codes " priority " ++ signed_decimal priority ++ codes " retries " ++ decimal retries ++ codes " corr " ++ json_or_null corr ≡ id ++ codes " priority 1 retries 0 corr null"
usual_parts id priority retries corr p r n =
    let one : signed_decimal (pos 1) ≡ codes "1" = decimal_digit 1 (omega arith) in
    let zero : decimal 0 ≡ codes "0" = decimal_digit 0 (omega arith) in
    rw (p, r, n, one, zero) (seven_parts id (codes " priority ") (codes "1") (codes " retries ") (codes "0") (codes " corr ") (codes "null"))
