-- A plain text is its own JSON text, in quotes.
use Rattle.std.proofs.Common.{◌≡◌, ℕ, List, [], ◌∷◌, Bool, true, false, ◌&&◌, not, refl, ap, arith}
use Rattle.std.specs.Prelude.{nat_le, ◌==◌}
use Rattle.std.specs.List.{list_all}
use Rattle.std.proofs.lemmas.Grind.{common_steps}
use Rattle.json.specs.Print.{escape, escape_byte}
use Rattle.json.proofs.Printed.Strings.{escape_byte_plain}
use Rattle.transcript.specs.Text.{is_plain, quoted_text, json_text}

both : (a b : Bool) → (a && b) ≡ true → (a ≡ true) × (b ≡ true)
both true b h = (refl, h)
both false b h = cc

plain_byte : (x : ℕ) → is_plain x ≡ true → escape_byte x ≡ x ∷ []
plain_byte x h =
    let one = both (nat_le 32 x && not (x == 34)) (not (x == 92)) h in
    let two = both (nat_le 32 x) (not (x == 34)) one.0 in
    escape_byte_plain x (grind (arith, common_steps)) (grind (arith, common_steps)) (grind (arith, common_steps))

plain_escape : (text : List ℕ) → list_all is_plain text ≡ true → escape text ≡ text
plain_escape [] h = refl
plain_escape (x ∷ text) h =
    let each = both (is_plain x) (list_all is_plain text) h in
    rw (plain_byte x each.0) (ap (λ rest. x ∷ rest) (plain_escape text each.1))

pub plain_text : (text : List ℕ) → list_all is_plain text ≡ true → json_text text ≡ quoted_text text
plain_text text h = rw (plain_escape text h) refl
