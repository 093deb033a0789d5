-- The last byte of a text.
use Rattle.std.proofs.Common.{◌≡◌, ℕ, suc, ◌-◌, arith, List, [], ◌∷◌, length, Bool, false, ◌==◌, Option, Some, None, refl, ap, ◌∙◌}
use Rattle.std.specs.Prelude.{slice_get}
use Rattle.json_frames.specs.Frame.{ends_at}

abbrev is_byte : ℕ → Option ℕ → Bool
is_byte byte None = false
is_byte byte (Some last) = last == byte

end_is : (byte : ℕ) (text : List ℕ) → is_byte byte (slice_get text (length text - 1)) ≡ ends_at byte text
end_is byte [] = refl
end_is byte (last ∷ []) = refl
end_is byte (first ∷ next ∷ rest) =
    let here : suc (suc (length rest)) - 1 ≡ suc (length rest) = omega arith in
    let next_at : length rest ≡ suc (length rest) - 1 = omega arith in
    ap (λ n. is_byte byte (slice_get (first ∷ next ∷ rest) n)) here ∙ ap (λ n. is_byte byte (slice_get (next ∷ rest) n)) next_at ∙ end_is byte (next ∷ rest)

pub last_is_end : (byte last : ℕ) (text : List ℕ) → Some last ≡ slice_get text (length text - 1) → (last == byte) ≡ ends_at byte text
last_is_end byte last text e = ap (is_byte byte) e ∙ end_is byte text

pub no_last : (byte : ℕ) (text : List ℕ) → None ≡ slice_get text (length text - 1) → false ≡ ends_at byte text
no_last byte text e = ap (is_byte byte) e ∙ end_is byte text
