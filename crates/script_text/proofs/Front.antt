-- A script depends on no byte past the first one that is too many.
use Rattle.std.proofs.Common.{◌≡◌, ℕ, ◌<◌, ◌≤◌, ◌⊎◌, List, take, length, refl, sym, ap, ◌∙◌, inl, inr, arith}
use Rattle.std.proofs.lemmas.List.{take_all, length-take-le, take-take}
use Rattle.std.proofs.lemmas.Bool.{lt-leb, cases_lt}
use Rattle.script_text.specs.Script.{script, past_limit, NeedsOnlyTheFront}

too_long : (bytes : List ℕ) → 67108864 < length bytes → script bytes ≡ past_limit (take 67108864 bytes)
unfolding script
too_long bytes h = rw (lt-leb (length bytes) 67108864 h) refl

by_length : (bytes : List ℕ) → (67108864 < length bytes) ⊎ (length bytes ≤ 67108864) → NeedsOnlyTheFront bytes
by_length bytes (inl h) =
    let long : 67108864 < length (take 67108865 bytes) = rw (length-take-le 67108865 bytes (omega arith)) (omega arith) in
    let same : take 67108864 (take 67108865 bytes) ≡ take 67108864 bytes = take-take 67108864 67108865 bytes (omega arith) in
    too_long (take 67108865 bytes) long ∙ ap past_limit same ∙ sym (too_long bytes h)
by_length bytes (inr h) = ap script (take_all 67108865 bytes (omega arith))

pub needs_only_the_front : (bytes : List ℕ) → NeedsOnlyTheFront bytes
needs_only_the_front bytes = by_length bytes (cases_lt 67108864 (length bytes))
