-- What is written in two calls is one text.
use Rattle.std.proofs.Common.{◌≡◌, ℕ, List, ◌++◌, Result, Ok, Err, OnOk, ap, sym, ◌∙◌, append_assoc}
use Rattle.std.specs.Prelude.{is_ok, if◌then◌else◌}

pub in_two : {T E : Type 0} (answer : Result T E) (before between after first second text : List ℕ) → text ≡ first ++ second → between ≡ before ++ first
    → OnOk answer (after ≡ between ++ second) → OnOk answer (after ≡ before ++ text)
in_two (Ok x) before between after first second text whole e h =
    h ∙ ap (λ t. t ++ second) e ∙ append_assoc before first second ∙ ap (λ t. before ++ t) (sym whole)
in_two (Err x) before between after first second text whole e h = tt

-- what a push says of both answers, of the good one alone
pub on_ok : {T E : Type 0} (answer : Result T E) (after more same : List ℕ) → after ≡ (if is_ok answer then more else same) → OnOk answer (after ≡ more)
on_ok (Ok x) after more same h = h
on_ok (Err x) after more same h = tt
