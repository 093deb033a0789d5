-- What the suffixes of a text that a pattern matches have to do with each other.
use Rattle.std.proofs.Common.{◌≡◌, ◌≤◌, ℕ, ◌==◌, ◌||◌, List, [], ◌∷◌, Bool, true, false, refl, sym, ap, ◌∙◌, length, arith}
use Rattle.rule_conditions.specs.Like.{some_suffix, one_then, is_like}
use Rattle.rule_conditions.specs.Attempts.{GoesOn}

pub some_here : (f : List ℕ → Bool) (text : List ℕ) → f text ≡ true → some_suffix f text ≡ true
some_here f [] h = h
some_here f (c ∷ text) h = grind arith

pub some_twice : (f : List ℕ → Bool) (text : List ℕ) → some_suffix (some_suffix f) text ≡ some_suffix f text
some_twice f [] = refl
some_twice f (c ∷ text) = grind (arith, some_twice f text)

-- what is matched behind a character is matched behind the first one of all
pub some_stepped : (wanted : ℕ) (f : List ℕ → Bool) (c : ℕ) (text : List ℕ)
    → some_suffix (one_then wanted f) (c ∷ text) ≡ true → some_suffix f text ≡ true
some_stepped wanted f c [] h = grind arith
some_stepped wanted f c (d ∷ text) h = grind (arith, some_here f (d ∷ text), some_stepped wanted f d text)

same_bool : (a b : Bool) → (a ≡ true → b ≡ true) → (b ≡ true → a ≡ true) → a ≡ b
same_bool true b f g = grind (arith, f refl)
same_bool false true f g = g refl
same_bool false false f g = refl

-- what an attempt keeps: the rests of both lists stand for the whole of them
pub record Keeps (pattern text wanted rest : List ℕ) : Type 0 where
  pub here : is_like pattern text ≡ is_like wanted rest
  pub later : some_suffix (is_like pattern) text ≡ true → some_suffix (is_like wanted) rest ≡ true
  pub shorter : length wanted ≤ length pattern
  pub no_longer : length rest ≤ length text

pub keeps_at_first : (pattern text : List ℕ) → Keeps pattern text pattern text
keeps_at_first pattern text = record { here = refl; later = λ h. h; shorter = omega arith; no_longer = omega arith }

-- the lists of Keeps, the first wanted character and those behind it
module _ (pattern text wanted rest : List ℕ) (c : ℕ) (after : List ℕ) (kept : Keeps pattern text wanted rest) (is : wanted ≡ c ∷ after) where
  pub goes_on_at_star : c ≡ 37 → GoesOn pattern text rest after
  goes_on_at_star star =
      let same : is_like wanted rest ≡ some_suffix (is_like after) rest = rw (is, star) refl in
      let twice : some_suffix (is_like wanted) rest ≡ some_suffix (is_like after) rest = rw (is, star) (some_twice (is_like after) rest) in
      let here : is_like pattern text ≡ some_suffix (is_like after) rest = kept.here ∙ same in
      record {
        here = here;
        later = same_bool _ _ (λ h. sym twice ∙ kept.later h) (λ h. some_here (is_like pattern) text (here ∙ h));
        shorter = let l : length wanted ≡ length (c ∷ after) = ap length is in omega (arith, kept.shorter);
        no_longer = kept.no_longer;
      }

  module _ (plain : (c == 37) ≡ false) where
    one : is_like wanted ≡ one_then c (is_like after)
    one = rw (is, plain) refl

    pub fails_without_text : rest ≡ [] → is_like pattern text ≡ false
    fails_without_text none = kept.here ∙ rw (one, none) refl

    module _ (d : ℕ) (rest_after : List ℕ) (rest_is : rest ≡ d ∷ rest_after) where
      pub fails_at_another : (c == 95 || c == d) ≡ false → is_like pattern text ≡ false
      fails_at_another other = kept.here ∙ rw (one, rest_is, other) refl

      pub keeps_behind : (c == 95 || c == d) ≡ true → Keeps pattern text after rest_after
      keeps_behind same = record {
        here = kept.here ∙ rw (one, rest_is, same) refl;
        later = λ h. some_stepped c (is_like after) d rest_after (rw (one, rest_is) at (kept.later h));
        shorter = let l : length wanted ≡ length (c ∷ after) = ap length is in omega (arith, kept.shorter);
        no_longer = let l : length rest ≡ length (d ∷ rest_after) = ap length rest_is in omega (arith, kept.no_longer);
      }
