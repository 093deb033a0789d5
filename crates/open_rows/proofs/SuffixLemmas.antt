-- Whether a text is another with a suffix, told from its two parts.
use Rattle.std.proofs.Common.{◌≡◌, ℕ, ◌+◌, List, ◌++◌, length, length-append, take, drop, true, false, ◌&&◌, sym, ap, ◌∙◌, arith}
use Rattle.std.specs.Str.{bytes_eq}
use Rattle.std.proofs.lemmas.Bool.Decides.{same_from_decides, Decides-and, Decides-like}
use Rattle.std.proofs.lemmas.List.{take-append-drop}
use Rattle.std.proofs.lemmas.Slice.Eq.{bytes_eq-Decides}
use Rattle.std.proofs.Math.Seq.{take-append_seam, drop-append_seam}

joined : (q t s : List ℕ) (n : ℕ) → (take n q ≡ t) × (drop n q ≡ s) → q ≡ t ++ s
joined q t s n both = sym (take-append-drop n q) ∙ ap (λ x. x ++ drop n q) both.0 ∙ ap (λ x. t ++ x) both.1

parted : (q t s : List ℕ) (n : ℕ) → n + length s ≡ length q → q ≡ t ++ s → (take n q ≡ t) × (drop n q ≡ s)
parted q t s n fits is =
    let long : n ≡ length t = omega (arith, length-append t s, ap length is) in
    (ap (λ k. take k q) long ∙ ap (take (length t)) is ∙ take-append_seam t s, ap (λ k. drop k q) long ∙ ap (drop (length t)) is ∙ drop-append_seam t s)

suffix_is : (q t s : List ℕ) (n : ℕ) → n + length s ≡ length q → (bytes_eq (take n q) t && bytes_eq (drop n q) s) ≡ bytes_eq q (t ++ s)
suffix_is q t s n fits =
    same_from_decides _ (bytes_eq q (t ++ s))
    (Decides-like (bytes_eq (take n q) t && bytes_eq (drop n q) s) (joined q t s n) (parted q t s n fits)
    (Decides-and (bytes_eq (take n q) t) (bytes_eq (drop n q) s) (bytes_eq-Decides (take n q) t) (bytes_eq-Decides (drop n q) s)))
    (bytes_eq-Decides q (t ++ s))

-- the front is the text, so the rest decides
pub suffix_decides : (q t s : List ℕ) (n : ℕ) → n + length s ≡ length q → bytes_eq (take n q) t ≡ true → bytes_eq (drop n q) s ≡ bytes_eq q (t ++ s)
suffix_decides q t s n fits front = ap (λ b. b && bytes_eq (drop n q) s) (sym front) ∙ suffix_is q t s n fits

-- the front is not the text
pub other_front : (q t s : List ℕ) (n : ℕ) → n + length s ≡ length q → bytes_eq (take n q) t ≡ false → false ≡ bytes_eq q (t ++ s)
other_front q t s n fits front = ap (λ b. b && bytes_eq (drop n q) s) (sym front) ∙ suffix_is q t s n fits
