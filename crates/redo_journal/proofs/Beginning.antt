-- What an image stands for while a journal is begun.
use Rattle.std.proofs.Common.{◌≡◌, ⊎_elim, inl, inr, ◌⊎◌, ℕ, ◌<◌, ◌≤◌, Bool, true, false, not, ◌&&◌, ◌||◌, List, [], ◌∷◌, ◌++◌, length, take, drop, get_or, refl, sym, ◌∙◌, ap, subst, arith, take-append-drop}
use Rattle.std.specs.Prelude.{nat_le, ◌==◌, Ok, slice_index, slice_range, if◌then◌else◌}
use Rattle.std.specs.Int.{w64, to_be_bytes}
use Rattle.std.proofs.lemmas.Bool.{cases_eq, cases_lt}
use Rattle.std.proofs.lemmas.Grind.{common_steps}
use Rattle.std.proofs.lemmas.List.{get_or-take, drop-drop}
use Rattle.std.proofs.lemmas.Slice.Eq.{bytes_eq-Decides}
use Rattle.aq_disk.specs.Disk.{after_write, Torn, Only}
use Rattle.redo_journal.specs.Journal.{magic, beginning, version_bytes, has_beginning, is_unbegun, begun, outline, outline_of, mounted_of, journal}
use Rattle.redo_journal.specs.Begun.{IsShut, begun_bytes}
use Rattle.redo_journal.specs.Crash.{contents_of, StandsForNone, IsAtRest}
use Rattle.redo_journal.specs.declared.frame.Side.TheVariants.{A}
use Rattle.redo_journal.proofs.Numbers.{le_test}
use Rattle.redo_journal.proofs.Heads.{IsOpening, mounted, journal_closed, begun_front}

-- an opened header of an area without frames, up to the area's first gate
abbrev start : ℕ → List ℕ
start version = 1 ∷ (magic ++ 0 ∷ [] ++ to_be_bytes w64 24 ++ to_be_bytes w64 0 ++ version_bytes version)

opening_1 : IsOpening 1 A 24 (start 1)
opening_1 = record { long = refl; past = omega arith; header = refl; side_is = refl; root_is = refl; version_is = refl; known = refl }

opening_2 : IsOpening 2 A 24 (start 2)
opening_2 = record { long = refl; past = omega arith; header = refl; side_is = refl; root_is = refl; version_is = refl; known = refl }

open_1 : (rest : List ℕ) → journal (1 ∷ (beginning 1 ++ rest)) ≡ Ok (mounted 1 A 24 28 [])
open_1 rest = journal_closed 1 A 24 (start 1) [] [] 0 rest opening_1 refl (λ one. omega arith)

pub open_2 : (rest : List ℕ) → journal (1 ∷ (beginning 2 ++ rest)) ≡ Ok (mounted 2 A 24 28 [])
open_2 rest = journal_closed 2 A 24 (start 2) [] [] 0 rest opening_2 refl (λ one. omega arith)

pub open_begun : (rest : List ℕ) → is_unbegun (1 ∷ (beginning 2 ++ rest)) ≡ false
open_begun rest = begun_front 2 A 24 (start 2) (0 ∷ rest) opening_2

-- ---- not begun

pub unbegun_none : (image : List ℕ) → is_unbegun image ≡ true → StandsForNone image
unfolding journal outline
unbegun_none image is = (2, ap (λ (t : Bool). contents_of (mounted_of (if t then Ok begun else outline_of image))) is)

or_first : (a b c : Bool) → a ≡ true → (a || b || c) ≡ true
or_first true b c is = refl
or_first false b c is = absurd (cc)

or_second : (a b c : Bool) → b ≡ true → (a || b || c) ≡ true
or_second true true c is = refl
or_second false true c is = refl
or_second a false c is = absurd (cc)

or_third : (a b c : Bool) → c ≡ true → (a || b || c) ≡ true
or_third true b true is = refl
or_third false true true is = refl
or_third false false true is = refl
or_third a b false is = absurd (cc)

abbrev third : List ℕ → Bool
third bytes = not (slice_index bytes 0 == 1) && (has_beginning 1 bytes || has_beginning 2 bytes)

pub short_unbegun : (image : List ℕ) → length image ≤ 1 → is_unbegun image ≡ true
short_unbegun image le = or_first (nat_le (length image) 1) (slice_index image 0 == 0) (third image) (le_test (length image) 1 le)

eq_test : (a b : ℕ) → a ≡ b → (a == b) ≡ true
eq_test a b is = grind (arith, common_steps)

ne_test : (a b : ℕ) → (a ≡ b → ⊥) → (a == b) ≡ false
ne_test a b is = grind (arith, common_steps)

pub shut_unbegun : (image : List ℕ) → slice_index image 0 ≡ 0 → is_unbegun image ≡ true
shut_unbegun image is = or_second (nat_le (length image) 1) (slice_index image 0 == 0) (third image) (eq_test (slice_index image 0) 0 is)

marked_1 : (x : ℕ) (rest : List ℕ) → (x ≡ 1 → ⊥) → is_unbegun (x ∷ (beginning 1 ++ rest)) ≡ true
marked_1 x rest shut =
    let image = x ∷ (beginning 1 ++ rest) in
    or_third (nat_le (length image) 1) (x == 0) (third image) (ap (λ (t : Bool). not t && (has_beginning 1 image || has_beginning 2 image)) (ne_test x 1 shut))

marked_2 : (x : ℕ) (rest : List ℕ) → (x ≡ 1 → ⊥) → is_unbegun (x ∷ (beginning 2 ++ rest)) ≡ true
marked_2 x rest shut =
    let image = x ∷ (beginning 2 ++ rest) in
    or_third (nat_le (length image) 1) (x == 0) (third image) (ap (λ (t : Bool). not t && (has_beginning 1 image || has_beginning 2 image)) (ne_test x 1 shut))

-- whatever the first byte is, no commit stands in front of a beginning
pub any_1 : (x : ℕ) (rest : List ℕ) → StandsForNone (x ∷ (beginning 1 ++ rest))
any_1 x rest = elim (cases_eq x 1) [
  | inl one ↦ (1, ap contents_of (ap (λ (k : ℕ). journal (k ∷ (beginning 1 ++ rest))) one ∙ open_1 rest))
  | inr shut ↦ unbegun_none (x ∷ (beginning 1 ++ rest)) (marked_1 x rest shut)
]

pub any_2 : (x : ℕ) (rest : List ℕ) → StandsForNone (x ∷ (beginning 2 ++ rest))
any_2 x rest = elim (cases_eq x 1) [
  | inl one ↦ (2, ap contents_of (ap (λ (k : ℕ). journal (k ∷ (beginning 2 ++ rest))) one ∙ open_2 rest))
  | inr shut ↦ unbegun_none (x ∷ (beginning 2 ++ rest)) (marked_2 x rest shut)
]

-- ---- the writes of a beginning

third_of : (a b c : Bool) → a ≡ false → b ≡ false → (a || b || c) ≡ true → c ≡ true
third_of false false c p q is = is
third_of true b c p q is = absurd (cc)
third_of false true c p q is = absurd (cc)

right_of : (a b : Bool) → (a && b) ≡ true → b ≡ true
right_of true b is = is
right_of false b is = absurd (cc)

either_of : (a b : Bool) → (a || b) ≡ true → (a ≡ true) ⊎ (b ≡ true)
either_of true b is = inl refl
either_of false b is = inr is

gt_test : (a b : ℕ) → b < a → nat_le a b ≡ false
gt_test a b lt = grind (arith, common_steps)

first_apart : (image : List ℕ) → 1 ≤ length image → image ≡ get_or image 0 0 ∷ drop 1 image
first_apart [] some = absurd (omega arith)
first_apart (x ∷ xs) some = refl

same_behind : (bytes image : List ℕ) (marks : List ℕ) → 1 ≤ length image → drop 1 image ≡ drop 1 bytes → take 28 (drop 1 bytes) ≡ marks → image ≡ get_or image 0 0 ∷ (marks ++ drop 28 (drop 1 bytes))
same_behind bytes image marks some same is =
    first_apart image some ∙ ap (λ (l : List ℕ). get_or image 0 0 ∷ l) (same ∙ sym (take-append-drop 28 (drop 1 bytes)) ∙ ap (λ (l : List ℕ). l ++ drop 28 (drop 1 bytes)) is)

-- the first byte, where it does not say yet that no journal is there, is torn
pub close_torn : (bytes image : List ℕ) → is_unbegun bytes ≡ true → (slice_index bytes 0 ≡ 0 → length bytes ≡ 0) → Torn 0 1 bytes image → StandsForNone image
close_torn bytes image is not_shut torn = ⊎_elim long (λ (le : length bytes ≤ 1). unbegun_none image (short_unbegun image (omega (arith, torn.no_longer)))) (cases_lt 1 (length bytes))
  where
    long : 1 < length bytes → StandsForNone image
    long lt =
        let some : 1 ≤ length image = omega (arith, torn.no_shorter) in
        let not_zero : slice_index bytes 0 ≡ 0 → ⊥ = λ zero_first. let none = not_shut zero_first in omega arith in
        let marks = third_of (nat_le (length bytes) 1) (slice_index bytes 0 == 0) (third bytes) (gt_test (length bytes) 1 lt) (ne_test (slice_index bytes 0) 0 not_zero) is in
        let which = either_of (has_beginning 1 bytes) (has_beginning 2 bytes) (right_of (not (slice_index bytes 0 == 1)) (has_beginning 1 bytes || has_beginning 2 bytes) marks) in
        ⊎_elim
        (λ (one : has_beginning 1 bytes ≡ true).
        subst StandsForNone (sym (same_behind bytes image (beginning 1) some torn.after ((bytes_eq-Decides (slice_range bytes 1 29) (beginning 1)).0 one))) (any_1 (get_or image 0 0) (drop 28 (drop 1 bytes))))
        (λ (two : has_beginning 2 bytes ≡ true).
        subst StandsForNone (sym (same_behind bytes image (beginning 2) some torn.after ((bytes_eq-Decides (slice_range bytes 1 29) (beginning 2)).0 two))) (any_2 (get_or image 0 0) (drop 28 (drop 1 bytes))))
        which

pub unbegun_same : (bytes image : List ℕ) → is_unbegun bytes ≡ true → image ≡ bytes → StandsForNone image
unbegun_same bytes image is same = unbegun_none image (ap is_unbegun same ∙ is)

pub closed : (bytes : List ℕ) → IsShut (after_write 0 (0 ∷ []) bytes)
closed bytes = record { some = omega arith; zero_first = refl }

first_same : (bytes image : List ℕ) → take 1 image ≡ take 1 bytes → slice_index image 0 ≡ slice_index bytes 0
first_same bytes image same = sym (get_or-take 1 image 0 0 (omega arith)) ∙ ap (λ (l : List ℕ). get_or l 0 0) same ∙ get_or-take 1 bytes 0 0 (omega arith)

-- behind it the beginning is torn
pub marks_torn : (bytes image : List ℕ) → IsShut bytes → Torn 1 (length (beginning 2)) bytes image → StandsForNone image
marks_torn bytes image shut torn = unbegun_none image (shut_unbegun image (first_same bytes image torn.before ∙ shut.zero_first))

take_one : (bytes : List ℕ) → IsShut bytes → take 1 bytes ≡ 0 ∷ []
take_one [] shut = let some = shut.some in absurd (omega arith)
take_one (b ∷ bs) shut = ap (λ (k : ℕ). k ∷ []) shut.zero_first

marked : (bytes : List ℕ) → IsShut bytes → after_write 1 (beginning 2) bytes ≡ 0 ∷ (beginning 2 ++ drop 29 bytes)
marked bytes shut = ap (λ (l : List ℕ). l ++ beginning 2 ++ drop 29 bytes) (take_one bytes shut)

-- the header is opened
pub open_torn : (bytes image : List ℕ) → IsShut bytes → Torn 0 1 (after_write 1 (beginning 2) bytes) image → StandsForNone image
open_torn bytes image shut torn =
    let some : 1 ≤ length image = omega (arith, torn.no_shorter, ap length (marked bytes shut)) in
    let image_is : image ≡ get_or image 0 0 ∷ (beginning 2 ++ drop 29 bytes) = first_apart image some ∙ ap (λ (l : List ℕ). get_or image 0 0 ∷ l) (torn.after ∙ ap (drop 1) (marked bytes shut)) in
    subst StandsForNone (sym image_is) (any_2 (get_or image 0 0) (drop 29 bytes))

pub opened_rests : (bytes : List ℕ) (images : List ℕ → Type 0) → IsShut bytes → Only (after_write 0 (1 ∷ []) (after_write 1 (beginning 2) bytes)) images
    → IsAtRest (mounted 2 A 24 28 []) (after_write 0 (1 ∷ []) (after_write 1 (beginning 2) bytes)) images
opened_rests bytes images shut only =
    let written : after_write 0 (1 ∷ []) (after_write 1 (beginning 2) bytes) ≡ 1 ∷ (beginning 2 ++ drop 29 bytes) = ap (λ (l : List ℕ). 1 ∷ drop 1 l) (marked bytes shut) in
    record { reads = ap journal written ∙ open_2 (drop 29 bytes); begun = ap is_unbegun written ∙ open_begun (drop 29 bytes); settled = only }

pub opened_bytes : (bytes : List ℕ) → IsShut bytes → after_write 0 (1 ∷ []) (after_write 1 (beginning 2) bytes) ≡ begun_bytes bytes
opened_bytes bytes shut = ap (λ (l : List ℕ). 1 ∷ drop 1 l) (marked bytes shut)

pub behind_first : (bytes : List ℕ) → begun_bytes bytes ≡ 1 ∷ (beginning 2 ++ drop 28 (drop 1 bytes))
behind_first bytes = ap (λ (l : List ℕ). 1 ∷ (beginning 2 ++ l)) (sym (drop-drop 28 1 bytes))
