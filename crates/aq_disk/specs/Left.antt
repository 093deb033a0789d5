-- What a fill gives is left by a crash.
use Rattle.std.proofs.Common.{◌≡◌, ℕ, ◌+◌, ◌-◌, ◌^◌, ◌≤◌, max, Some, Bool, true, false, ◌&&◌, List, [], ◌∷◌, ◌++◌, length, take, drop, replicate, refl, sym, ◌∙◌, ap, subst, arith, append_assoc, length-append, length-take, length-drop, take-append-drop}
use Rattle.std.specs.Prelude.{nat_le, nat_lt}
use Rattle.std.specs.List.{list_all, position_or_len}
use Rattle.std.proofs.lemmas.List.{take_at, drop_at, length-replicate, take_all}
use Rattle.std.proofs.lemmas.Grind.{common_steps}
use Rattle.aq_disk.specs.Disk.{after_write, Torn}
use Rattle.aq_disk.specs.Kept.{filled, step_filled, all_filled, Tears, IsLeft, IsImageAfter, image_after, step_in_place, length_after, in_place, up_to, since_sync, until_sync, synced}
use Rattle.aq_disk.specs.declared.kept.Kept.{Kept}
use Rattle.aq_disk.specs.declared.kept.Step.{Step}
use Rattle.aq_disk.specs.declared.kept.Step.TheVariants.{Write, Sync}
use Rattle.aq_disk.specs.declared.kept.Fill.{Fill}
use Rattle.aq_disk.specs.declared.kept.Fill.TheVariants.{Old, New, Byte}

pub torn_none : (at n : ℕ) (bytes : List ℕ) → Torn at n bytes bytes
torn_none at n bytes = record { before = refl; after = refl; no_shorter = omega arith; no_longer = omega arith }

pub length-after_write : (at : ℕ) (new bytes : List ℕ) → at ≤ length bytes → length (after_write at new bytes) ≡ max (length bytes) (at + length new)
length-after_write at new bytes le = simp (length-append, length-take, length-drop) (omega arith)

pub torn_by : (at n : ℕ) (new bytes : List ℕ) → at ≤ length bytes → length new ≡ n → Torn at n bytes (after_write at new bytes)
torn_by at n new bytes le is =
    let front : length (take at bytes) ≡ at = simp length-take (omega arith) in
    let both : length (take at bytes ++ new) ≡ at + n = simp (length-append, length-take) (omega arith) in
    record {
      before = ap (take at) (append_assoc (take at bytes) new (drop (at + length new) bytes)) ∙ take_at (take at bytes) (new ++ drop (at + length new) bytes) at front;
      after = drop_at (take at bytes ++ new) (drop (at + length new) bytes) (at + n) both ∙ ap (λ (k : ℕ). drop (at + k) bytes) is;
      no_shorter = omega (arith, length-after_write at new bytes le);
      no_longer = omega (arith, length-after_write at new bytes le);
    }

and_left : (a b : Bool) → (a && b) ≡ true → a ≡ true
and_left true b h = refl
and_left false b h = h

and_right : (a b : Bool) → (a && b) ≡ true → b ≡ true
and_right true b h = h
and_right false b h = absurd (cc)

le_true : (a b : ℕ) → nat_le a b ≡ true → a ≤ b
le_true a b h = grind (arith, common_steps)

-- no fill but the old one changes how long the bytes become
pub length-new : (bytes : List ℕ) (step : Step) → step_in_place (length bytes) step ≡ true → length (step_filled New bytes step) ≡ length_after (length bytes) step
length-new bytes Sync h = refl
length-new bytes (Write at new) h = length-after_write at new.items bytes (le_true at (length bytes) h)

length-byte : (byte : ℕ) (bytes : List ℕ) (step : Step) → step_in_place (length bytes) step ≡ true → length (step_filled (Byte byte) bytes step) ≡ length_after (length bytes) step
length-byte byte bytes Sync h = refl
length-byte byte bytes (Write at new) h =
    length-after_write at (replicate (length new.items) byte) bytes (le_true at (length bytes) h)
    ∙ ap (λ (k : ℕ). max (length bytes) (at + k)) (length-replicate (length new.items) byte)

tears_old : (bytes : List ℕ) (step : Step) → Tears bytes step bytes
tears_old bytes Sync = refl
tears_old bytes (Write at new) = torn_none at (length new.items) bytes

tears_new : (bytes : List ℕ) (step : Step) → step_in_place (length bytes) step ≡ true → Tears bytes step (step_filled New bytes step)
tears_new bytes Sync h = refl
tears_new bytes (Write at new) h = torn_by at (length new.items) new.items bytes (le_true at (length bytes) h) refl

tears_byte : (byte : ℕ) (bytes : List ℕ) (step : Step) → step_in_place (length bytes) step ≡ true → Tears bytes step (step_filled (Byte byte) bytes step)
tears_byte byte bytes Sync h = refl
tears_byte byte bytes (Write at new) h =
    torn_by at (length new.items) (replicate (length new.items) byte) bytes (le_true at (length bytes) h) (length-replicate (length new.items) byte)

old_step : (bytes : List ℕ) (step : Step) → step_filled Old bytes step ≡ bytes
old_step bytes Sync = refl
old_step bytes (Write at new) = refl

pub rest_in_place : (n : ℕ) (kept : Kept) (rest : List Kept) → in_place n (kept ∷ rest) ≡ true → in_place (length_after n kept.step) rest ≡ true
rest_in_place n kept rest h = and_right (step_in_place n kept.step) (in_place (length_after n kept.step) rest) h

pub first_in_place : (n : ℕ) (kept : Kept) (rest : List Kept) → in_place n (kept ∷ rest) ≡ true → step_in_place n kept.step ≡ true
first_in_place n kept rest h = and_left (step_in_place n kept.step) (in_place (length_after n kept.step) rest) h

left_old : (bytes : List ℕ) (kept : List Kept) → IsLeft bytes kept (all_filled Old bytes kept)
left_old bytes [] = refl
left_old bytes (k ∷ rest) = (
  step_filled Old bytes k.step,
  subst (Tears bytes k.step) (sym (old_step bytes k.step)) (tears_old bytes k.step),
  left_old (step_filled Old bytes k.step) rest,
)

left_new : (bytes : List ℕ) (kept : List Kept) → in_place (length bytes) kept ≡ true → IsLeft bytes kept (all_filled New bytes kept)
left_new bytes [] h = refl
left_new bytes (k ∷ rest) h =
    let first = first_in_place (length bytes) k rest h in (
      step_filled New bytes k.step,
      tears_new bytes k.step first,
      left_new (step_filled New bytes k.step) rest
          (subst (λ (n : ℕ). in_place n rest ≡ true) (sym (length-new bytes k.step first)) (rest_in_place (length bytes) k rest h)),
    )

left_byte : (byte : ℕ) (bytes : List ℕ) (kept : List Kept) → in_place (length bytes) kept ≡ true → IsLeft bytes kept (all_filled (Byte byte) bytes kept)
left_byte byte bytes [] h = refl
left_byte byte bytes (k ∷ rest) h =
    let first = first_in_place (length bytes) k rest h in (
      step_filled (Byte byte) bytes k.step,
      tears_byte byte bytes k.step first,
      left_byte byte (step_filled (Byte byte) bytes k.step) rest
          (subst (λ (n : ℕ). in_place n rest ≡ true) (sym (length-byte byte bytes k.step first)) (rest_in_place (length bytes) k rest h)),
    )

pub left_filled : (fill : Fill) (bytes : List ℕ) (kept : List Kept) → in_place (length bytes) kept ≡ true → IsLeft bytes kept (all_filled fill bytes kept)
left_filled Old bytes kept h = left_old bytes kept
left_filled New bytes kept h = left_new bytes kept h
left_filled (Byte byte) bytes kept h = left_byte byte bytes kept h

-- The front of what is in place is in place, and so is the rest on the bytes that the front leaves.
pub front_in_place : (n : ℕ) (xs ys : List Kept) → in_place n (xs ++ ys) ≡ true → in_place n xs ≡ true
front_in_place n [] ys h = refl
front_in_place n (k ∷ xs) ys h =
    let first = first_in_place n k (xs ++ ys) h in
    let rest = front_in_place (length_after n k.step) xs ys (rest_in_place n k (xs ++ ys) h) in
    rw first rest

pub back_in_place : (bytes : List ℕ) (xs ys : List Kept) → in_place (length bytes) (xs ++ ys) ≡ true → in_place (length (all_filled New bytes xs)) ys ≡ true
back_in_place bytes [] ys h = h
back_in_place bytes (k ∷ xs) ys h =
    let first = first_in_place (length bytes) k (xs ++ ys) h in
    back_in_place (step_filled New bytes k.step) xs ys
    (subst (λ (n : ℕ). in_place n (xs ++ ys) ≡ true) (sym (length-new bytes k.step first)) (rest_in_place (length bytes) k (xs ++ ys) h))

pub all_filled-append : (fill : Fill) (bytes : List ℕ) (xs ys : List Kept) → all_filled fill bytes (xs ++ ys) ≡ all_filled fill (all_filled fill bytes xs) ys
all_filled-append fill bytes [] ys = refl
all_filled-append fill bytes (k ∷ xs) ys = all_filled-append fill (filled fill bytes k) xs ys

-- the calls are those up to the last sync and those after it
pub split_at_sync : (kept : List Kept) → until_sync kept ++ since_sync kept ≡ kept
split_at_sync kept =
    let from = length kept - length (since_sync kept) in
    let same : drop from kept ≡ since_sync kept = ap (λ (n : ℕ). drop n kept) (simp length-drop (omega arith)) in
    ap (λ (l : List Kept). until_sync kept ++ l) (sym same) ∙ take-append-drop from kept

-- What an image has is left by a crash.
pub left_image : (fill : Fill) (start : List ℕ) (kept : List Kept) → in_place (length start) kept ≡ true → IsImageAfter start kept (image_after fill start kept)
left_image fill start kept h =
    left_filled fill (synced start kept) (since_sync kept)
    (back_in_place start (until_sync kept) (since_sync kept) (subst (λ (l : List Kept). in_place (length start) l ≡ true) (sym (split_at_sync kept)) h))

-- with each range as written, an image is what a read gives
pub image_new : (start : List ℕ) (kept : List Kept) → image_after New start kept ≡ all_filled New start kept
image_new start kept = sym (all_filled-append New start (until_sync kept) (since_sync kept)) ∙ ap (all_filled New start) (split_at_sync kept)

pub up_to_in_place : (n call : ℕ) (kept : List Kept) → in_place n kept ≡ true → in_place n (up_to call kept) ≡ true
up_to_in_place n call kept h =
    let many = position_or_len (λ (k : Kept). nat_lt call k.call) kept in
    front_in_place n (take many kept) (drop many kept) (subst (λ (l : List Kept). in_place n l ≡ true) (sym (take-append-drop many kept)) h)

not_past : (a b c : ℕ) → nat_le a b ≡ true → b ≤ c → nat_lt c a ≡ false
not_past a b c h le = grind (arith, common_steps)

all_numbered : (calls call : ℕ) (kept : List Kept) → list_all (λ k. nat_le k.call calls) kept ≡ true → calls ≤ call → position_or_len (λ k. nat_lt call k.call) kept ≡ length kept
all_numbered calls call [] h le = refl
all_numbered calls call (k ∷ rest) h le =
    let here = not_past k.call calls call (and_left (nat_le k.call calls) (list_all (λ k. nat_le k.call calls) rest) h) le in
    let there = all_numbered calls call rest (and_right (nat_le k.call calls) (list_all (λ k. nat_le k.call calls) rest) h) le in
    rw here (omega (arith, there))

-- all calls are numbered up to the last number
pub up_to_all : (calls call : ℕ) (kept : List Kept) → list_all (λ k. nat_le k.call calls) kept ≡ true → calls ≤ call → up_to call kept ≡ kept
up_to_all calls call kept h le = take_all (position_or_len (λ k. nat_lt call k.call) kept) kept (omega (arith, all_numbered calls call kept h le))

-- what is read is an image of the last call number
pub left_read : (start : List ℕ) (kept : List Kept) (calls : ℕ) (bytes read : List ℕ) → in_place (length start) kept ≡ true → list_all (λ k. nat_le k.call calls) kept ≡ true
    → bytes ≡ all_filled New start kept → Some bytes ≡ Some read → IsImageAfter start (up_to calls kept) read
left_read start kept calls bytes read placed numbered is same =
    let all : up_to calls kept ≡ kept = up_to_all calls calls kept numbered (omega arith) in
    let read_is : read ≡ image_after New start kept = cc (image_new start kept) in
    subst (λ (l : List Kept). IsImageAfter start l read) (sym all) (subst (λ (b : List ℕ). IsImageAfter start kept b) (sym read_is) (left_image New start kept placed))

pub told_in_limit : (bytes told : List ℕ) → length bytes ≤ 2 ^ 62 → Some bytes ≡ Some told → length told ≤ 2 ^ 62
told_in_limit bytes told le same = let is : bytes ≡ told = cc in subst (λ (l : List ℕ). length l ≤ 2 ^ 62) is le
