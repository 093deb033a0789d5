-- What the calls of a disk do to its bytes, and what a crash may leave of them.
use Rattle.std.specs.Prelude.{◌≡◌, ◌<◌, ◌⊎◌, ◌↔◌, ℕ, ◌+◌, ◌-◌, ◌^◌, ◌≤◌, min, max, List, ◌++◌, length, take, drop, Option, Some, None}
use Rattle.std.specs.Option.{ForSome}

-- the bytes with others written from a place on
abbrev pub after_write : ℕ → List ℕ → List ℕ → List ℕ
after_write at new bytes = take at bytes ++ new ++ drop (at + length new) bytes

-- what a read from a place on fills of a buffer: as many bytes as fit and are there
abbrev pub count_read : ℕ → List ℕ → List ℕ → ℕ
count_read at buffer bytes = min (length buffer) (length bytes - at)

-- the buffer after that read, its rest as before
abbrev pub after_read : ℕ → List ℕ → List ℕ → List ℕ
after_read at buffer bytes = take (length buffer) (drop at bytes) ++ drop (count_read at buffer bytes) buffer

-- the number of the next call; at its type's end the number stands still
abbrev pub next_call : ℕ → ℕ
next_call calls = calls + min 1 (2 ^ 64 - 1 - calls)

-- What a crash may make of a write of n bytes from a place on: any bytes in the range and past the old end,
-- the same elsewhere.
pub record Torn (at n : ℕ) (old new : List ℕ) : Type 0 where
  pub before : take at new ≡ take at old
  pub after : drop (at + n) new ≡ drop (at + n) old
  pub no_shorter : length old ≤ length new
  pub no_longer : length new ≤ max (length old) (at + n)

-- a disk that told bytes tells bytes that such a write may have left
abbrev pub TellsTorn : ℕ → ℕ → Option (List ℕ) → Option (List ℕ) → Type 0
TellsTorn at n old new = ForSome old (λ was. (bytes : List ℕ) × (new ≡ Some bytes) × Torn at n was bytes)

-- a write past the limit, and one for which there is no number
abbrev pub IsRefused : ℕ → ℕ → ℕ → Type 0
IsRefused at n calls = (2 ^ 62 < at + n) ⊎ (calls ≡ 2 ^ 64 - 1)

-- What may be left is this and nothing else.
abbrev pub Only : List ℕ → (List ℕ → Type 0) → Type 0
Only bytes images = (image : List ℕ) → images image → image ≡ bytes

-- each new image is an old one after a step
abbrev pub Follows : (List ℕ → List ℕ → Type 0) → (List ℕ → Type 0) → (List ℕ → Type 0) → Type 0
Follows step old new = (image : List ℕ) → new image → (was : List ℕ) × old was × step was image

-- each old image after a step is a new one
abbrev pub Allows : (List ℕ → List ℕ → Type 0) → (List ℕ → Type 0) → (List ℕ → Type 0) → Type 0
Allows step old new = (was image : List ℕ) → old was → step was image → new image

-- each old image is a new one
abbrev pub Keeps : (List ℕ → Type 0) → (List ℕ → Type 0) → Type 0
Keeps old new = (image : List ℕ) → old image → new image

-- the images are the same
abbrev pub SameImages : (List ℕ → Type 0) → (List ℕ → Type 0) → Type 0
SameImages old new = (image : List ℕ) → new image ↔ old image

-- the images of each call number up to this one are the same
abbrev pub KeepsEarlier : ℕ → (ℕ → List ℕ → Type 0) → (ℕ → List ℕ → Type 0) → Type 0
KeepsEarlier calls old new = (call : ℕ) → call ≤ calls → SameImages (old call) (new call)

-- A disk is settled where its one image is what it reads.
abbrev pub IsSettled : Option (List ℕ) → (List ℕ → Type 0) → Type 0
IsSettled seen images = ForSome seen (λ bytes. Only bytes images)

-- each image of each call number from one to another has P
abbrev pub EachImage : ℕ → ℕ → (ℕ → List ℕ → Type 0) → (List ℕ → Type 0) → Type 0
EachImage from to images P = (call : ℕ) → from ≤ call → call ≤ to → (image : List ℕ) → images call image → P image

-- each image of each call number from one disk on to the other is what such a write may leave of the bytes
abbrev pub TearsAtMost : {D : Type 0} → (D → ℕ → List ℕ → Type 0) → (D → ℕ) → ℕ → ℕ → List ℕ → D → D → Type 0
TearsAtMost is_image calls at n bytes old new = EachImage (calls old) (calls new) (is_image new) (Torn at n bytes)

-- what is not told is not told to be these bytes
pub untold : (bytes : List ℕ) → None ≡ Some bytes → ⊥
untold bytes h = cc
