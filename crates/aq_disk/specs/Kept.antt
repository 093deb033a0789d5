-- What kept calls make of bytes, and what a crash may leave of them.
use Rattle.std.specs.Prelude.{◌≡◌, ℕ, ◌+◌, ◌-◌, max, Bool, true, false, ◌&&◌, nat_le, nat_lt, List, [], ◌∷◌, ◌++◌, length, take, replicate, fold, Vec}
use Rattle.std.specs.List.{before_first, after_last}
use Rattle.std.specs.declared.alloc.Global.{Global}
use Rattle.aq_disk.specs.Disk.{after_write, Torn}
use Rattle.aq_disk.specs.declared.kept.Kept.{Kept}
use Rattle.aq_disk.specs.declared.kept.Step.{Step}
use Rattle.aq_disk.specs.declared.kept.Step.TheVariants.{Write, Sync}
use Rattle.aq_disk.specs.declared.kept.Fill.{Fill}
use Rattle.aq_disk.specs.declared.kept.Fill.TheVariants.{Old, New, Byte}

-- what a step makes of bytes under a fill
abbrev pub step_filled : Fill → List ℕ → Step → List ℕ
step_filled fill bytes Sync = bytes
step_filled Old bytes (Write at new) = bytes
step_filled New bytes (Write at new) = after_write at new.items bytes
step_filled (Byte byte) bytes (Write at new) = after_write at (replicate (length new.items) byte) bytes

abbrev pub filled : Fill → List ℕ → Kept → List ℕ
filled fill bytes kept = step_filled fill bytes kept.step

-- the bytes after these calls under a fill
abbrev pub all_filled : Fill → List ℕ → List Kept → List ℕ
all_filled fill bytes kept = fold (filled fill) bytes kept

abbrev pub step_is_sync : Step → Bool
step_is_sync (Write at new) = false
step_is_sync Sync = true

abbrev pub is_sync : Kept → Bool
is_sync kept = step_is_sync kept.step

-- the calls up to a number
abbrev pub up_to : ℕ → List Kept → List Kept
up_to call kept = before_first (λ k. nat_lt call k.call) kept

-- the calls after the last sync
abbrev pub since_sync : List Kept → List Kept
since_sync kept = after_last is_sync kept

-- the calls up to the last sync
abbrev pub until_sync : List Kept → List Kept
until_sync kept = take (length kept - length (since_sync kept)) kept

-- the bytes at the last sync of these calls
abbrev pub synced : List ℕ → List Kept → List ℕ
synced start kept = all_filled New start (until_sync kept)

-- an image of these calls: each range since the last sync as the fill says
abbrev pub image_after : Fill → List ℕ → List Kept → List ℕ
image_after fill start kept = all_filled fill (synced start kept) (since_sync kept)

-- what a crash may make of bytes by a step
abbrev pub Tears : List ℕ → Step → List ℕ → Type 0
Tears bytes (Write at new) image = Torn at (length new.items) bytes image
Tears bytes Sync image = image ≡ bytes

-- what a crash may make of bytes by one step after another
abbrev pub IsLeft : List ℕ → List Kept → List ℕ → Type 0
IsLeft bytes [] image = image ≡ bytes
IsLeft bytes (kept ∷ rest) image = (next : List ℕ) × Tears bytes kept.step next × IsLeft next rest image

-- what a crash may leave of these calls: the ranges since the last sync torn
abbrev pub IsImageAfter : List ℕ → List Kept → List ℕ → Type 0
IsImageAfter start kept image = IsLeft (synced start kept) (since_sync kept) image

-- Each write begins within the bytes that it finds, of which there are this many at first.
abbrev pub step_in_place : ℕ → Step → Bool
step_in_place n (Write at new) = nat_le at n
step_in_place n Sync = true

abbrev pub length_after : ℕ → Step → ℕ
length_after n (Write at new) = max n (at + length new.items)
length_after n Sync = n

abbrev pub in_place : ℕ → List Kept → Bool
in_place n [] = true
in_place n (kept ∷ rest) = step_in_place n kept.step && in_place (length_after n kept.step) rest

-- the calls with a write more
pub record AddsWrite (old new : List Kept) (call at : ℕ) (from : List ℕ) : Type 0 where
  pub bytes : Vec ℕ Global
  pub as_written : bytes.items ≡ from
  pub kept : new ≡ old ++ record { call = call; step = Write at bytes } ∷ []
