-- What a crash leaves of the calls by which a journal is compacted.
use Rattle.std.proofs.Common.{◌≡◌, ℕ, ◌≤◌, List, length, refl, ◌∙◌, ap, subst, arith}
use Rattle.std.specs.Prelude.{Option, Result, Ok, Err, OnOk, option_map}
use Rattle.std.specs.Int.{w64, to_be_bytes}
use Rattle.aq_disk.specs.Disk.{after_write, Torn, Only, Follows, KeepsEarlier, EachImage, next_call}
use Rattle.aq_disk.specs.Left.{torn_by, torn_none}
use Rattle.aq_disk.proofs.Moments.{each_on, each_torn, write_moments}
use Rattle.redo_journal.specs.Journal.{pointer_of}
use Rattle.redo_journal.specs.declared.frame.Active.{Active}
use Rattle.redo_journal.proofs.Moments.{each_more}
use Rattle.checkpoint.specs.Compaction.{other_side, new_root, TornTwice, staged_bytes}

pub on_ok : {T E : Type 0} (r : Result T E) (P : Type 0) → P → OnOk r P
on_ok (Ok x) P p = p
on_ok (Err e) P p = tt

pub on_ok_more : {T E : Type 0} (r : Result T E) (P Q : Type 0) → (P → Q) → OnOk r P → OnOk r Q
on_ok_more (Ok x) P Q f p = f p
on_ok_more (Err e) P Q f p = tt

-- ---- two writes

pub twice_by : (at also : ℕ) (first second bytes : List ℕ) → at ≤ length bytes → also ≤ length bytes
    → TornTwice at (length first) also (length second) bytes (after_write also second (after_write at first bytes))
twice_by at also first second bytes le also_le =
    let one : Torn at (length first) bytes (after_write at first bytes) = torn_by at (length first) first bytes le refl in
    (after_write at first bytes, one, torn_by also (length second) second (after_write at first bytes) (omega (arith, one.no_shorter, also_le)) refl)

pub twice_longer : (at n also m : ℕ) (bytes image : List ℕ) → TornTwice at n also m bytes image → length bytes ≤ length image
twice_longer at n also m bytes image (mid, first, second) = omega (arith, first.no_shorter, second.no_shorter)

module _ (c0 c1 at n also m : ℕ) (bytes : List ℕ) (i0 i1 : ℕ → List ℕ → Type 0) (only : Only bytes (i0 c0)) (follows : Follows (Torn at n) (i0 c0) (i1 c1)) (earlier : KeepsEarlier c0 i0 i1) (number : c1 ≡ next_call c0) where
  one : EachImage c0 c1 i1 (Torn at n bytes)
  one = write_moments c0 c1 at n bytes i0 i1 only follows earlier number

  -- after the first write
  pub first_moments : EachImage c0 c1 i1 (TornTwice at n also m bytes)
  first_moments = each_more c0 c1 i1 (Torn at n bytes) (TornTwice at n also m bytes) (λ image torn. (image, torn, torn_none also m image)) one

  -- after the second
  pub second_moments : (c2 : ℕ) (i2 : ℕ → List ℕ → Type 0) → Follows (Torn also m) (i1 c1) (i2 c2) → KeepsEarlier c1 i1 i2 → c2 ≡ next_call c1 → EachImage c0 c2 i2 (TornTwice at n also m bytes)
  second_moments c2 i2 follows_2 earlier_2 number_2 =
      let le : c0 ≤ c1 = omega (arith, number) in
      let same : c1 ≤ c1 = omega arith in
      each_on c0 c1 c2 i1 i2 (TornTwice at n also m bytes) first_moments earlier_2 number_2
      (each_torn also m (i1 c1) (i2 c2) (Torn at n bytes) (TornTwice at n also m bytes) (λ image left. one c1 le same image left) (λ was image p torn. (was, p, torn)) follows_2)

-- ---- the area, its root, and the side

-- what the calls write is what is meant
pub staged_as : (active : Active) (new second : List ℕ) (at also : ℕ) (told : Option (List ℕ)) → at ≡ new_root active (length new) → also ≡ pointer_of (other_side active.side) → second ≡ to_be_bytes w64 at
    → option_map (λ bytes. after_write also second (after_write at new bytes)) told ≡ option_map (staged_bytes active new) told
staged_as active new second at also told at_is also_is second_is =
    ap (λ (l : List ℕ). option_map (λ bytes. after_write also l (after_write at new bytes)) told) second_is
    ∙ ap (λ (k : ℕ). option_map (λ bytes. after_write also (to_be_bytes w64 k) (after_write k new bytes)) told) at_is
    ∙ ap (λ (k : ℕ). option_map (λ bytes. after_write k (to_be_bytes w64 (new_root active (length new))) (after_write (new_root active (length new)) new bytes)) told) also_is

pub torn_as : (active : Active) (new second : List ℕ) (at also : ℕ) (bytes image : List ℕ) → at ≡ new_root active (length new) → also ≡ pointer_of (other_side active.side) → length second ≡ 8
    → TornTwice at (length new) also (length second) bytes image → TornTwice (new_root active (length new)) (length new) (pointer_of (other_side active.side)) 8 bytes image
torn_as active new second at also bytes image at_is also_is eight torn =
    subst (λ (k : ℕ). TornTwice (new_root active (length new)) (length new) (pointer_of (other_side active.side)) k bytes image) eight
    (subst (λ (k : ℕ). TornTwice (new_root active (length new)) (length new) k (length second) bytes image) also_is
    (subst (λ (k : ℕ). TornTwice k (length new) also (length second) bytes image) at_is torn))
