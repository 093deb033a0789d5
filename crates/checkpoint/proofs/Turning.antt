-- What an image stands for while a new area is written, and then becomes the active one.
use Rattle.std.proofs.Common.{◌≡◌, ⊎_elim, inl, inr, ◌⊎◌, ℕ, ◌+◌, ◌-◌, ◌^◌, ◌<◌, ◌≤◌, Bool, true, false, List, [], ◌∷◌, ◌++◌, length, take, drop, refl, sym, ◌∙◌, ap, arith, append_assoc, length-take}
use Rattle.std.specs.Prelude.{nat_le, ◌==◌, Ok, slice_index, slice_range, if◌then◌else◌}
use Rattle.std.specs.Int.{w64, to_be_bytes, from_be_bytes}
use Rattle.std.proofs.lemmas.Bool.{leb-true}
use Rattle.std.proofs.lemmas.List.{take_at, drop_at, take-take, drop-take, get_or-take, get_or_at}
use Rattle.std.proofs.lemmas.Nat.{from_be_bytes-to_be_bytes_8}
use Rattle.aq_disk.specs.Disk.{after_write, Torn, Only}
use Rattle.aq_disk.specs.Left.{torn_by}
use Rattle.aq_disk.proofs.Moments.{torn_front, torn_back}
use Rattle.redo_journal.specs.Journal.{Mounted, area, journal, is_header, side_of, root_of, pointer_of}
use Rattle.redo_journal.specs.Journaled.{IsArea}
use Rattle.redo_journal.specs.Crash.{contents_of, contents_in, StandsForEither, compacted, IsAtRest}
use Rattle.redo_journal.specs.declared.frame.Active.{Active}
use Rattle.redo_journal.specs.declared.frame.Side.{Side}
use Rattle.redo_journal.specs.declared.frame.Side.TheVariants.{A, B}
use Rattle.redo_journal.proofs.Numbers.{le_test}
use Rattle.redo_journal.proofs.Heads.{Stands, stands_found, stands_read, begun_by_header, stands_within}
use Rattle.redo_journal.proofs.Same.{same_journal, fresh_journal, length-area}
use Rattle.checkpoint.specs.Compaction.{other_side, side_byte, root_behind, new_root, compacted_journal, TornTwice, staged_bytes, turned_bytes, TornTurn}

-- ---- ranges that torn writes leave alone

range_front : (i j : ℕ) (l : List ℕ) → i ≤ j → slice_range l i j ≡ drop i (take j l)
range_front i j l le = let whole : i + (j - i) ≡ j = omega arith in sym (ap (λ (k : ℕ). drop i (take k l)) (sym whole) ∙ drop-take i (j - i) l)

range_before : (i j at n : ℕ) (old new : List ℕ) → i ≤ j → j ≤ at → Torn at n old new → slice_range new i j ≡ slice_range old i j
range_before i j at n old new le before torn = range_front i j new le ∙ ap (drop i) (torn_front j at n old new before torn) ∙ sym (range_front i j old le)

range_behind : (i j at n : ℕ) (old new : List ℕ) → at + n ≤ i → Torn at n old new → slice_range new i j ≡ slice_range old i j
range_behind i j at n old new behind torn = ap (take (j - i)) (torn_back i at n old new behind torn)

range_apart : (i j at n : ℕ) (old new : List ℕ) → i ≤ j → (j ≤ at) ⊎ (at + n ≤ i) → Torn at n old new → slice_range new i j ≡ slice_range old i j
range_apart i j at n old new le apart torn =
    ⊎_elim (λ (before : j ≤ at). range_before i j at n old new le before torn) (λ (behind : at + n ≤ i). range_behind i j at n old new behind torn) apart

-- ---- headers with the same front

byte_same : (i k : ℕ) (a b : List ℕ) → i < k → take k a ≡ take k b → slice_index a i ≡ slice_index b i
byte_same i k a b lt same = sym (get_or-take k a i 0 lt) ∙ ap (λ (l : List ℕ). slice_index l i) same ∙ get_or-take k b i 0 lt

header_same : (a b : List ℕ) → take 7 a ≡ take 7 b → 24 ≤ length a → 24 ≤ length b → is_header a ≡ is_header b
header_same a b same long_a long_b =
    let t : nat_le 24 (length a) ≡ true = le_test 24 (length a) long_a in
    let u : nat_le 24 (length b) ≡ true = le_test 24 (length b) long_b in
    let first = byte_same 0 7 a b (omega arith) same in
    let marks : slice_range a 1 7 ≡ slice_range b 1 7 = range_front 1 7 a (omega arith) ∙ ap (drop 1) same ∙ sym (range_front 1 7 b (omega arith)) in
    rw (t, u, first, marks) refl

side_same : (a b : List ℕ) → take 8 a ≡ take 8 b → side_of a ≡ side_of b
side_same a b same = ap (λ (v : ℕ). if v == 1 then B else A) (byte_same 7 8 a b (omega arith) same)

-- ---- places

-- the root's place of a side lies in the header, apart from that of the other side
pub record IsPointer (side : Side) : Type 0 where
  pub from : 8 ≤ pointer_of side
  pub to : pointer_of side + 8 ≤ 24
  pub apart : (pointer_of side + 8 ≤ pointer_of (other_side side)) ⊎ (pointer_of (other_side side) + 8 ≤ pointer_of side)

pub pointer_is : (side : Side) → IsPointer side
pointer_is A = record { from = omega arith; to = omega arith; apart = inl (omega arith) }
pointer_is B = record { from = omega arith; to = omega arith; apart = inr (omega arith) }

side_cases : (found side : Side) → (found ≡ side) ⊎ (found ≡ other_side side)
side_cases A A = inl refl
side_cases A B = inr refl
side_cases B A = inr refl
side_cases B B = inl refl

-- the new area lies behind the header, begins on the disk, and lies apart from the active area
pub record IsPlace (root gate size new : ℕ) : Type 0 where
  pub header : 24 ≤ new
  pub within : new ≤ gate + 1
  pub apart : (gate + 1 ≤ new) ⊎ (new + size ≤ root)

place_at : (side : Side) (root gate size : ℕ) → 24 ≤ root → root + 4 ≤ gate → IsPlace root gate size (root_behind side root gate size)
place_at A root gate size header version = record { header = omega arith; within = omega arith; apart = inl (omega arith) }
place_at B root gate size header version = by_test (nat_le (24 + size) root) refl
  where
    by_test : (t : Bool) → nat_le (24 + size) root ≡ t → IsPlace root gate size (if t then 24 else gate + 1)
    by_test true fits = let le = leb-true (24 + size) root fits in record { header = omega arith; within = omega arith; apart = inr (omega arith) }
    by_test false no_room = record { header = omega arith; within = omega arith; apart = inl (omega arith) }

pub place_is : (active : Active) (size : ℕ) → IsArea active → IsPlace active.root active.gate size (new_root active size)
place_is active size is = place_at active.side active.root active.gate size is.header is.version

-- ---- of a journal that stands so

module _ (m : Mounted) (body bytes : List ℕ) (s : Stands m bytes) where
  abbrev new_side : Side
  new_side = other_side m.active.side

  abbrev size : ℕ
  size = length (area (body ∷ []))

  abbrev root : ℕ
  root = new_root m.active size

  place : IsPlace m.active.root m.active.gate size root
  place = place_at m.active.side m.active.root m.active.gate size s.opening.past (omega (arith, s.gate))

  length-bytes : m.active.gate < length bytes
  length-bytes = stands_within m bytes s

  -- what counts of the active area is the same
  record IsKept (image : List ℕ) : Type 0 where
    front : take 7 image ≡ take 7 bytes
    root_same : slice_range image (pointer_of m.active.side) (pointer_of m.active.side + 8) ≡ slice_range bytes (pointer_of m.active.side) (pointer_of m.active.side + 8)
    area_same : slice_range image m.active.root (m.active.gate + 1) ≡ slice_range bytes m.active.root (m.active.gate + 1)
    long : length bytes ≤ length image

  kept_header : (image : List ℕ) → IsKept image → is_header image ≡ true
  kept_header image kept =
      let past = s.opening.past in
      let long : 24 ≤ length bytes = omega (arith, length-bytes, s.gate) in
      header_same image bytes kept.front (omega (arith, kept.long)) long ∙ (stands_read m bytes s).header

  -- it is the same journal, where the side still says so
  kept_journal : (image : List ℕ) → IsKept image → side_of image ≡ m.active.side → journal image ≡ Ok m
  kept_journal image kept side_is =
      same_journal m bytes image s
      (record {
        header = kept_header image kept;
        side_is = side_is;
        root_is = ap (from_be_bytes w64) kept.root_same ∙ (stands_read m bytes s).root_is;
        area_is = kept.area_same;
        within = omega (arith, length-bytes, kept.long);
      })

  -- the new area and its root are torn
  torn_front_8 : (image : List ℕ) → TornTwice root size (pointer_of new_side) 8 bytes image → take 8 image ≡ take 8 bytes
  torn_front_8 image (mid, first, second) =
      torn_front 8 (pointer_of new_side) 8 mid image (pointer_is new_side).from second ∙ torn_front 8 root size bytes mid (omega (arith, place.header)) first

  torn_kept : (image : List ℕ) → TornTwice root size (pointer_of new_side) 8 bytes image → IsKept image
  torn_kept image (mid, first, second) =
      let side = m.active.side in
      let own = pointer_is side in
      let other = pointer_is new_side in
      record {
        front = sym (take-take 7 8 image (omega arith)) ∙ ap (take 7) (torn_front_8 image (mid, first, second)) ∙ take-take 7 8 bytes (omega arith);
        root_same = range_apart (pointer_of side) (pointer_of side + 8) (pointer_of new_side) 8 mid image (omega arith) own.apart second
            ∙ range_before (pointer_of side) (pointer_of side + 8) root size bytes mid (omega arith) (omega (arith, own.to, place.header)) first;
        area_same = range_behind m.active.root (m.active.gate + 1) (pointer_of new_side) 8 mid image (omega (arith, other.to, s.opening.past)) second
            ∙ range_apart m.active.root (m.active.gate + 1) root size bytes mid (omega (arith, s.gate)) (⊎_elim (λ (le : m.active.gate + 1 ≤ root). inl le) (λ (le : root + size ≤ m.active.root). inr le) place.apart) first;
        long = omega (arith, first.no_shorter, second.no_shorter);
      }

  pub twice_torn : (image : List ℕ) → TornTwice root size (pointer_of new_side) 8 bytes image → StandsForEither (contents_in m) (compacted body) image
  twice_torn image torn = inl (ap contents_of (kept_journal image (torn_kept image torn) (side_same image bytes (torn_front_8 image torn) ∙ (stands_read m bytes s).side_is)))

  -- both are written
  abbrev written : List ℕ
  written = after_write root (area (body ∷ [])) bytes

  abbrev staged : List ℕ
  staged = staged_bytes m.active (area (body ∷ [])) bytes

  first_by : Torn root size bytes written
  first_by = torn_by root size (area (body ∷ [])) bytes (omega (arith, place.within, length-bytes)) refl

  second_by : Torn (pointer_of new_side) 8 written staged
  second_by = torn_by (pointer_of new_side) 8 (to_be_bytes w64 root) written (omega (arith, (pointer_is new_side).to, first_by.no_shorter, length-bytes, s.gate, s.opening.past)) refl

  staged_kept : IsKept staged
  staged_kept = torn_kept staged (written, first_by, second_by)

  -- the side is torn
  side_kept : (image : List ℕ) → Torn 7 1 staged image → IsKept image
  side_kept image torn =
      let side = m.active.side in
      record {
        front = torn.before ∙ staged_kept.front;
        root_same = range_behind (pointer_of side) (pointer_of side + 8) 7 1 staged image (pointer_is side).from torn ∙ staged_kept.root_same;
        area_same = range_behind m.active.root (m.active.gate + 1) 7 1 staged image (omega (arith, s.opening.past)) torn ∙ staged_kept.area_same;
        long = omega (arith, torn.no_shorter, staged_kept.long);
      }

  -- the area as it is written
  area_there : (image : List ℕ) → Torn 7 1 staged image → drop root image ≡ area (body ∷ []) ++ drop (root + size) bytes
  area_there image torn =
      let new = area (body ∷ []) in
      let front : length (take root bytes) ≡ root = length-take root bytes ∙ omega (arith, place.within, length-bytes) in
      torn_back root 7 1 staged image (omega (arith, place.header)) torn
      ∙ torn_back root (pointer_of new_side) 8 written staged (omega (arith, (pointer_is new_side).to, place.header)) second_by
      ∙ ap (drop root) (append_assoc (take root bytes) new (drop (root + size) bytes)) ∙ drop_at (take root bytes) (new ++ drop (root + size) bytes) root front

  -- the root as it is written
  root_there : (image : List ℕ) → Torn 7 1 staged image → length bytes ≤ 2 ^ 62 → root_of new_side image ≡ root
  root_there image torn le =
      let at = pointer_of new_side in
      let new = to_be_bytes w64 root in
      let lt : root < 2 ^ 64 = omega (arith, place.within, length-bytes) in
      let front : length (take at written) ≡ at = length-take at written ∙ omega (arith, (pointer_is new_side).to, first_by.no_shorter, length-bytes, s.gate, s.opening.past) in
      let behind : drop at staged ≡ new ++ drop (at + 8) written = ap (drop at) (append_assoc (take at written) new (drop (at + 8) written)) ∙ drop_at (take at written) (new ++ drop (at + 8) written) at front in
      let eight : at + 8 - at ≡ 8 = omega arith in
      let found : slice_range staged at (at + 8) ≡ new = ap (λ (k : ℕ). take k (drop at staged)) eight ∙ ap (take 8) behind ∙ take_at new (drop (at + 8) written) 8 refl in
      ap (from_be_bytes w64) (range_behind at (at + 8) 7 1 staged image (pointer_is new_side).from torn ∙ found) ∙ from_be_bytes-to_be_bytes_8 root lt

  pub turned_journal : (image : List ℕ) → Torn 7 1 staged image → length bytes ≤ 2 ^ 62 → root + size ≤ 2 ^ 62 → side_of image ≡ new_side → journal image ≡ Ok (compacted_journal m.active body)
  turned_journal image torn le fits side_is =
      fresh_journal new_side root image body (drop (root + size) bytes) (kept_header image (side_kept image torn)) side_is (root_there image torn le) place.header (area_there image torn) (omega (arith, fits, length-area body))

  pub side_torn : (image : List ℕ) → Torn 7 1 staged image → length bytes ≤ 2 ^ 62 → root + size ≤ 2 ^ 62 → StandsForEither (contents_in m) (compacted body) image
  side_torn image torn le fits =
      ⊎_elim (λ (old : side_of image ≡ m.active.side). inl (ap contents_of (kept_journal image (side_kept image torn) old)))
      (λ (new : side_of image ≡ new_side). inr (ap contents_of (turned_journal image torn le fits new))) (side_cases (side_of image) m.active.side)

  -- the side is written
  abbrev turned : List ℕ
  turned = turned_bytes m.active (area (body ∷ [])) bytes

  turned_by : Torn 7 1 staged turned
  turned_by = torn_by 7 1 (side_byte new_side ∷ []) staged (omega (arith, staged_kept.long, length-bytes, s.gate, s.opening.past)) refl

  side_read : (side : Side) → (if side_byte side == 1 then B else A) ≡ side
  side_read A = refl
  side_read B = refl

  turned_side : side_of turned ≡ new_side
  turned_side =
      let front : length (take 7 staged) ≡ 7 = length-take 7 staged ∙ omega (arith, staged_kept.long, length-bytes, s.gate, s.opening.past) in
      let byte : slice_index turned 7 ≡ side_byte new_side =
      ap (λ (l : List ℕ). slice_index l 7) (append_assoc (take 7 staged) (side_byte new_side ∷ []) (drop 8 staged)) ∙ get_or_at (take 7 staged) (side_byte new_side) (drop 8 staged) 0 7 front in
      ap (λ (v : ℕ). if v == 1 then B else A) byte ∙ side_read new_side

  pub turned_rests : (new : List ℕ → Type 0) → length bytes ≤ 2 ^ 62 → root + size ≤ 2 ^ 62 → Only turned new → IsAtRest (compacted_journal m.active body) turned new
  turned_rests new le fits only = record {
    reads = turned_journal turned turned_by le fits turned_side;
    begun = begun_by_header turned (kept_header turned (side_kept turned turned_by));
    settled = only;
  }

-- whatever a crash leaves of a journal at rest, it is the old one or the new one
pub turn_torn : (m : Mounted) (body bytes : List ℕ) (images : List ℕ → Type 0) → IsAtRest m bytes images → length bytes ≤ 2 ^ 62
    → (image : List ℕ) → TornTurn m.active (area (body ∷ [])) bytes image → StandsForEither (contents_in m) (compacted body) image
turn_torn m body bytes images rest le image torn =
    let s = stands_found m bytes rest.reads rest.begun in
    let new = area (body ∷ []) in
    ⊎_elim (λ (first : TornTwice (new_root m.active (length new)) (length new) (pointer_of (other_side m.active.side)) 8 bytes image). twice_torn m body bytes s image first)
    (λ (second : (new_root m.active (length new) + length new ≤ 2 ^ 62) × Torn 7 1 (staged_bytes m.active new bytes) image). side_torn m body bytes s image second.1 le second.0) torn

-- at the end the new one is at rest
pub turn_rests : (m : Mounted) (body bytes : List ℕ) (images new : List ℕ → Type 0) → IsAtRest m bytes images → length bytes ≤ 2 ^ 62
    → new_root m.active (length (area (body ∷ []))) + length (area (body ∷ [])) ≤ 2 ^ 62 → Only (turned_bytes m.active (area (body ∷ [])) bytes) new
    → IsAtRest (compacted_journal m.active body) (turned_bytes m.active (area (body ∷ [])) bytes) new
turn_rests m body bytes images new rest le fits only = turned_rests m body bytes (stands_found m bytes rest.reads rest.begun) new le fits only

-- the bytes become no fewer
pub staged_longer : (active : Active) (new bytes : List ℕ) → IsArea active → active.gate < length bytes → length bytes ≤ length (staged_bytes active new bytes)
staged_longer active new bytes is within =
    let root = new_root active (length new) in
    let also = pointer_of (other_side active.side) in
    let place = place_is active (length new) is in
    let pointer = pointer_is (other_side active.side) in
    let first : Torn root (length new) bytes (after_write root new bytes) = torn_by root (length new) new bytes (omega (arith, place.within)) refl in
    let second : Torn also 8 (after_write root new bytes) (staged_bytes active new bytes) =
    torn_by also 8 (to_be_bytes w64 root) (after_write root new bytes) (omega (arith, pointer.to, first.no_shorter, is.header, is.version)) refl in
    omega (arith, first.no_shorter, second.no_shorter)
