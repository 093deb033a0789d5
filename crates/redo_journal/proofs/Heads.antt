-- What is read of a journal's bytes, in front of its frames and in all.
use Rattle.std.proofs.Common.{◌≡◌, ℕ, ◌+◌, ◌-◌, ◌^◌, ◌<◌, ◌≤◌, Bool, true, false, not, ◌&&◌, ◌||◌, List, [], ◌∷◌, ◌++◌, length, take, drop, refl, sym, ◌∙◌, ap, subst, arith, length-append, length-take, length-drop, take-append-drop}
use Rattle.std.specs.Prelude.{nat_le, ◌==◌, Result, Ok, Err, slice_index, slice_range, if◌then◌else◌}
use Rattle.std.specs.Int.{w32, w64, from_be_bytes}
use Rattle.std.specs.Str.{bytes_eq}
use Rattle.std.proofs.lemmas.Bool.{leb-true}
use Rattle.std.proofs.lemmas.Grind.{common_steps}
use Rattle.std.proofs.lemmas.List.{drop_at, get_or_append_left, take-append-le, drop-append-le}
use Rattle.redo_journal.specs.Journal.{Chain, Outline, Mounted, magic, first_root, chain_from, is_header, side_of, root_of, pointer_of, version_at, is_root, is_known_version, outline_at, outline_of, is_unbegun, begun, outline, mounted_at, mounted_of, journal, frames_in, frames_of, version_in, version_of}
use Rattle.redo_journal.specs.Journaled.{IsArea}
use Rattle.redo_journal.specs.declared.frame.FrameAt.{FrameAt}
use Rattle.redo_journal.specs.declared.frame.Side.{Side}
use Rattle.redo_journal.specs.declared.frame.Side.TheVariants.{A, B}
use Rattle.redo_journal.proofs.Numbers.{le_test}
use Rattle.redo_journal.proofs.Fronts.{IsFront, closed_chain, chain_closed, chain_found}

abbrev pub mounted : ℕ → Side → ℕ → ℕ → List FrameAt → Mounted
mounted version side root gate frames = record { version = version; active = record { side = side; root = root; gate = gate }; frames = frames }

abbrev pub head_test : List ℕ → Bool
head_test pre = slice_index pre 0 == 1 && bytes_eq (slice_range pre 1 7) magic

-- the bytes in front of an area's first gate say so
pub record IsOpening (version : ℕ) (side : Side) (root : ℕ) (pre : List ℕ) : Type 0 where
  pub long : length pre ≡ root + 4
  pub past : 24 ≤ root
  pub header : head_test pre ≡ true
  pub side_is : side_of pre ≡ side
  pub root_is : root_of side pre ≡ root
  pub version_is : version_at root pre ≡ version
  pub known : is_known_version version ≡ true

-- ---- bytes in front, whatever follows

pub byte_front : (i : ℕ) (pre rest : List ℕ) → i < length pre → slice_index (pre ++ rest) i ≡ slice_index pre i
byte_front i pre rest lt = get_or_append_left pre rest 0 i lt

pub range_front : (i j : ℕ) (pre rest : List ℕ) → i ≤ j → j ≤ length pre → slice_range (pre ++ rest) i j ≡ slice_range pre i j
range_front i j pre rest le within =
    ap (take (j - i)) (drop-append-le i pre rest (omega arith)) ∙ take-append-le (j - i) (drop i pre) rest (omega (arith, length-drop i pre))

header_front : (pre rest : List ℕ) → 24 ≤ length pre → is_header (pre ++ rest) ≡ head_test pre
header_front pre rest le =
    let t : nat_le 24 (length (pre ++ rest)) ≡ true = le_test 24 (length (pre ++ rest)) (omega (arith, length-append pre rest)) in
    let a = byte_front 0 pre rest (omega arith) in
    let b = range_front 1 7 pre rest (omega arith) (omega arith) in
    rw (t, a, b) refl

side_front : (pre rest : List ℕ) → 24 ≤ length pre → side_of (pre ++ rest) ≡ side_of pre
side_front pre rest le = ap (λ (b : ℕ). if b == 1 then B else A) (byte_front 7 pre rest (omega arith))

root_front : (side : Side) (pre rest : List ℕ) → 24 ≤ length pre → root_of side (pre ++ rest) ≡ root_of side pre
root_front A pre rest le = ap (from_be_bytes w64) (range_front 8 16 pre rest (omega arith) (omega arith))
root_front B pre rest le = ap (from_be_bytes w64) (range_front 16 24 pre rest (omega arith) (omega arith))

version_front : (root : ℕ) (pre rest : List ℕ) → root + 4 ≤ length pre → version_at root (pre ++ rest) ≡ version_at root pre
version_front root pre rest le = ap (from_be_bytes w32) (range_front root (root + 4) pre rest (omega arith) le)

-- ---- a header

and_left : (a b : Bool) → (a && b) ≡ true → a ≡ true
and_left true b h = refl
and_left false b h = h

and_right : (a b : Bool) → (a && b) ≡ true → b ≡ true
and_right true b h = h
and_right false b h = absurd (cc)

pub and_both : (a b : Bool) → a ≡ true → b ≡ true → (a && b) ≡ true
and_both true b h g = g
and_both false b h g = h

-- a disk with a header was begun
begun_test : (long first more : Bool) → first ≡ true → (long || (if first then false else true) || (not first && more)) ≡ long
begun_test true true more is = refl
begun_test false true more is = refl
begun_test long false more is = absurd (cc)

pub begun_by_header : (bytes : List ℕ) → is_header bytes ≡ true → is_unbegun bytes ≡ false
begun_by_header bytes h =
    let front = and_left (nat_le 24 (length bytes) && slice_index bytes 0 == 1) (bytes_eq (slice_range bytes 1 7) magic) h in
    let long = leb-true 24 (length bytes) (and_left (nat_le 24 (length bytes)) (slice_index bytes 0 == 1) front) in
    let one : (slice_index bytes 0 == 1) ≡ true = and_right (nat_le 24 (length bytes)) (slice_index bytes 0 == 1) front in
    let not_short : nat_le (length bytes) 1 ≡ false = grind (arith, common_steps) in
    let not_shut : (slice_index bytes 0 == 0) ≡ false = not_both (slice_index bytes 0) one in
    rw (not_short, not_shut, one) refl
  where
    not_both : (b : ℕ) → (b == 1) ≡ true → (b == 0) ≡ false
    not_both b is = grind (arith, common_steps)

-- ---- the whole

abbrev pub outline_is : ℕ → Side → ℕ → List ℕ → Outline
outline_is version side root bytes = record { version = version; side = side; root = root; chain = chain_from (length bytes) (root + 4) (drop (root + 4) bytes) }

outlined : (version : ℕ) (side : Side) (root : ℕ) (pre rest : List ℕ) → IsOpening version side root pre → 1 ≤ length rest → outline (pre ++ rest) ≡ Ok (outline_is version side root (pre ++ rest))
unfolding outline
outlined version side root pre rest o some =
    let within : 24 ≤ length pre = omega (arith, o.long, o.past) in
    let header : is_header (pre ++ rest) ≡ true = header_front pre rest within ∙ o.header in
    let is_begun : is_unbegun (pre ++ rest) ≡ false = begun_by_header (pre ++ rest) header in
    let side_same : side_of (pre ++ rest) ≡ side = side_front pre rest within ∙ o.side_is in
    let root_same : root_of side (pre ++ rest) ≡ root = root_front side pre rest within ∙ o.root_is in
    let a : outline (pre ++ rest) ≡ outline_of (pre ++ rest) = ap (λ (t : Bool). if t then Ok begun else outline_of (pre ++ rest)) is_begun in
    let b : outline_of (pre ++ rest) ≡ outline_at (side_of (pre ++ rest)) (root_of (side_of (pre ++ rest)) (pre ++ rest)) (pre ++ rest) =
    ap (λ (t : Bool). if t then outline_at (side_of (pre ++ rest)) (root_of (side_of (pre ++ rest)) (pre ++ rest)) (pre ++ rest) else Err 0) header in
    let c : outline_at (side_of (pre ++ rest)) (root_of (side_of (pre ++ rest)) (pre ++ rest)) (pre ++ rest) ≡ outline_at side root (pre ++ rest) =
    ap (λ (s : Side). outline_at s (root_of s (pre ++ rest)) (pre ++ rest)) side_same ∙ ap (λ (r : ℕ). outline_at side r (pre ++ rest)) root_same in
    a ∙ b ∙ c ∙ at_root version side root (pre ++ rest) (and_both (nat_le first_root root) (nat_le (root + 5) (length (pre ++ rest))) (le_test 24 root o.past) (le_test (root + 5) (length (pre ++ rest)) (omega (arith, length-append pre rest, o.long))))
    (version_front root pre rest (omega (arith, o.long)) ∙ o.version_is) o.known
  where
    at_root : (version : ℕ) (side : Side) (root : ℕ) (bytes : List ℕ) → is_root root bytes ≡ true → version_at root bytes ≡ version → is_known_version version ≡ true
        → outline_at side root bytes ≡ Ok (outline_is version side root bytes)
    at_root version side root bytes fits is known =
        ap (λ (t : Bool). if not t then Err (pointer_of side) else (if not (is_known_version (version_at root bytes)) then Err root else Ok (outline_is (version_at root bytes) side root bytes))) fits
        ∙ ap (λ (v : ℕ). if not (is_known_version v) then Err root else Ok (outline_is v side root bytes)) is
        ∙ ap (λ (t : Bool). if not t then Err root else Ok (outline_is version side root bytes)) known

pub begun_front : (version : ℕ) (side : Side) (root : ℕ) (pre rest : List ℕ) → IsOpening version side root pre → is_unbegun (pre ++ rest) ≡ false
begun_front version side root pre rest o = begun_by_header (pre ++ rest) (header_front pre rest (omega (arith, o.long, o.past)) ∙ o.header)

-- an opening, frames, and a closed gate, whatever follows it
pub journal_closed : (version : ℕ) (side : Side) (root : ℕ) (pre raw : List ℕ) (frames : List FrameAt) (shut : ℕ) (others : List ℕ)
    → IsOpening version side root pre → IsFront (root + 4) frames raw → (shut ≡ 1 → ⊥)
    → journal (pre ++ (raw ++ shut ∷ others)) ≡ Ok (mounted version side root (root + 4 + length raw) frames)
unfolding journal
journal_closed version side root pre raw frames shut others o front is_shut =
    let some : 1 ≤ length (raw ++ shut ∷ others) = omega (arith, length-append raw (shut ∷ others)) in
    let behind : drop (root + 4) (pre ++ (raw ++ shut ∷ others)) ≡ raw ++ shut ∷ others = drop_at pre (raw ++ shut ∷ others) (root + 4) o.long in
    let room : length raw + 1 ≤ length (pre ++ (raw ++ shut ∷ others)) = omega (arith, length-append pre (raw ++ shut ∷ others), length-append raw (shut ∷ others)) in
    let chain : chain_from (length (pre ++ (raw ++ shut ∷ others))) (root + 4) (drop (root + 4) (pre ++ (raw ++ shut ∷ others))) ≡ closed_chain frames (root + 4 + length raw) =
    ap (chain_from (length (pre ++ (raw ++ shut ∷ others))) (root + 4)) behind ∙ chain_closed frames (length (pre ++ (raw ++ shut ∷ others))) (root + 4) raw shut others front is_shut room in
    ap mounted_of (outlined version side root pre (raw ++ shut ∷ others) o some)
    ∙ ap (λ (c : Chain). mounted_at (record { version = version; side = side; root = root; chain = c }) c.end) chain

-- ---- what a journal's bytes are

-- an opening, frames behind open gates and a closed gate
pub record Stands (m : Mounted) (bytes : List ℕ) : Type 0 where
  pub pre : List ℕ
  pub raw : List ℕ
  pub shut : ℕ
  pub others : List ℕ
  pub opening : IsOpening m.version m.active.side m.active.root pre
  pub front : IsFront (m.active.root + 4) m.frames raw
  pub is_shut : shut ≡ 1 → ⊥
  pub gate : m.active.gate ≡ m.active.root + 4 + length raw
  pub bytes_are : bytes ≡ pre ++ (raw ++ shut ∷ others)

-- what was read of the header
pub record IsRead (version : ℕ) (side : Side) (root : ℕ) (bytes : List ℕ) : Type 0 where
  pub header : is_header bytes ≡ true
  pub side_is : side_of bytes ≡ side
  pub root_is : root_of side bytes ≡ root
  pub fits : is_root root bytes ≡ true
  pub version_is : version_at root bytes ≡ version
  pub known : is_known_version version ≡ true

pub opened : (version : ℕ) (side : Side) (root : ℕ) (pre rest : List ℕ) → length pre ≡ root + 4 → IsRead version side root (pre ++ rest) → IsOpening version side root pre
opened version side root pre rest long is =
    let past : 24 ≤ root = leb-true 24 root (and_left (nat_le first_root root) (nat_le (root + 5) (length (pre ++ rest))) is.fits) in
    let within : 24 ≤ length pre = omega arith in
    record {
      long = long;
      past = past;
      header = sym (header_front pre rest within) ∙ is.header;
      side_is = sym (side_front pre rest within) ∙ is.side_is;
      root_is = sym (root_front side pre rest within) ∙ is.root_is;
      version_is = sym (version_front root pre rest (omega arith)) ∙ is.version_is;
      known = is.known;
    }

stands_so : (version : ℕ) (side : Side) (root gate : ℕ) (frames : List FrameAt) (bytes : List ℕ) → IsRead version side root bytes
    → chain_from (length bytes) (root + 4) (drop (root + 4) bytes) ≡ closed_chain frames gate → Stands (mounted version side root gate frames) bytes
stands_so version side root gate frames bytes is chain =
    let found = chain_found (length bytes) (root + 4) (drop (root + 4) bytes) frames gate chain in
    let fits = leb-true (root + 5) (length bytes) (and_right (nat_le first_root root) (nat_le (root + 5) (length bytes)) is.fits) in
    let whole : bytes ≡ take (root + 4) bytes ++ (found.raw ++ found.shut ∷ found.others) = sym (take-append-drop (root + 4) bytes) ∙ ap (λ (l : List ℕ). take (root + 4) bytes ++ l) found.stands in
    record {
      pre = take (root + 4) bytes;
      raw = found.raw;
      shut = found.shut;
      others = found.others;
      opening = opened version side root (take (root + 4) bytes) (found.raw ++ found.shut ∷ found.others) (length-take (root + 4) bytes ∙ omega arith) (subst (IsRead version side root) whole is);
      front = found.front;
      is_shut = found.is_shut;
      gate = found.at_end;
      bytes_are = whole;
    }

abbrev found_in : Mounted → Result Mounted ℕ
found_in m = Ok m

abbrev lost_at : ℕ → Result Mounted ℕ
lost_at at = Err at

never : {P : Type 0} (at : ℕ) (m : Mounted) → lost_at at ≡ found_in m → P
never at m is = absurd (cc)

mounted_same : (a b : Mounted) → found_in a ≡ found_in b → a ≡ b
mounted_same a b is = cc

chain_stands : (version : ℕ) (side : Side) (root : ℕ) (bytes : List ℕ) (m : Mounted) (frames : List FrameAt) (end : Result ℕ ℕ) → IsRead version side root bytes
    → chain_from (length bytes) (root + 4) (drop (root + 4) bytes) ≡ record { frames = frames; end = end }
    → mounted_at (record { version = version; side = side; root = root; chain = record { frames = frames; end = end } }) end ≡ found_in m → Stands m bytes
chain_stands version side root bytes m frames (Err at) read chain is = never at m is
chain_stands version side root bytes m frames (Ok gate) read chain is =
    subst (λ (x : Mounted). Stands x bytes) (mounted_same (mounted version side root gate frames) m is) (stands_so version side root gate frames bytes read chain)

known_stands : (side : Side) (root : ℕ) (bytes : List ℕ) (m : Mounted) → is_header bytes ≡ true → side_of bytes ≡ side → root_of side bytes ≡ root → is_root root bytes ≡ true
    → (t : Bool) → is_known_version (version_at root bytes) ≡ t
    → mounted_of (if not t then Err root else Ok (outline_is (version_at root bytes) side root bytes)) ≡ found_in m → Stands m bytes
known_stands side root bytes m header side_is root_is fits false t is = never root m is
known_stands side root bytes m header side_is root_is fits true t is =
    let chain = chain_from (length bytes) (root + 4) (drop (root + 4) bytes) in
    chain_stands (version_at root bytes) side root bytes m chain.frames chain.end
    (record { header = header; side_is = side_is; root_is = root_is; fits = fits; version_is = refl; known = t }) refl is

root_stands : (side : Side) (root : ℕ) (bytes : List ℕ) (m : Mounted) → is_header bytes ≡ true → side_of bytes ≡ side → root_of side bytes ≡ root
    → (t : Bool) → is_root root bytes ≡ t
    → mounted_of (if not t then Err (pointer_of side) else (if not (is_known_version (version_at root bytes)) then Err root else Ok (outline_is (version_at root bytes) side root bytes))) ≡ found_in m → Stands m bytes
root_stands side root bytes m header side_is root_is false t is = never (pointer_of side) m is
root_stands side root bytes m header side_is root_is true t is = known_stands side root bytes m header side_is root_is t (is_known_version (version_at root bytes)) refl is

header_stands : (bytes : List ℕ) (m : Mounted) (t : Bool) → is_header bytes ≡ t
    → mounted_of (if t then outline_at (side_of bytes) (root_of (side_of bytes) bytes) bytes else Err 0) ≡ found_in m → Stands m bytes
header_stands bytes m false t is = never 0 m is
header_stands bytes m true t is =
    root_stands (side_of bytes) (root_of (side_of bytes) bytes) bytes m t refl refl (is_root (root_of (side_of bytes) bytes) bytes) refl is

-- a begun journal stands so
pub stands_found : (m : Mounted) (bytes : List ℕ) → journal bytes ≡ Ok m → is_unbegun bytes ≡ false → Stands m bytes
unfolding journal outline
stands_found m bytes is begun_is =
    let whole : mounted_of (if is_unbegun bytes then Ok begun else outline_of bytes) ≡ found_in m = is in
    header_stands bytes m (is_header bytes) refl (sym (ap (λ (t : Bool). mounted_of (if t then Ok begun else outline_of bytes)) begun_is) ∙ whole)

-- what is read of the header of a journal that stands so
pub stands_read : (m : Mounted) (bytes : List ℕ) → Stands m bytes → IsRead m.version m.active.side m.active.root bytes
stands_read m bytes s =
    let o = s.opening in
    let rest = s.raw ++ s.shut ∷ s.others in
    let within : 24 ≤ length s.pre = omega (arith, o.long, o.past) in
    subst (IsRead m.version m.active.side m.active.root) (sym s.bytes_are)
    (record {
      header = header_front s.pre rest within ∙ o.header;
      side_is = side_front s.pre rest within ∙ o.side_is;
      root_is = root_front m.active.side s.pre rest within ∙ o.root_is;
      fits = and_both _ _ (le_test first_root m.active.root o.past) (le_test (m.active.root + 5) (length (s.pre ++ rest)) (omega (arith, o.long, length-append s.pre rest, length-append s.raw (s.shut ∷ s.others))));
      version_is = version_front m.active.root s.pre rest (omega (arith, o.long)) ∙ o.version_is;
      known = o.known;
    })

-- ---- begun or not

pub journal_begun : (bytes : List ℕ) → is_unbegun bytes ≡ false → journal bytes ≡ mounted_of (outline_of bytes)
unfolding journal outline
journal_begun bytes is = ap (λ (t : Bool). mounted_of (if t then Ok begun else outline_of bytes)) is

pub frames_begun : (bytes : List ℕ) → is_unbegun bytes ≡ false → frames_of bytes ≡ frames_in (outline_of bytes)
unfolding frames_of outline
frames_begun bytes is = ap (λ (t : Bool). frames_in (if t then Ok begun else outline_of bytes)) is

pub version_begun : (bytes : List ℕ) → is_unbegun bytes ≡ false → version_of bytes ≡ version_in (outline_of bytes)
unfolding version_of outline
version_begun bytes is = ap (λ (t : Bool). version_in (if t then Ok begun else outline_of bytes)) is

pub journal_unbegun : (bytes : List ℕ) → is_unbegun bytes ≡ true → journal bytes ≡ Ok (mounted 2 A 24 28 [])
unfolding journal outline
journal_unbegun bytes is = ap (λ (t : Bool). mounted_of (if t then Ok begun else outline_of bytes)) is

-- ---- bounds

fronts_few : (gate : ℕ) (frames : List FrameAt) (raw : List ℕ) → IsFront gate frames raw → length frames ≤ length raw
fronts_few gate [] raw is = omega arith
fronts_few gate (f ∷ fs) raw (head, bytes, more, block, at, raw_is, rest) =
    omega (arith, fronts_few (gate + 9 + length bytes) fs more rest, ap length raw_is, length-append head (bytes ++ more), length-append bytes more)

pub stands_within : (m : Mounted) (bytes : List ℕ) → Stands m bytes → m.active.gate < length bytes
stands_within m bytes s =
    omega (arith, ap length s.bytes_are, length-append s.pre (s.raw ++ s.shut ∷ s.others), length-append s.raw (s.shut ∷ s.others), s.opening.long, s.gate)

-- the closed gate lies on the disk, and there are no more frames than bytes up to it
pub gate_within : (m : Mounted) (bytes : List ℕ) → journal bytes ≡ Ok m → is_unbegun bytes ≡ false → m.active.gate < length bytes
gate_within m bytes is begun_is = stands_within m bytes (stands_found m bytes is begun_is)

pub few_frames : (m : Mounted) (bytes : List ℕ) → journal bytes ≡ Ok m → is_unbegun bytes ≡ false → length m.frames ≤ m.active.gate
few_frames m bytes is begun_is =
    let s = stands_found m bytes is begun_is in
    omega (arith, fronts_few (m.active.root + 4) m.frames s.raw s.front, s.gate)

-- the area lies behind the header, and on the disk
pub area_within : (m : Mounted) (bytes : List ℕ) → journal bytes ≡ Ok m → is_unbegun bytes ≡ false → length bytes ≤ 2 ^ 62 → IsArea m.active
area_within m bytes is begun_is le =
    let s = stands_found m bytes is begun_is in
    record { header = s.opening.past; version = omega (arith, s.gate); limit = omega (arith, gate_within m bytes is begun_is, le) }
