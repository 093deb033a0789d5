-- What is read in front of a journal's frames.
use Rattle.std.proofs.Common.{◌≡◌, ℕ, ◌+◌, ◌-◌, ◌≤◌, min, Bool, true, false, not, List, [], length, take, drop, refl, ◌∙◌, ap, arith, length-drop}
use Rattle.std.specs.Prelude.{slice_range, None, Result, Ok, Err, if◌then◌else◌}
use Rattle.std.proofs.lemmas.List.{take_min, take_rest}
use Rattle.redo_journal.specs.Journal.{Chain, Outline, chain_from, is_header, is_root, is_known_version, version_at, pointer_of, outline_at, outline_of, mounted_at, mounted_of, frames_in, version_in, is_unbegun}
use Rattle.redo_journal.specs.declared.frame.Damage.{Damage}
use Rattle.redo_journal.specs.declared.frame.FrameAt.{FrameAt}
use Rattle.redo_journal.specs.declared.frame.Side.{Side}
use Rattle.redo_journal.specs.declared.read.ChainFault.{ChainFault}
use Rattle.redo_journal.specs.declared.read.ChainFault.TheVariants.{Broken, Memory}
use Rattle.redo_journal.specs.Broken.{IsBrokenAt, IsOutlineDamaged, IsDamagedAt, IsDamaged, in_version}
use Rattle.redo_journal.proofs.Frames.{chain_room}
use Rattle.redo_journal.proofs.Heads.{outline_is, journal_begun, frames_begun, version_begun}

-- a range that ends where the bytes do, if these end before
pub front_of_range : (end : ℕ) (bytes : List ℕ) → 1 ≤ length bytes → end ≡ min (length bytes) 29 → slice_range bytes 1 end ≡ slice_range bytes 1 29
front_of_range end bytes some is =
    let e : end - 1 ≡ min 28 (length (drop 1 bytes)) = omega (arith, is, length-drop 1 bytes) in
    ap (λ (k : ℕ). take k (drop 1 bytes)) e ∙ take_min 28 (drop 1 bytes)

-- ---- an area

abbrev chain_of : ℕ → List ℕ → Chain
chain_of root bytes = chain_from (length bytes) (root + 4) (drop (root + 4) bytes)

-- the frames as they are read, of the bytes from the first gate on
abbrev pub read_chain : ℕ → List ℕ → Chain
read_chain root bytes = chain_from (length (drop (root + 4) bytes)) (root + 4) (drop (root + 4) bytes)

-- no area, and so no frame
abbrev bare : ℕ → Damage
bare offset = record { offset = offset; version = None; frames = [] }

none_there : (offset : ℕ) (outlined : Result Outline ℕ) → outlined ≡ Err offset → IsDamagedAt (Broken (bare offset)) outlined
none_there offset outlined is = record { offset = ap mounted_of is; version = ap version_in is; frames = ap frames_in is }

pub no_root : (side : Side) (root : ℕ) (bytes : List ℕ) → is_root root bytes ≡ false → IsDamagedAt (Broken (bare (pointer_of side))) (outline_at side root bytes)
no_root side root bytes no_root_is = none_there (pointer_of side) (outline_at side root bytes) (rw no_root_is refl)

pub no_header : (bytes : List ℕ) → is_header bytes ≡ false → IsDamagedAt (Broken (bare 0)) (outline_of bytes)
no_header bytes no_header_is = none_there 0 (outline_of bytes) (rw no_header_is refl)

module _ (side : Side) (root : ℕ) (bytes : List ℕ) (fits : is_root root bytes ≡ true) where
  pub no_version : is_known_version (version_at root bytes) ≡ false → IsDamagedAt (Broken (bare root)) (outline_at side root bytes)
  no_version unknown =
      none_there root (outline_at side root bytes)
      (ap (λ (t : Bool). if not t then Err (pointer_of side) else (if not (is_known_version (version_at root bytes)) then Err root else Ok (outline_is (version_at root bytes) side root bytes))) fits
      ∙ ap (λ (t : Bool). if not t then Err root else Ok (outline_is (version_at root bytes) side root bytes)) unknown)

  module _ (known : is_known_version (version_at root bytes) ≡ true) where
    area_is : outline_at side root bytes ≡ Ok (outline_is (version_at root bytes) side root bytes)
    area_is =
        ap (λ (t : Bool). if not t then Err (pointer_of side) else (if not (is_known_version (version_at root bytes)) then Err root else Ok (outline_is (version_at root bytes) side root bytes))) fits
        ∙ ap (λ (t : Bool). if not t then Err root else Ok (outline_is (version_at root bytes) side root bytes)) known

    same_chain : chain_of root bytes ≡ read_chain root bytes
    same_chain = chain_room (length bytes) (length (drop (root + 4) bytes)) (root + 4) (drop (root + 4) bytes) (omega (arith, length-drop (root + 4) bytes)) (omega arith)

    pub area_ok : (frames : List FrameAt) (gate : ℕ) → read_chain root bytes ≡ record { frames = frames; end = Ok gate }
        → mounted_of (outline_at side root bytes) ≡ Ok (record { version = version_at root bytes; active = record { side = side; root = root; gate = gate }; frames = frames })
    area_ok frames gate is = ap mounted_of area_is ∙ ap (λ (c : Chain). mounted_at (record { version = version_at root bytes; side = side; root = root; chain = c }) c.end) (same_chain ∙ is)

    pub area_broken : (damage : Damage) → IsBrokenAt (Broken damage) (read_chain root bytes)
        → IsDamagedAt (in_version (version_at root bytes) (Broken damage)) (outline_at side root bytes)
    area_broken damage is = record {
      offset = ap mounted_of area_is ∙ ap (λ (c : Chain). mounted_at (record { version = version_at root bytes; side = side; root = root; chain = c }) c.end) (same_chain ∙ is);
      version = ap version_in area_is;
      frames = ap frames_in area_is ∙ ap (λ (c : Chain). c.frames) (same_chain ∙ is);
    }

pub area_damaged : (side : Side) (root : ℕ) (bytes : List ℕ) (fault : ChainFault) → is_root root bytes ≡ true → is_known_version (version_at root bytes) ≡ true → IsBrokenAt fault (read_chain root bytes)
    → IsDamagedAt (in_version (version_at root bytes) fault) (outline_at side root bytes)
area_damaged side root bytes (Broken damage) fits known is = area_broken side root bytes fits known damage is
area_damaged side root bytes Memory fits known is = tt

pub rest_of : (at : ℕ) (bytes : List ℕ) → take (length bytes - at) (drop at bytes) ≡ drop at bytes
rest_of at bytes = take_rest bytes at

-- where a disk is begun, it is damaged as it is outlined
pub damage_begun : (damage : Damage) (bytes : List ℕ) → is_unbegun bytes ≡ false → IsOutlineDamaged damage (outline_of bytes) → IsDamaged damage bytes
damage_begun damage bytes is damaged = record { offset = journal_begun bytes is ∙ damaged.offset; version = version_begun bytes is ∙ damaged.version; frames = frames_begun bytes is ∙ damaged.frames }
