-- The bytes of a disk whose journal is read, or written anew.
use Rattle.std.proofs.Common.{◌≡◌, ◌≤◌, ◌<◌, ◌+◌, ◌^◌, ℕ, Bool, true, false, not, if◌then◌else◌, List, [], ◌∷◌, length, Option, Some, Result, refl, ap, ◌∙◌, arith}
use Rattle.std.specs.Prelude.{◌==◌, Ok, Err}
use Rattle.std.specs.Int.{w64, to_be_bytes}
use Rattle.std.specs.Option.{option_map_or}
use Rattle.std.proofs.lemmas.Bool.{ne_eqb}
use Rattle.aq_disk.specs.Disk.{Torn, after_write}
use Rattle.aq_disk.specs.Left.{length-after_write, torn_by}
use Rattle.redo_journal.specs.Begun.{after_mount, begun_bytes, begun_journal}
use Rattle.redo_journal.specs.Crash.{IsAtRest, compacted}
use Rattle.redo_journal.specs.Journal.{Mounted, Outline, area, is_unbegun, journal, mounted_at, mounted_of, outline, pointer_of, version_in, version_of, written_version}
use Rattle.redo_journal.specs.Journaled.{IsArea}
use Rattle.redo_journal.specs.declared.frame.Active.{Active}
use Rattle.redo_journal.proofs.Grow.{contents_same}
use Rattle.redo_journal.proofs.Heads.{area_within, gate_within, journal_unbegun}
use Rattle.redo_records.specs.Recovered.{recovered}
use Rattle.redo_records.specs.Spelling.{encode}
use Rattle.queue_rows.specs.declared.tables.Tables.{Tables}
use Rattle.database_recovery.specs.Recovering.{ContentsRecover}
use Rattle.database_recovery.specs.Sound.{IsSound}
use Rattle.checkpoint.specs.Compaction.{compacted_journal, new_root, other_side, side_byte, staged_bytes, turned_bytes}
use Rattle.checkpoint.proofs.Turning.{place_is, pointer_is, turn_rests}
use Rattle.checkpoint_commit.specs.Anew.{mounted_bytes, with_checkpoint, written_anew, written_by}
use Rattle.checkpoint_commit.specs.Checkpoint.{checkpoint_of}
use Rattle.checkpoint_commit.specs.Laws.{CheckpointRestores}
use Rattle.commit_log.proofs.Mounting.{same_ok}

-- ---- versions

version_at_end : (o : Outline) (end : Result ℕ ℕ) (m : Mounted) → mounted_at o end ≡ Ok m → Some o.version ≡ Some m.version
version_at_end o (Ok gate) m is =
    let same : record { version = o.version; active = record { side = o.side; root = o.root; gate = gate }; frames = o.chain.frames } ≡ m = cc in
    ap (λ (n : Mounted). Some n.version) same
version_at_end o (Err at) m is = absurd (cc)

version_mounted : (r : Result Outline ℕ) (m : Mounted) → mounted_of r ≡ Ok m → version_in r ≡ Some m.version
version_mounted (Ok o) m is = version_at_end o o.chain.end m is
version_mounted (Err at) m is = absurd (cc)

-- a journal has its version
pub version_read : (bytes : List ℕ) (m : Mounted) → journal bytes ≡ Ok m → version_of bytes ≡ Some m.version
unfolding journal version_of
version_read bytes m is = version_mounted (outline bytes) m is

not_true : (b : Bool) → (b ≡ true → ⊥) → b ≡ false
not_true true never = absurd (never refl)
not_true false never = refl

-- what has no journal yet is begun in the version that is written
pub old_begun : (bytes : List ℕ) (m : Mounted) → journal bytes ≡ Ok m → (m.version ≡ written_version → ⊥) → is_unbegun bytes ≡ false
old_begun bytes m is old =
    not_true (is_unbegun bytes) (λ yes. old (ap (λ (n : Mounted). n.version) (same_ok (journal bytes) m begun_journal is (journal_unbegun bytes yes))))

pub begun_after : (bytes : List ℕ) → is_unbegun bytes ≡ false → after_mount bytes ≡ bytes
begun_after bytes is = ap (λ (b : Bool). if b then begun_bytes bytes else bytes) is

-- ---- what mounting makes of them

pub mounted_written : (bytes : List ℕ) → version_of bytes ≡ Some written_version → mounted_bytes bytes ≡ after_mount bytes
unfolding mounted_bytes
mounted_written bytes is = ap (λ (v : Option ℕ). if option_map_or (λ n. not (n == written_version)) v false then written_anew bytes else after_mount bytes) is

pub mounted_old : (bytes : List ℕ) (version : ℕ) → version_of bytes ≡ Some version → (version ≡ written_version → ⊥) → mounted_bytes bytes ≡ written_anew bytes
unfolding mounted_bytes
mounted_old bytes version is old =
    ap (λ (v : Option ℕ). if option_map_or (λ n. not (n == written_version)) v false then written_anew bytes else after_mount bytes) is
    ∙ ap (λ (b : Bool). if not b then written_anew bytes else after_mount bytes) (ne_eqb version written_version old)

pub anew_bytes : (bytes : List ℕ) (m : Mounted) (t : Tables) → journal bytes ≡ Ok m → recovered bytes ≡ Ok t → written_anew bytes ≡ with_checkpoint m.active t bytes
unfolding written_anew
anew_bytes bytes m t reads is = ap (λ (r : Result Mounted ℕ). written_by r (recovered bytes) bytes) reads ∙ ap (λ (r : Result Tables ℕ). written_by (Ok m) r bytes) is

-- ---- what is written anew reads as it was written

-- the new area lies within them
turned_long : (active : Active) (new bytes : List ℕ) → IsArea active → active.gate < length bytes → new_root active (length new) + length new ≤ length (turned_bytes active new bytes)
turned_long active new bytes is within =
    let root = new_root active (length new) in
    let also = pointer_of (other_side active.side) in
    let place = place_is active (length new) is in
    let pointer = pointer_is (other_side active.side) in
    let at : root ≤ length bytes = omega (arith, place.within, within) in
    let first = length-after_write root new bytes at in
    let second : Torn also 8 (after_write root new bytes) (staged_bytes active new bytes) =
    torn_by also 8 (to_be_bytes w64 root) (after_write root new bytes) (omega (arith, pointer.to, first, is.header, is.version, within)) refl in
    let third : Torn 7 1 (staged_bytes active new bytes) (turned_bytes active new bytes) =
    torn_by 7 1 (side_byte (other_side active.side) ∷ []) (staged_bytes active new bytes) (omega (arith, second.no_shorter, first, is.header, is.version, within)) refl in
    omega (arith, first, second.no_shorter, third.no_shorter)

-- of a journal that was begun, within the limit of a disk
pub anew_rests : (m : Mounted) (body bytes : List ℕ) → journal bytes ≡ Ok m → is_unbegun bytes ≡ false → length bytes ≤ 2 ^ 62
    → length (turned_bytes m.active (area (body ∷ [])) bytes) ≤ 2 ^ 62
    → IsAtRest (compacted_journal m.active body) (turned_bytes m.active (area (body ∷ [])) bytes) (λ image. image ≡ turned_bytes m.active (area (body ∷ [])) bytes)
anew_rests m body bytes reads begun le most =
    let new = area (body ∷ []) in
    let long = turned_long m.active new bytes (area_within m bytes reads begun le) (gate_within m bytes reads begun) in
    turn_rests m body bytes (λ image. image ≡ bytes) (λ image. image ≡ turned_bytes m.active new bytes) (record { reads = reads; begun = begun; settled = λ image is. is }) le
    (omega (arith, long, most)) (λ image is. is)

-- and is recovered to the tables of its commit
pub anew_recovered : ContentsRecover → CheckpointRestores → (active : Active) (t : Tables) (bytes : List ℕ) → IsSound t → journal bytes ≡ Ok (compacted_journal active (encode (checkpoint_of t))) → recovered bytes ≡ Ok t
anew_recovered contents restores active t bytes sound reads =
    let body = encode (checkpoint_of t) in contents (compacted body) t bytes (contents_same (compacted_journal active body) bytes reads) (restores t sound)
