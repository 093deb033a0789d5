-- What a disk is recovered to, by what its journal was read as.
use Rattle.std.proofs.Common.{◌≡◌, ℕ, ◌++◌, inl, inr, List, [], Bool, true, false, Some, Result, Ok, Err, refl, sym, ap, ◌∙◌}
use Rattle.std.specs.Prelude.{fold, if◌then◌else◌}
use Rattle.redo_journal.specs.Crash.{Contents, StandsForNone, contents_in, contents_of, with_bodies}
use Rattle.redo_journal.specs.Journal.{Mounted, Outline, begun, bodies_in, frames_in, frames_of, is_unbegun, journal, mounted_of, mounted_at, outline, outline_of, version_in, version_of}
use Rattle.redo_journal.specs.declared.frame.Damage.{Damage}
use Rattle.queue_rows.specs.Tables.{empty_tables}
use Rattle.redo_records.specs.Recovered.{after_bodies, after_frames, recovered, recovered_from, up_to_end}
use Rattle.queue_rows.specs.declared.tables.Tables.{Tables}
use Rattle.database_recovery.specs.Recovering.{AppendRecovers, ContentsRecover, JournalRecovers, DamageRecovers, MountRecovers, up_to_damage}
use Rattle.database_recovery.proofs.Leading.{bodies_behind, frames_lead, led_on}

same_ok : {T E : Type 0} (answer : Result T E) (x y : T) → answer ≡ Ok x → answer ≡ Ok y → x ≡ y
same_ok answer x y d e = cc

same_err : {T E : Type 0} (answer : Result T E) (x y : E) → answer ≡ Err x → answer ≡ Err y → x ≡ y
same_err answer x y d e = cc

up_to_gate : (led : Result Tables ℕ) (gate : ℕ) → up_to_end led (Ok gate) ≡ led
up_to_gate (Ok t) gate = refl
up_to_gate (Err at) gate = refl

-- ---- a journal

read_to_gate : (o : Outline) (end : Result ℕ ℕ) (m : Mounted) → mounted_at o end ≡ Ok m → up_to_end (after_frames o.version o.chain.frames) end ≡ after_frames m.version m.frames
read_to_gate o (Ok gate) m e =
    let same = same_ok (mounted_at o (Ok gate)) (record { version = o.version; active = record { side = o.side; root = o.root; gate = gate }; frames = o.chain.frames }) m refl e in
    up_to_gate (after_frames o.version o.chain.frames) gate ∙ ap (λ (n : Mounted). after_frames n.version n.frames) same
read_to_gate o (Err at) m e = cc

mounted_recovers : (outlined : Result Outline ℕ) (m : Mounted) → mounted_of outlined ≡ Ok m → recovered_from outlined ≡ after_frames m.version m.frames
mounted_recovers (Ok o) m e = read_to_gate o o.chain.end m e
mounted_recovers (Err at) m e = cc

pub journal_recovers : JournalRecovers
unfolding recovered journal
journal_recovers bytes m e = mounted_recovers (outline bytes) m e

-- ---- damage

broken_recovers : (o : Outline) (end : Result ℕ ℕ) (d : Damage) → mounted_at o end ≡ Err d.offset → Some o.version ≡ d.version → o.chain.frames ≡ d.frames
    → up_to_end (after_frames o.version o.chain.frames) end ≡ up_to_damage d
broken_recovers o (Ok gate) d e v f = cc
broken_recovers o (Err at) d e v f = rw (← v, ← f) (ap (λ n. up_to_end (after_frames o.version o.chain.frames) (Err n)) (same_err (mounted_at o (Err at)) at d.offset refl e))

damaged_recovers : (outlined : Result Outline ℕ) (d : Damage) → mounted_of outlined ≡ Err d.offset → version_in outlined ≡ d.version → frames_in outlined ≡ d.frames
    → recovered_from outlined ≡ up_to_damage d
damaged_recovers (Ok o) d e v f = broken_recovers o o.chain.end d e v f
damaged_recovers (Err at) d e v f = rw (← v) (ap Err (same_err (mounted_of (Err at)) at d.offset refl e))

pub damage_recovers : DamageRecovers
unfolding recovered journal version_of frames_of
damage_recovers bytes d h = damaged_recovers (outline bytes) d h.offset h.version h.frames

-- ---- what a crash leaves

standing_recovers : (c : Contents) (t : Tables) (image : List ℕ) (read : Result Mounted ℕ) → journal image ≡ read → contents_of read ≡ Ok c
    → after_bodies c.version empty_tables c.bodies ≡ Some t → recovered image ≡ Ok t
standing_recovers c t image (Ok m) is stands leads =
    let same : contents_in m ≡ c = same_ok (contents_of (Ok m)) (contents_in m) c refl stands in
    let led : after_bodies m.version empty_tables (bodies_in m.frames) ≡ Some t =
    ap (λ (d : Contents). after_bodies d.version empty_tables d.bodies) same ∙ leads in
    journal_recovers image m is ∙ frames_lead m.version empty_tables t m.frames led
standing_recovers c t image (Err at) is stands leads = cc

pub contents_recover : ContentsRecover
contents_recover c t image stands leads = standing_recovers c t image (journal image) refl stands leads

pub append_recovers : AppendRecovers
append_recovers m queued t u image stands led leads =
    let all : after_bodies m.version empty_tables (bodies_in m.frames ++ queued) ≡ Some u =
    bodies_behind m.version empty_tables (bodies_in m.frames) queued ∙ ap (λ left. fold (led_on m.version) left queued) led ∙ leads in
    elim stands [
      | inl before ↦ inl (contents_recover (contents_in m) t image before led)
      | inr behind ↦ inr (contents_recover (with_bodies queued (contents_in m)) u image behind all)
    ]

-- ---- mounting

unbegun_recovers : (bytes : List ℕ) → is_unbegun bytes ≡ true → recovered bytes ≡ Ok empty_tables
unfolding recovered outline
unbegun_recovers bytes is = ap (λ (t : Bool). recovered_from (if t then Ok begun else outline_of bytes)) is

left_recovers : (bytes image : List ℕ) (unbegun : Bool) → is_unbegun bytes ≡ unbegun → (is_unbegun bytes ≡ false → image ≡ bytes) → (is_unbegun bytes ≡ true → StandsForNone image)
    → recovered image ≡ recovered bytes
left_recovers bytes image true is same none =
    let stands = none is in
    contents_recover (record { version = stands.0; bodies = [] }) empty_tables image stands.1 refl ∙ sym (unbegun_recovers bytes is)
left_recovers bytes image false is same none = ap recovered (same is)

pub mount_recovers : MountRecovers
mount_recovers bytes image same none = left_recovers bytes image (is_unbegun bytes) refl same none
