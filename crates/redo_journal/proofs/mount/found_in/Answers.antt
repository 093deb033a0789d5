use Rattle.std.proofs.Common.{◌≡◌, ◌<◌, ℕ, List, Bool, length, arith, true, false, if◌then◌else◌, Ok, sym, ◌∙◌, ap, subst}
use Rattle.aq_disk.proofs.Moments.{each_here}
use Rattle.redo_journal.specs.Journal.{Mounted, journal, is_unbegun}
use Rattle.redo_journal.specs.Crash.{IsAtRest}
use Rattle.redo_journal.specs.Begun.{begun_journal, begun_bytes, after_mount, mounted_by}
use Rattle.redo_journal.proofs.Moments.{map_told, map_same}
use Rattle.redo_journal.proofs.Heads.{gate_within, area_within, few_frames, journal_begun, journal_unbegun}
use Rattle.redo_journal.proofs.mount.found_in.Goals as goal

apart : {P : Type 0} (b : Bool) → b ≡ true → b ≡ false → P
apart b p q = absurd (cc)

pub returns-in-Ok-clause-reads : goal.returns-in-Ok-clause-reads
returns-in-Ok-clause-reads g c =
    let unbegun : is_unbegun c.args.bytes.now ≡ true = cc (c.is_unbegun.ensures, c.if-is_unbegun.true) in
    journal_unbegun c.args.bytes.now unbegun ∙ ap (λ (m : Mounted). Ok m) (sym c.begun.ensures)

pub returns-in-Ok-clause-rests : goal.returns-in-Ok-clause-rests
returns-in-Ok-clause-rests g c settled new told =
    subst (λ (m : Mounted). IsAtRest m new (g.D.Disk.is_image c.begin.new.disk (g.D.Disk.calls c.begin.new.disk))) (sym c.begun.ensures) (c.in-Ok.ensures.rests new told)

pub returns-in-Ok-clause-crash : goal.returns-in-Ok-clause-crash
returns-in-Ok-clause-crash g c settled bytes told =
    let unbegun : is_unbegun c.args.bytes.now ≡ true = cc (c.is_unbegun.ensures, c.if-is_unbegun.true) in
    record { begun = λ is. apart (is_unbegun bytes) (ap is_unbegun (c.requires.told bytes told) ∙ unbegun) is; unbegun = λ is. c.begin.ensures.any_moment settled bytes told }

pub returns-in-Err-clause-crash : goal.returns-in-Err-clause-crash
returns-in-Err-clause-crash g c settled bytes told =
    let unbegun : is_unbegun c.args.bytes.now ≡ true = cc (c.is_unbegun.ensures, c.if-is_unbegun.true) in
    record { begun = λ is. apart (is_unbegun bytes) (ap is_unbegun (c.requires.told bytes told) ∙ unbegun) is; unbegun = λ is. c.begin.ensures.any_moment settled bytes told }

pub returns-in-Ok-find-clause-reads : goal.returns-in-Ok-find-clause-reads
returns-in-Ok-find-clause-reads g c =
    let begun : is_unbegun c.args.bytes.now ≡ false = cc (c.is_unbegun.ensures, c.if-is_unbegun.false) in
    journal_begun c.args.bytes.now begun ∙ c.in-Ok-find.ensures.ok

pub returns-in-Ok-find-clause-rests : goal.returns-in-Ok-find-clause-rests
returns-in-Ok-find-clause-rests g c settled bytes told =
    let same = c.requires.told bytes told in
    let begun : is_unbegun c.args.bytes.now ≡ false = cc (c.is_unbegun.ensures, c.if-is_unbegun.false) in
    record { reads = ap journal same ∙ journal_begun c.args.bytes.now begun ∙ c.in-Ok-find.ensures.ok; begun = ap is_unbegun same ∙ begun; settled = settled bytes told }

pub returns-in-Ok-find-clause-crash : goal.returns-in-Ok-find-clause-crash
returns-in-Ok-find-clause-crash g c settled bytes told =
    let begun : is_unbegun c.args.bytes.now ≡ false = cc (c.is_unbegun.ensures, c.if-is_unbegun.false) in
    record {
      begun = λ is. each_here (g.D.Disk.calls c.args.disk.now) (g.D.Disk.is_image c.args.disk.now) (λ (image : List ℕ). image ≡ bytes) (settled bytes told);
      unbegun = λ is. apart (is_unbegun bytes) is (ap is_unbegun (c.requires.told bytes told) ∙ begun);
    }

pub returns-in-Err-find-clause-crash : goal.returns-in-Err-find-clause-crash
returns-in-Err-find-clause-crash g c settled bytes told =
    let begun : is_unbegun c.args.bytes.now ≡ false = cc (c.is_unbegun.ensures, c.if-is_unbegun.false) in
    record {
      begun = λ is. each_here (g.D.Disk.calls c.args.disk.now) (g.D.Disk.is_image c.args.disk.now) (λ (image : List ℕ). image ≡ bytes) (settled bytes told);
      unbegun = λ is. apart (is_unbegun bytes) is (ap is_unbegun (c.requires.told bytes told) ∙ begun);
    }

pub returns-in-Err-find-clause-damaged : goal.returns-in-Err-find-clause-damaged
returns-in-Err-find-clause-damaged g c =
    let bytes = c.args.bytes.now in
    let begun : is_unbegun bytes ≡ false = cc (c.is_unbegun.ensures, c.if-is_unbegun.false) in
    c.cause_of.ensures.same bytes begun c.in-Err-find.ensures.damaged

pub returns-in-Ok-clause-place : goal.returns-in-Ok-clause-place
returns-in-Ok-clause-place g c new told =
    let rest = c.in-Ok.ensures.rests new told in
    subst (λ (m : Mounted). m.active.gate < length new) (sym c.begun.ensures) (gate_within begun_journal new rest.reads rest.begun)

pub returns-in-Ok-find-clause-place : goal.returns-in-Ok-find-clause-place
returns-in-Ok-find-clause-place g c bytes told =
    let same = c.requires.told bytes told in
    let begun : is_unbegun c.args.bytes.now ≡ false = cc (c.is_unbegun.ensures, c.if-is_unbegun.false) in
    let within = gate_within (mounted_by c.in-Ok-find.found) c.args.bytes.now (journal_begun c.args.bytes.now begun ∙ c.in-Ok-find.ensures.ok) begun in
    omega (arith, within, ap length same)

pub returns-in-Ok-find-clause-area : goal.returns-in-Ok-find-clause-area
returns-in-Ok-find-clause-area g c =
    let begun : is_unbegun c.args.bytes.now ≡ false = cc (c.is_unbegun.ensures, c.if-is_unbegun.false) in
    area_within (mounted_by c.in-Ok-find.found) c.args.bytes.now (journal_begun c.args.bytes.now begun ∙ c.in-Ok-find.ensures.ok) begun c.requires.limit

pub returns-in-Ok-clause-leaves : goal.returns-in-Ok-clause-leaves
returns-in-Ok-clause-leaves g c =
    let unbegun : is_unbegun c.args.bytes.now ≡ true = cc (c.is_unbegun.ensures, c.if-is_unbegun.true) in
    c.in-Ok.ensures.leaves ∙ map_told (g.D.Disk.seen c.args.disk.now) begun_bytes after_mount c.args.bytes.now c.requires.told (sym (ap (λ (t : Bool). if t then begun_bytes c.args.bytes.now else c.args.bytes.now) unbegun))

pub returns-in-Ok-find-clause-leaves : goal.returns-in-Ok-find-clause-leaves
returns-in-Ok-find-clause-leaves g c =
    let begun : is_unbegun c.args.bytes.now ≡ false = cc (c.is_unbegun.ensures, c.if-is_unbegun.false) in
    map_same (g.D.Disk.seen c.args.disk.now) after_mount c.args.bytes.now c.requires.told (ap (λ (t : Bool). if t then begun_bytes c.args.bytes.now else c.args.bytes.now) begun)

pub returns-in-Ok-find-clause-few : goal.returns-in-Ok-find-clause-few
returns-in-Ok-find-clause-few g c =
    let begun : is_unbegun c.args.bytes.now ≡ false = cc (c.is_unbegun.ensures, c.if-is_unbegun.false) in
    few_frames (mounted_by c.in-Ok-find.found) c.args.bytes.now (journal_begun c.args.bytes.now begun ∙ c.in-Ok-find.ensures.ok) begun
