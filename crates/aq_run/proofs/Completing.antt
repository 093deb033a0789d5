-- What the bytes that were read say, and what is left to answer where nothing stands in the way.
use Rattle.std.proofs.Common.{◌≡◌, ◌⊎◌, inl, inr, ℕ, ◌+◌, ◌<◌, ◌≤◌, Bool, true, false, List, [], ◌∷◌, Option, Some, None, Result, Ok, Err, refl, sym, ap, subst, ◌∙◌, arith, length, length-append, length-take, take}
use Rattle.std.specs.Prelude.{IfSome, IfOk, min, nat_le, if◌then◌else◌}
use Rattle.std.proofs.lemmas.Bool.{leb-true}
use Rattle.std.specs.Io.KnownBytes.{Consumes}
use Rattle.std.proofs.KnownBytes.{Consumes-nil}
use Rattle.aq_base.specs.Causes.{LastRead}
use Rattle.aq_run.specs.Reading.{ConsumesInput, ReadsBytes}
use Rattle.aq_base.specs.declared.stream.Failed.{Failed}
use Rattle.aq_base.specs.declared.stream.Sink.{Ghosts as SinkGhosts}
use Rattle.aq_base.specs.declared.stream.Source.{Ghosts as SourceGhosts}
use Rattle.aq_base.specs.declared.DbId.TheVariants.{Home, Away}
use Rattle.aq_base.specs.declared.limits.TheConstants.{INPUT_LIMIT}
use Rattle.aq_disk.specs.declared.device.Disk.{Ghosts}
use Rattle.queue_rows.specs.declared.history.SessionScript.{SessionScript}
use Rattle.script_text.specs.Script.{lines_of, past_limit, script, then_on, with_lines}
use Rattle.aq_world.specs.Recovery.{FailsEither, IsDamagedAt, IsFirstDamaged}
use Rattle.aq_run.specs.Dumping.{Dumps}
use Rattle.aq_run.specs.Outcomes.{AnswersDamaged, IsNotMounted, IsRun, IsStopped}
use Rattle.aq_run.specs.SerialRun.{AnswersBytes, AnswersScripts, ReadsInput, RunsSerially}
use Rattle.aq_run.specs.Serve.{CanServe, HasTables}
use Rattle.aq_run.specs.Words.{mounts_disks, runs}
use Rattle.aq_run.specs.declared.command.Command.{Command}
use Rattle.aq_run.specs.declared.outcome.Outcome.{Outcome}
use Rattle.aq_run.proofs.Statuses.{stopped_of}

-- ---- a script is within the limit of an input

past_never : {A : Type 0} {P : Type 0} (r : Result A ℕ) (f : A → ℕ) (x : A) → then_on r (λ s. Err (f s)) ≡ Ok x → P
past_never (Ok s) f x e = absurd (cc)
past_never (Err n) f x e = absurd (cc)

within_if : (b : Bool) (bytes : List ℕ) (scripts : List SessionScript) → nat_le (length bytes) INPUT_LIMIT ≡ b
    → (if b then with_lines 1 [] (lines_of bytes) else past_limit (take INPUT_LIMIT bytes)) ≡ Ok scripts → length bytes ≤ 67108864
within_if true bytes scripts e is = leb-true (length bytes) INPUT_LIMIT e
within_if false bytes scripts e is = past_never _ _ scripts is

script_within : (bytes : List ℕ) (scripts : List SessionScript) → script bytes ≡ Ok scripts → length bytes ≤ 67108864
unfolding script
script_within bytes scripts is = within_if (nat_le (length bytes) INPUT_LIMIT) bytes scripts refl is

-- ---- nothing is left of a source whose script was read whole

none_left : (ys : List ℕ) → length ys ≡ 0 → ys ≡ []
none_left [] e = refl
none_left (y ∷ ys) e = absurd (omega (arith, e))

left_none : (old new : Option (List ℕ)) (bytes : List ℕ) → IfSome old (λ xs. bytes ≡ take 67108865 xs) → Consumes old new bytes → length bytes ≤ 67108864 → IfSome old (λ _. new ≡ Some [])
left_none None new bytes front rest few = _
left_none (Some xs) None bytes front rest few = absurd rest
left_none (Some xs) (Some ys) bytes front rest few =
    let n : length bytes ≡ min 67108865 (length xs) = ap length front ∙ length-take 67108865 xs in
    let m : length xs ≡ length bytes + length ys = ap length rest ∙ length-append bytes ys in
    ap Some (none_left ys (omega (arith, n, m, few)))

-- ---- what was read

pub reads_so : {T E I : Type 0} (left : I → Option (List ℕ)) (gives : I → List ℕ → Result ℕ Failed → I → Type 0) (old new : I) (items : T → List ℕ) (r : Result T E)
    → IfOk r (λ v. IfSome (left old) (λ xs. items v ≡ take 67108865 xs)) → IfOk r (λ v. Consumes (left old) (left new) (items v)) → IfOk r (λ v. length (items v) ≤ 67108865)
    → IfOk r (λ v. length (items v) < 67108865 → LastRead gives new (λ answer. answer ≡ Ok 0)) → IfOk r (λ v. ReadsBytes left gives old new (items v))
reads_so left gives old new items (Ok v) front rest few whole = record { few = few; front = front; rest = rest; whole = whole }
reads_so left gives old new items (Err e) front rest few whole = _

pub input_read : {I : Type 0} (source : SourceGhosts I) (old new : I) (bytes : List ℕ) → ReadsBytes source.left source.read_gives old new bytes → IfSome (source.left old) (λ xs. script bytes ≡ script xs)
    → ReadsInput source old new bytes
input_read source old new bytes front same = record {
  front = front;
  same = same;
  to_the_end = λ scripts is. left_none (source.left old) (source.left new) bytes front.front front.rest (script_within bytes scripts is);
}

-- what is not read is left whole
pub consumes_none : {I : Type 0} (left : I → Option (List ℕ)) (input : I) → ConsumesInput left input input
consumes_none left input = ([], omega arith, Consumes-nil (left input))

-- ---- completeness

no_damage : {D : Type 0} (device : Ghosts D) (disk : D) (offset : ℕ) → HasTables device disk → IsDamagedAt device.seen disk offset → ⊥
no_damage device disk offset has damaged = let d = damaged has.bytes has.told in let r = has.recovers in absurd (cc)

module _ {I S D C : Type 0} (source : SourceGhosts I) (sink : SinkGhosts S) (device : Ghosts D) (command : Option Command) (input input_after : I) (out out_after : S) (home away : D) (o : Outcome D C)
    (can : CanServe source sink device command input input_after out out_after home away o.home o.away) (failed : o.status ≡ 5 → FailsEither device.faults home away o.home o.away) where
  undamaged : mounts_disks command ≡ true → AnswersDamaged sink device out out_after home away → ⊥
  undamaged mounts d = by d.db d.damaged
    where
      by : (db : _) → IsFirstDamaged device.seen home away db d.offset → ⊥
      by Home x = no_damage device home d.offset (can.home_is mounts) x
      by Away x = no_damage device away d.offset (can.away_is mounts) x.1

  not_mounted_so : mounts_disks command ≡ true → IsNotMounted sink device out out_after home away o → (o.status ≡ 0) ⊎ (o.status ≡ 4)
  not_mounted_so mounts n = by (stopped_of n.cause o.status n.status)
    where
      by : IsStopped o.status → (o.status ≡ 0) ⊎ (o.status ≡ 4)
      by (inl four) = inr four
      by (inr (inl five)) = absurd (can.disks (failed five))
      by (inr (inr six)) = absurd (undamaged mounts (n.damaged six))

  whole_so : IsRun o.status → (o.status ≡ 7 → ⊥) → (o.status ≡ 0) ⊎ (o.status ≡ 4)
  whole_so (inl e) never = inl e
  whole_so (inr e) never = absurd (never e)

  scripts_so : (scripts : List SessionScript) → mounts_disks command ≡ true → AnswersScripts sink device out out_after home away o scripts → (o.status ≡ 0) ⊎ (o.status ≡ 4)
  scripts_so scripts mounts (inl n) = not_mounted_so mounts n
  scripts_so scripts mounts (inr r) = by r.status
    where
      by : IsRun o.status ⊎ ((o.status ≡ 4) ⊎ (o.status ≡ 5)) → (o.status ≡ 0) ⊎ (o.status ≡ 4)
      by (inl run) = whole_so run (λ e. can.writes (r.run.output.fault e))
      by (inr (inl four)) = inr four
      by (inr (inr five)) = absurd (can.disks (failed five))

  no_bad : (bytes : List ℕ) (line : ℕ) → runs command ≡ true → IfSome (source.left input) (λ xs. script bytes ≡ script xs) → script bytes ≡ Err line → ⊥
  no_bad bytes line is same bad =
      let s = can.script_is is in
      let e = subst (λ left. IfSome left (λ xs. script bytes ≡ script xs)) s.told same in
      let r = s.reads in
      absurd (cc)

  bytes_so : (bytes : List ℕ) → runs command ≡ true → mounts_disks command ≡ true → IfSome (source.left input) (λ xs. script bytes ≡ script xs) → AnswersBytes sink device out out_after home away o bytes
      → (o.status ≡ 0) ⊎ (o.status ≡ 4)
  bytes_so bytes is mounts same (inr x) = scripts_so x.0 mounts x.2
  bytes_so bytes is mounts same (inl n) = by n.status
    where
      by : (o.status ≡ 2) ⊎ (o.status ≡ 4) → (o.status ≡ 0) ⊎ (o.status ≡ 4)
      by (inr four) = inr four
      by (inl two) = let b = n.bad two in absurd (no_bad bytes b.0 is same b.1)

  pub complete_run : runs command ≡ true → mounts_disks command ≡ true → RunsSerially source sink device input input_after out out_after home away o → (o.status ≡ 0) ⊎ (o.status ≡ 4)
  complete_run is mounts (inr x) = bytes_so x.0 is mounts x.1.same x.2
  complete_run is mounts (inl n) = by n.status
    where
      by : (o.status ≡ 3) ⊎ (o.status ≡ 4) → (o.status ≡ 0) ⊎ (o.status ≡ 4)
      by (inr four) = inr four
      by (inl three) = absurd (can.reads (n.cause three))

  pub complete_dump : mounts_disks command ≡ true → Dumps sink device out out_after home away o → (o.status ≡ 0) ⊎ (o.status ≡ 4)
  complete_dump mounts (inl n) = not_mounted_so mounts n
  complete_dump mounts (inr d) = by d.status
    where
      by : IsRun o.status ⊎ (o.status ≡ 4) → (o.status ≡ 0) ⊎ (o.status ≡ 4)
      by (inl run) = whole_so run (λ e. can.writes (d.written.fault e))
      by (inr four) = inr four
