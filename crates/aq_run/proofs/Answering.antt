-- What a run that was played answers, by how far it came.
use Rattle.std.proofs.Common.{◌≡◌, ◌⊎◌, inl, inr, ◌≤◌, ℕ, List, [], Option, sym, subst, ◌∙◌, arith}
use Rattle.aq_run.specs.Written.{Tells, Writes, WritesFront}
use Rattle.aq_base.specs.declared.DbId.TheVariants.{Home, Away}
use Rattle.aq_base.specs.declared.stream.Sink.{Ghosts as SinkGhosts}
use Rattle.aq_disk.specs.declared.device.Disk.{Ghosts}
use Rattle.queue_rows.specs.declared.history.SessionScript.{SessionScript}
use Rattle.transcript.specs.Print.{print}
use Rattle.aq_run.specs.Disks.{LeavesWhole}
use Rattle.aq_run.specs.Headline.{PrintsHistory}
use Rattle.aq_run.specs.Outcomes.{IsRun}
use Rattle.aq_run.specs.Played.{status_of, PlaysOver}
use Rattle.aq_run.specs.SerialRun.{IsSerialRun}
use Rattle.aq_run.specs.Serve.{LeavesDisks}
use Rattle.aq_run.specs.declared.outcome.Outcome.{Outcome}
use Rattle.aq_run.specs.declared.play.Played.{Played}
use Rattle.aq_run.specs.declared.play.RunEnd.TheVariants as ends
use Rattle.aq_run.proofs.Statuses.{status_known, status_ran, status_halted}

-- a text for which there was memory was told
tells_written : {S : Type 0} (sink : SinkGhosts S) (old new : S) (text : List ℕ) (written : ℕ) → IsRun written ⊎ (written ≡ 4) → Writes sink.taken sink.faults old new text written → (written ≡ 4 → ⊥)
    → Tells sink.taken sink.faults old new text
tells_written sink old new text written (inl (inl whole)) w never = inl (w.whole whole)
tells_written sink old new text written (inl (inr failed)) w never = inr (w.front, w.fault failed)
tells_written sink old new text written (inr none) w never = absurd (never none)

module _ {S D C : Type 0} (sink : SinkGhosts S) (device : Ghosts D) (old new : S) (home away : D) (o : Outcome D C) (scripts : List SessionScript) (p : Played D) (plays : PlaysOver device home away scripts p)
    (history_is : o.history ≡ p.history) (home_is : o.home ≡ p.home) (away_is : o.away ≡ p.away)
    (written : ℕ) (status_is : o.status ≡ status_of p.end written) (known : IsRun written ⊎ (written ≡ 4)) (writes : Writes sink.taken sink.faults old new (print o.history) written) where
  -- what is said of the parts that were played is said of the outcome
  as_played : (P : Outcome D C → Type 0) → P (record { status = o.status; history = p.history; home = p.home; away = p.away; clock = o.clock }) → P o
  as_played P x =
      subst (λ y. P (record { status = o.status; history = o.history; home = o.home; away = y; clock = o.clock })) (sym away_is)
      (subst (λ y. P (record { status = o.status; history = o.history; home = y; away = p.away; clock = o.clock })) (sym home_is)
      (subst (λ y. P (record { status = o.status; history = y; home = p.home; away = p.away; clock = o.clock })) (sym history_is) x))

  ran : IsRun o.status → p.end ≡ ends.Whole
  ran is = (status_ran p.end written o.status status_is is).0

  fine_is : (o.status ≡ 0) ⊎ ((o.status ≡ 6) ⊎ (o.status ≡ 7)) → IsRun o.status
  fine_is (inl e) = inl e
  fine_is (inr (inl e)) = absurd (let one = status_known p.end written o.status status_is known in omega (arith, one, e))
  fine_is (inr (inr e)) = inr e

  pub played_leaves : LeavesDisks device home away o
  played_leaves = as_played (λ x. LeavesDisks device home away x) (record {
    home_kept = plays.home_kept;
    away_kept = plays.away_kept;
    failed = λ is. plays.halted (status_halted p.end written o.status status_is known is).0;
    fine = λ is. plays.fine (ran (fine_is is));
  })

  printed_so : PrintsHistory sink old new o
  printed_so = record {
    whole = λ is. writes.whole ((status_ran p.end written o.status status_is (inl is)).1 ∙ is);
    part = λ _. writes.front;
    at_fault = λ is. tells_written sink old new (print o.history) written known writes (status_halted p.end written o.status status_is known is).1;
    fault = λ is. writes.fault ((status_ran p.end written o.status status_is (inr is)).1 ∙ is);
  }

  pub played_answers : IsSerialRun sink device old new home away o scripts
  played_answers = as_played (λ x. PrintsHistory sink old new x → IsSerialRun sink device old new home away x scripts) (λ output. record {
    run = record {
      output = output;
      legal = plays.front.legal;
      home_opening = plays.front.home_is;
      away_opening = plays.front.away_is;
      in_order = plays.front.calls;
      all_called = λ is. (plays.run (ran is)).calls;
      fates = plays.holds.fates;
      copied_once = plays.holds.seen_once;
      told = plays.holds.told;
      home_survives = plays.home_crash;
      away_survives = plays.away_crash;
      all_done = λ is. plays.done (ran is);
      home_left = λ is. plays.home_whole (ran is);
      away_left = λ is. plays.away_whole (ran is);
    };
    status = status_known p.end written o.status status_is known;
    whole = λ is. (plays.run (ran is)).serial;
    front = plays.front.serial;
    readings = λ is. (plays.run (ran is)).legal;
  }) printed_so
