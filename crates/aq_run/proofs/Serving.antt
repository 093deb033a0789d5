-- The causes of the statuses, by the stages of each command.
use Rattle.std.proofs.Common.{◌≡◌, ◌⊎◌, ◌≤◌, inl, inr, ℕ, true, false, List, [], Option, Some, None, refl, sym, ap, ◌∙◌, arith}
use Rattle.std.specs.Prelude.{IsSome, is_some}
use Rattle.std.proofs.lemmas.Bool.{false≢true}
use Rattle.aq_base.specs.Causes.{Rose}
use Rattle.aq_base.specs.declared.stream.Sink.{Ghosts as SinkGhosts}
use Rattle.aq_base.specs.declared.stream.Source.{Ghosts as SourceGhosts}
use Rattle.aq_disk.specs.declared.device.Disk.{Ghosts}
use Rattle.aq_run.specs.Dumping.{Dumps}
use Rattle.aq_run.specs.Histories.{empty_history}
use Rattle.aq_run.specs.Outcomes.{IsRun, IsStopped}
use Rattle.aq_run.specs.SerialRun.{AnswersBytes, AnswersScripts, RunsSerially}
use Rattle.aq_run.specs.Serve.{HasCauses, LeavesAlone, TellsUsage}
use Rattle.aq_run.specs.Words.{mounts_disks, reads_input, runs}
use Rattle.aq_run.specs.declared.command.Command.{Command}
use Rattle.aq_run.specs.declared.outcome.Outcome.{Outcome}
use Rattle.aq_run.proofs.Statuses.{stopped_of}

pub none_asked : {P : Type 0} (o : Option Command) → o ≡ None → IsSome o → P
none_asked o e asked = absurd (false≢true (sym (ap is_some e) ∙ asked))

-- the status is that of a run, or so
module _ (s : ℕ) where
  abbrev Asked : Type 0
  Asked = IsRun s ⊎ IsStopped s

  within : Asked → s ≤ 7
  within k = omega (arith, k)

  never : {P : Type 0} (n : ℕ) → Asked → s ≡ n → 1 ≤ n → n ≤ 3 → P
  never n k e some few = absurd (omega (arith, k, e, some, few))

module _ {S D C : Type 0} (sink : SinkGhosts S) (device : Ghosts D) (out out_after : S) (home away : D) (o : Outcome D C) where
  scripts_status : (scripts : List _) → AnswersScripts sink device out out_after home away o scripts → Asked o.status
  scripts_status scripts (inl n) = inr (stopped_of n.cause o.status n.status)
  scripts_status scripts (inr r) = by r.status
    where
      by : IsRun o.status ⊎ ((o.status ≡ 4) ⊎ (o.status ≡ 5)) → Asked o.status
      by (inl run) = inl run
      by (inr (inl four)) = inr (inl four)
      by (inr (inr five)) = inr (inr (inl five))

  bytes_status : (bytes : List ℕ) → AnswersBytes sink device out out_after home away o bytes → (o.status ≡ 2) ⊎ Asked o.status
  bytes_status bytes (inr x) = inr (scripts_status x.0 x.2)
  bytes_status bytes (inl n) = by n.status
    where
      by : (o.status ≡ 2) ⊎ (o.status ≡ 4) → (o.status ≡ 2) ⊎ Asked o.status
      by (inl two) = inl two
      by (inr four) = inr (inr (inl four))

  -- ---- a run

  module _ {I : Type 0} (source : SourceGhosts I) (input input_after : I) where
    run_status : RunsSerially source sink device input input_after out out_after home away o → (o.status ≡ 3) ⊎ ((o.status ≡ 2) ⊎ Asked o.status)
    run_status (inr x) = inr (bytes_status x.0 x.2)
    run_status (inl n) = by n.status
      where
        by : (o.status ≡ 3) ⊎ (o.status ≡ 4) → (o.status ≡ 3) ⊎ ((o.status ≡ 2) ⊎ Asked o.status)
        by (inl three) = inl three
        by (inr four) = inr (inr (inr (inl four)))

    run_unread : RunsSerially source sink device input input_after out out_after home away o → o.status ≡ 3 → Rose (source.faults input) (source.faults input_after)
    run_unread (inl n) three = n.cause three
    run_unread (inr x) three = let k = bytes_status x.0 x.2 in absurd (omega (arith, k, three))

    scripts_unwritten : (scripts : List _) → AnswersScripts sink device out out_after home away o scripts → o.status ≡ 7 → Rose (sink.faults out) (sink.faults out_after)
    scripts_unwritten scripts (inr r) seven = r.run.output.fault seven
    scripts_unwritten scripts (inl n) seven = let k = stopped_of n.cause o.status n.status in absurd (omega (arith, k, seven))

    run_unwritten : RunsSerially source sink device input input_after out out_after home away o → o.status ≡ 7 → Rose (sink.faults out) (sink.faults out_after)
    run_unwritten (inl n) seven = let k = n.status in absurd (omega (arith, k, seven))
    run_unwritten (inr x) seven = by x.2
      where
        by : AnswersBytes sink device out out_after home away o x.0 → Rose (sink.faults out) (sink.faults out_after)
        by (inl n) = let k = n.status in absurd (omega (arith, k, seven))
        by (inr y) = scripts_unwritten y.0 y.2 seven

    pub run_causes : (command : Option Command) → IsSome command → reads_input command ≡ true → mounts_disks command ≡ true → RunsSerially source sink device input input_after out out_after home away o
        → HasCauses source sink command input input_after out out_after o.status
    run_causes command some reads mounts r =
        let k = run_status r in
        record {
          known = omega (arith, k);
          usage = (λ one. absurd (omega (arith, k, one)), λ none. none_asked command none some);
          bad = λ _. reads;
          unread = λ three. (reads, run_unread r three);
          stopped = λ _. mounts;
          unwritten = run_unwritten r;
        }

    -- ---- a dump

    dump_status : Dumps sink device out out_after home away o → Asked o.status
    dump_status (inl n) = inr (stopped_of n.cause o.status n.status)
    dump_status (inr d) = by d.status
      where
        by : IsRun o.status ⊎ (o.status ≡ 4) → Asked o.status
        by (inl run) = inl run
        by (inr four) = inr (inl four)

    dump_unwritten : Dumps sink device out out_after home away o → o.status ≡ 7 → Rose (sink.faults out) (sink.faults out_after)
    dump_unwritten (inl n) seven = let k = stopped_of n.cause o.status n.status in absurd (omega (arith, k, seven))
    dump_unwritten (inr d) seven = d.written.fault seven

    pub dump_causes : (command : Option Command) → IsSome command → mounts_disks command ≡ true → Dumps sink device out out_after home away o → HasCauses source sink command input input_after out out_after o.status
    dump_causes command some mounts d =
        let k = dump_status d in
        record {
          known = within o.status k;
          usage = (λ one. never o.status 1 k one (omega arith) (omega arith), λ none. none_asked command none some);
          bad = λ two. never o.status 2 k two (omega arith) (omega arith);
          unread = λ three. never o.status 3 k three (omega arith) (omega arith);
          stopped = λ _. mounts;
          unwritten = dump_unwritten d;
        }

    -- ---- no command

    pub usage_causes : (command : Option Command) → command ≡ None → o.status ≡ 1 → HasCauses source sink command input input_after out out_after o.status
    usage_causes command none one = record {
      known = omega (arith, one);
      usage = (λ _. none, λ _. one);
      bad = λ two. absurd (omega (arith, one, two));
      unread = λ three. absurd (omega (arith, one, three));
      stopped = λ x. absurd (omega (arith, one, x));
      unwritten = λ seven. absurd (omega (arith, one, seven));
    }

  -- ---- what is left alone

  abbrev Empty : Type 0
  Empty = (o.status ≡ 1) ⊎ ((o.status ≡ 2) ⊎ ((o.status ≡ 3) ⊎ (o.status ≡ 6)))

  scripts_alone : (scripts : List _) → AnswersScripts sink device out out_after home away o scripts → Empty → o.history ≡ empty_history
  scripts_alone scripts (inl n) is = n.no_history
  scripts_alone scripts (inr r) is = let k = r.status in absurd (omega (arith, k, is))

  module _ {I : Type 0} (source : SourceGhosts I) (input input_after : I) (command : Option Command) (clock : C) (clock_is : o.clock ≡ clock) where
    pub run_alone : RunsSerially source sink device input input_after out out_after home away o → LeavesAlone command home away clock o
    run_alone (inl n) = record {
      clock_is = clock_is;
      disks = λ _. (n.none.home_is, n.none.away_is);
      bad_script = λ _ _. (n.none.home_is, n.none.away_is);
      empty = λ _. n.none.history;
    }
    run_alone (inr x) = by x.2
      where
        by : AnswersBytes sink device out out_after home away o x.0 → LeavesAlone command home away clock o
        by (inl n) = record {
          clock_is = clock_is;
          disks = λ _. (n.none.home_is, n.none.away_is);
          bad_script = λ _ _. (n.none.home_is, n.none.away_is);
          empty = λ _. n.none.history;
        }
        by (inr y) =
            let k = scripts_status y.0 y.2 in
            record {
              clock_is = clock_is;
              disks = λ e. absurd (omega (arith, k, e));
              bad_script = λ e _. absurd (omega (arith, k, e));
              empty = scripts_alone y.0 y.2;
            }

    pub dump_alone : Dumps sink device out out_after home away o → LeavesAlone command home away clock o
    dump_alone d =
        let k = status d in
        record {
          clock_is = clock_is;
          disks = λ e. absurd (omega (arith, k, e));
          bad_script = λ e _. absurd (omega (arith, k, e));
          empty = λ _. empty d;
        }
      where
        status : Dumps sink device out out_after home away o → Asked o.status
        status (inl n) = inr (stopped_of n.cause o.status n.status)
        status (inr x) = dump_status source input input_after (inr x)

        empty : Dumps sink device out out_after home away o → o.history ≡ empty_history
        empty (inl n) = n.no_history
        empty (inr x) = x.no_history

    pub usage_alone : TellsUsage sink out out_after home away o → LeavesAlone command home away clock o
    usage_alone u = record {
      clock_is = clock_is;
      disks = λ _. (u.home_is, u.away_is);
      bad_script = λ _ _. (u.home_is, u.away_is);
      empty = λ _. u.history;
    }
