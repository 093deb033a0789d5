-- The bytes of a checkpoint lead to its tables, and so does whatever a crash leaves as a journal is compacted into them.
use Rattle.std.proofs.Common.{⊎_elim, [], Some, refl, ap, ◌∙◌}
use Rattle.redo_journal.specs.Crash.{StandsFor, compacted, contents_in}
use Rattle.redo_records.specs.Spelling.{encode}
use Rattle.queue_rows.specs.Tables.{empty_tables}
use Rattle.database_recovery.specs.Recovering.{CommitLeadsOn, ContentsRecover}
use Rattle.checkpoint_commit.specs.Checkpoint.{checkpoint_of}
use Rattle.checkpoint_commit.specs.Laws.{CheckpointRestores, CompactionRecovers}
use Rattle.checkpoint_commit.proofs.Spelling.{checkpoint_is_spelled}
use Rattle.checkpoint_commit.proofs.Whole.{checkpoint_leads}

pub checkpoint_restores : CommitLeadsOn → CheckpointRestores
checkpoint_restores leads t sound =
    let to = checkpoint_leads t sound.valid in
    leads empty_tables empty_tables [] (checkpoint_of t) refl (checkpoint_is_spelled t sound.valid sound.rows) to.fitting ∙ ap Some to.after_is

pub compaction_recovers : CheckpointRestores → ContentsRecover → CompactionRecovers
compaction_recovers restores recover m t image sound led stands =
    ⊎_elim (λ (old : StandsFor (contents_in m) image). recover (contents_in m) t image old led)
    (λ (new : StandsFor (compacted (encode (checkpoint_of t))) image). recover (compacted (encode (checkpoint_of t))) t image new (restores t sound)) stands
