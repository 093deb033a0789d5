-- What is said of a run in place of its transcript.
use Rattle.std.specs.Prelude.{ℕ, ◌+◌, ◌++◌, List, codes, decimal, Bool, true, false, sum_by, count_by}
use Rattle.hex.specs.Hex.{encode_lower}
use Rattle.sha2.specs.Sha256.{sha256}
use Rattle.transcript.specs.Print.{print}
use Rattle.queue_rows.specs.declared.change.Change.{Change}
use Rattle.queue_rows.specs.declared.change.Change.TheVariants.{Done}
use Rattle.queue_rows.specs.declared.history.Entry.{Entry}
use Rattle.queue_rows.specs.declared.history.History.{History}
use Rattle.queue_rows.specs.declared.history.Step.{Step}
use Rattle.queue_rows.specs.declared.history.Step.TheVariants.{Call}
use Rattle.queue_rows.specs.declared.reply.Reply.{Reply}
use Rattle.queue_rows.specs.declared.reply.Reply.TheVariants.{Enqueued}

-- ---- what is counted

unfoldable pub is_call : Step → Bool
is_call (Call number reply) = true
is_call _ = false

-- a message was put in
abbrev pub is_id : Reply → Bool
is_id (Enqueued id) = true
is_id _ = false

unfoldable pub is_enqueued : Step → Bool
is_enqueued (Call number reply) = is_id reply
is_enqueued _ = false

-- a slot was done
unfoldable pub is_removal : Change → Bool
is_removal (Done id slot at) = true
is_removal _ = false

abbrev pub removals_in : Entry → ℕ
removals_in e = count_by is_removal e.home + count_by is_removal e.away

abbrev pub calls : List Entry → ℕ
calls entries = count_by (λ e. is_call e.step) entries

abbrev pub enqueues : List Entry → ℕ
enqueues entries = count_by (λ e. is_enqueued e.step) entries

-- in all commits of both databases
abbrev pub removals : List Entry → ℕ
removals entries = sum_by removals_in entries

-- ---- the text

-- how many calls there were, how many messages were put in, and how many slots were done
abbrev pub counts_text : List Entry → List ℕ
counts_text entries = codes "calls " ++ decimal (calls entries) ++ codes "\nenqueued " ++ decimal (enqueues entries) ++ codes "\nremoved " ++ decimal (removals entries) ++ codes "\n"

abbrev pub digest_text : List ℕ → List ℕ
digest_text transcript = codes "sha256 " ++ encode_lower (sha256 transcript) ++ codes "\n"

-- these counts, and the digest of the transcript
unfoldable pub summary : History → List ℕ
summary history = counts_text history.entries ++ digest_text (print history)
