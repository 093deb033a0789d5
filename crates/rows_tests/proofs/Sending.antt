-- One message more in the index of remote slots.
use Rattle.std.proofs.Common.{◌≡◌, ℕ, ◌+◌, List, [], ◌∷◌, ◌++◌, length, sym, subst, arith}
use Rattle.queue_rows.specs.declared.rows.MsgRow.{MsgRow}
use Rattle.choice_laws.specs.Entries.{Entry, AreBelow}
use Rattle.sort_index.specs.declared.group.Group.{Group}
use Rattle.ready_slots.specs.Edits.{entry}
use Rattle.remote_slots.specs.Edits.{Puts}
use Rattle.remote_slots.specs.Remote.{IndexesRemote}
use Rattle.remote_slots.proofs.Changing.{last_put}
use Rattle.rows_tests.specs.Kept.{numbered_from}
use Rattle.rows_tests.proofs.Numbering.{all_below, all_rise, last_numbered}

pub one_more : (stamp : ℕ) (m : MsgRow) (done : List MsgRow) (before after : List Group) → stamp ≡ length done → Puts stamp m before after
    → IndexesRemote (numbered_from 0 done) before → IndexesRemote (numbered_from 0 (done ++ m ∷ [])) after
one_more stamp m done before after at puts indexed =
    let last : stamp ≡ 0 + length done = omega arith in
    let below : AreBelow stamp (numbered_from 0 done) = all_below stamp 0 done (omega arith) in
    let added : IndexesRemote (numbered_from 0 done ++ entry stamp m ∷ []) after = last_put stamp m before after puts (numbered_from 0 done) (all_rise 0 done) below indexed in
    subst (λ (es : List Entry). IndexesRemote es after) (sym (last_numbered 0 done m))
    (subst (λ (k : ℕ). IndexesRemote (numbered_from 0 done ++ entry k m ∷ []) after) last added)
