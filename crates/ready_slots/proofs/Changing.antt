-- What two edits come to.
use Rattle.std.proofs.Common.{◌≡◌, List, [], ◌∷◌, ◌++◌, length, refl, sym, subst}
use Rattle.std.proofs.lemmas.List.Edits.{insert_end}
use Rattle.std.specs.Prelude.{insert, remove}
use Rattle.choice_laws.specs.Entries.{Entry, AreRising, with_message}
use Rattle.choice_laws.proofs.Edited.{stamps_rise}
use Rattle.ready_slots.specs.Indexed.{IndexesReady}
use Rattle.ready_slots.specs.Edits.{ChangedByBoth, LastPut, NothingIndexed, entry}
use Rattle.ready_slots.proofs.Inserting.{replaced}

pub nothing_indexed : NothingIndexed
nothing_indexed q c = refl

pub last_put : LastPut
last_put stamp m before after puts entries rising below indexed =
    let e = entry stamp m in
    let last : insert entries (length entries) e ≡ entries ++ e ∷ [] = insert_end entries e in
    let rises = stamps_rise.push entries e rising below in
    subst (λ (es : List Entry). IndexesReady es after) last (puts entries (length entries) (subst AreRising (sym last) rises) indexed)

pub changed_by_both : ChangedByBoth
changed_by_both stamp m n before middle after removes puts entries at rising there indexed =
    let e = entry stamp m in
    let same : insert (remove entries at) at (entry stamp n) ≡ with_message entries at e n = replaced entries at e (entry stamp n) there in
    let rises = stamps_rise.change entries at e n rising there in
    subst (λ (es : List Entry). IndexesReady es after) same
    (puts (remove entries at) at (subst AreRising (sym same) rises) (removes entries at rising there indexed))
