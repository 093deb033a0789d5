-- What edits of messages and of an index of their slots leave, as the edits are made.
use Rattle.std.proofs.Common.{◌≡◌, ◌≢◌, ◌==◌, ◌+◌, ℕ, zero, suc, ◌<◌, ◌≤◌, All, Bool, true, cond, List, [], ◌∷◌, ◌++◌, length, Option, Some, None, refl, sym, ap, ◌∙◌, subst, arith, inl, inr, eq-eqb}
use Rattle.std.specs.Prelude.{count_by, insert, remove, slice_get, slice_set, IfSome}
use Rattle.std.specs.List.{AllByRecursion}
use Rattle.std.proofs.lemmas.Bool.{cases_Bool, eqb-false}
use Rattle.std.proofs.lemmas.List.Elements.{All-cons}
use Rattle.std.proofs.lemmas.List.Sums.{sum_by-cons}
use Rattle.due_index.specs.Due.{DueRows}
use Rattle.remote_slots.proofs.Inserting.{replaced}
use Rattle.message_index.specs.DueKept.{Gains, HasRows, IfDue, Loses, keeps_in}
use Rattle.message_index.specs.declared.due_cache.KeepRow.{KeepRow}
use Rattle.message_index.proofs.MessageLemmas.{count_of_ids}
use Rattle.std.specs.Option.{option_map_or}
use Rattle.std.proofs.lemmas.Option.{none-some}
use Rattle.queue_rows.specs.declared.rows.MsgRow.{MsgRow}
use Rattle.queue_rows.proofs.Sessions.{get_set-same}
use Rattle.choice_laws.specs.Entries.{Entry}
use Rattle.row_tree.specs.Edits.{edit_at}
use Rattle.sort_index.specs.declared.group.Group.{Group}
use Rattle.message_index.specs.Messages.{ids_of, IsOfSlot}
use Rattle.message_index.specs.Stamped.{AreStamps, entries_of, IfIndexed, IfReady, Forgets, Notes, Turns}
use Rattle.message_index.proofs.EntryLemmas.{as_long, entries_rise, entry_set, entry_there, index_changed, index_pushed, index_removed}

none_within : (ms : List MsgRow) (at : ℕ) → slice_get ms at ≡ None → at < length ms → ⊥
none_within [] at none within = omega (arith, within)
none_within (m ∷ ms) zero none within = none-some m (sym none)
none_within (m ∷ ms) (suc at) none within = none_within ms at none (omega (arith, within))

-- the message at an index
record HasMessage (ms : List MsgRow) (at : ℕ) : Type 0 where
  message : MsgRow
  there : slice_get ms at ≡ Some message

message_there : (ms : List MsgRow) (at : ℕ) → at < length ms → HasMessage ms at
message_there ms at within = by (slice_get ms at) refl
  where
    by : (o : Option MsgRow) → slice_get ms at ≡ o → HasMessage ms at
    by None is = absurd (none_within ms at is within)
    by (Some m) is = record { message = m; there = is }

-- an index of slots, whichever rows it has
module _ (Indexes : List Entry → List Group → Type 0) where
  pub edited : (ids ss : List ℕ) (ms now : List MsgRow) (at s : ℕ) (change : MsgRow → MsgRow) (before between after : Option (List Group))
      → AreStamps (length ids) ss → at < length ms → slice_get ss at ≡ Some s → now ≡ edit_at ms at change
      → IfSome (slice_get ms at) (λ m. Forgets Indexes s m before between) → IfSome (slice_get now at) (λ m. Notes Indexes s m between after)
      → IfIndexed Indexes (entries_of ss ms) before → IfIndexed Indexes (entries_of ss now) after
  edited ids ss ms now at s change before between after stamps within stamp is forgets notes ready =
      let own = message_there ms at within in
      let n = change own.message in
      let set : now ≡ slice_set ms at n = is ∙ ap (λ o. option_map_or (λ row. slice_set ms at (change row)) o ms) own.there in
      let changed : slice_get now at ≡ Some n = ap (λ rows. slice_get rows at) set ∙ get_set-same ms at n within in
      let gone = subst (λ (o : Option MsgRow). IfSome o (λ m. Forgets Indexes s m before between)) own.there forgets in
      let come = subst (λ (o : Option MsgRow). IfSome o (λ m. Notes Indexes s m between after)) changed notes in
      subst (λ (rows : List MsgRow). IfIndexed Indexes (entries_of ss rows) after) (sym set)
      (index_changed Indexes ss ms at s own.message n before between after stamps.rise stamp own.there gone come ready)

  pub taken : (ids ss : List ℕ) (ms : List MsgRow) (at s : ℕ) (before after : Option (List Group))
      → ids ≡ ids_of ms → AreStamps (length ids) ss → at < length ms → slice_get ss at ≡ Some s
      → IfSome (slice_get ms at) (λ m. Forgets Indexes s m before after)
      → IfIndexed Indexes (entries_of ss ms) before → IfIndexed Indexes (entries_of (remove ss at) (remove ms at)) after
  taken ids ss ms at s before after is stamps within stamp forgets ready =
      let own = message_there ms at within in
      let gone = subst (λ (o : Option MsgRow). IfSome o (λ m. Forgets Indexes s m before after)) own.there forgets in
      index_removed Indexes ss ms at s own.message before after (as_long ids ss ms is stamps) stamps.rise stamp own.there gone ready

  pub pushed : (ids ss now_ids now_ss : List ℕ) (ms : List MsgRow) (s : ℕ) (m : MsgRow) (before after : Option (List Group))
      → ids ≡ ids_of ms → AreStamps (length ids) ss → now_ss ≡ ss ++ s ∷ [] → AreStamps (length now_ids) now_ss
      → Notes Indexes s m before after → IfIndexed Indexes (entries_of ss ms) before → IfIndexed Indexes (entries_of now_ss (ms ++ m ∷ [])) after
  pushed ids ss now_ids now_ss ms s m before after is stamps more now_stamps notes ready =
      index_pushed Indexes ss now_ss ms s m before after (as_long ids ss ms is stamps) more now_stamps.rise notes ready

-- a slot of the message at an index is changed
pub slot_edited : (ids ss : List ℕ) (ms now : List MsgRow) (at s slot : ℕ) (edit : MsgRow → MsgRow) (before after : Option (List Group))
    → AreStamps (length ids) ss → at < length ms → slice_get ss at ≡ Some s → now ≡ edit_at ms at edit → IsOfSlot slot edit
    → IfSome (slice_get now at) (λ n. Turns s slot n before after)
    → IfReady (entries_of ss ms) before → IfReady (entries_of ss now) after
slot_edited ids ss ms now at s slot edit before after stamps within stamp is of turns ready =
    let own = message_there ms at within in
    let n = edit own.message in
    let set : now ≡ slice_set ms at n = is ∙ ap (λ o. option_map_or (λ row. slice_set ms at (edit row)) o ms) own.there in
    let changed : slice_get now at ≡ Some n = ap (λ rows. slice_get rows at) set ∙ get_set-same ms at n within in
    let turn = subst (λ (o : Option MsgRow). IfSome o (λ n. Turns s slot n before after)) changed turns in
    let rises = entries_rise ss ms stamps.rise in
    let there = entry_there ss ms at s own.message stamp own.there in
    subst (λ (rows : List MsgRow). IfReady (entries_of ss rows) after) (sym set)
    (subst (λ (es : List Entry). IfReady es after) (entry_set ss ms at s n stamp)
    (turn own.message of.change of.keeps (of.is own.message) (entries_of ss ms) at rises there ready))

-- ---- what is due

module _ {X : Type 0} (P : X → Type 0) where
  all_removed : (xs : List X) (at : ℕ) → AllByRecursion P xs → AllByRecursion P (remove xs at)
  all_removed [] zero all = tt
  all_removed [] (suc at) all = tt
  all_removed (x ∷ xs) zero all = all.1
  all_removed (x ∷ xs) (suc at) all = (all.0, all_removed xs at all.1)

  all_inserted : (xs : List X) (at : ℕ) (x : X) → P x → AllByRecursion P xs → AllByRecursion P (insert xs at x)
  all_inserted [] zero x own all = (own, tt)
  all_inserted [] (suc at) x own all = (own, tt)
  all_inserted (y ∷ ys) zero x own all = (own, all)
  all_inserted (y ∷ ys) (suc at) x own all = (all.0, all_inserted ys at x own all.1)

  all_last : (xs : List X) (x : X) → P x → AllByRecursion P xs → AllByRecursion P (xs ++ x ∷ [])
  all_last [] x own all = (own, tt)
  all_last (y ∷ ys) x own all = (all.0, all_last ys x own all.1)

  pub all_by_index : (xs : List X) → AllByRecursion P xs → All P xs
  all_by_index [] all = λ k d within. absurd (omega (arith, within))
  all_by_index (x ∷ xs) all = All-cons P x xs all.0 (all_by_index xs all.1)

module _ (keeps : List ℕ → ℕ) where
  pub due_removed : (ms : List MsgRow) (at : ℕ) (d : Option DueRows) → IfDue keeps ms d → IfDue keeps (remove ms at) d
  due_removed ms at None due = tt
  due_removed ms at (Some d) due = all_removed (HasRows keeps d.rows) ms at due

  due_set : (ms : List MsgRow) (at : ℕ) (m n : MsgRow) (d : Option DueRows) → slice_get ms at ≡ Some m → IfDue keeps (n ∷ remove ms at) d → IfDue keeps (slice_set ms at n) d
  due_set ms at m n None there due = tt
  due_set ms at m n (Some d) there due =
      subst (λ (rows : List MsgRow). AllByRecursion (HasRows keeps d.rows) rows) (replaced ms at m n there)
      (all_inserted (HasRows keeps d.rows) (remove ms at) at n due.0 due.1)

  pub due_last : (ms : List MsgRow) (m : MsgRow) (d : Option DueRows) → IfDue keeps (m ∷ ms) d → IfDue keeps (ms ++ m ∷ []) d
  due_last ms m None due = tt
  due_last ms m (Some d) due = all_last (HasRows keeps d.rows) ms m due.0 due.1

pub due_edited : (ms now : List MsgRow) (at : ℕ) (change : MsgRow → MsgRow) (k0 k1 k2 : List KeepRow) (before between after : Option DueRows)
    → k1 ≡ k0 → k2 ≡ k1 → at < length ms → now ≡ edit_at ms at change
    → (IfDue (keeps_in k0) ms before → IfDue (keeps_in k0) (remove ms at) between)
    → IfSome (slice_get now at) (λ m. Gains (keeps_in k1) m between after)
    → IfDue (keeps_in k0) ms before → IfDue (keeps_in k2) now after
due_edited ms now at change k0 k1 k2 before between after one two within is taken gains due =
    let own = message_there ms at within in
    let n = change own.message in
    let set : now ≡ slice_set ms at n = is ∙ ap (λ o. option_map_or (λ row. slice_set ms at (change row)) o ms) own.there in
    let changed : slice_get now at ≡ Some n = ap (λ rows. slice_get rows at) set ∙ get_set-same ms at n within in
    let come = subst (λ (o : Option MsgRow). IfSome o (λ m. Gains (keeps_in k1) m between after)) changed gains in
    let left = subst (λ (k : List KeepRow). IfDue (keeps_in k) (remove ms at) between) (sym one) (taken due) in
    let all = due_set (keeps_in k1) ms at own.message n after own.there (come (remove ms at) left) in
    subst (λ (k : List KeepRow). IfDue (keeps_in k) now after) (sym two) (subst (λ (rows : List MsgRow). IfDue (keeps_in k1) rows after) (sym set) all)

pub due_pushed : (ms : List MsgRow) (m : MsgRow) (k0 k1 : List KeepRow) (before after : Option DueRows) → k1 ≡ k0
    → Gains (keeps_in k0) m before after → IfDue (keeps_in k0) ms before → IfDue (keeps_in k1) (ms ++ m ∷ []) after
due_pushed ms m k0 k1 before after same gains due =
    subst (λ (k : List KeepRow). IfDue (keeps_in k) (ms ++ m ∷ []) after) (sym same) (due_last (keeps_in k0) ms m after (gains ms due))

-- ---- a number that one message has

abbrev one_if : Bool → ℕ
one_if b = cond b 1 0

counted : (p : MsgRow → Bool) (m : MsgRow) (ms : List MsgRow) → count_by p (m ∷ ms) ≡ one_if (p m) + count_by p ms
counted p m ms = sum_by-cons (λ x. one_if (p x)) m ms

none_counted : (id : ℕ) (ms : List MsgRow) → count_by (λ m. m.id == id) ms ≡ 0 → AllByRecursion (λ m. m.id ≢ id) ms
none_counted id [] none = tt
none_counted id (m ∷ ms) none =
    let both = counted (λ m. m.id == id) m ms in
    elim (cases_Bool (m.id == id)) [
      | inl same ↦ let one = ap one_if same in absurd (omega (arith, both, one, none))
      | inr other ↦ (eqb-false m.id id other, none_counted id ms (let no = ap one_if other in omega (arith, both, no, none)))
    ]

one_counted : (id at : ℕ) (ms : List MsgRow) (m : MsgRow) → slice_get ms at ≡ Some m → m.id ≡ id → 1 ≤ count_by (λ m. m.id == id) ms
one_counted id at [] m there same = absurd (none-some m there)
one_counted id zero (x ∷ xs) m there same =
    let both = counted (λ m. m.id == id) x xs in
    let own : x.id ≡ id = let first : x ≡ m = cc in ap (λ (m : MsgRow). m.id) first ∙ same in
    let one = ap one_if (eq-eqb x.id id own) in
    omega (arith, both, one)
one_counted id (suc at) (x ∷ xs) m there same =
    let both = counted (λ m. m.id == id) x xs in
    let rest = one_counted id at xs m there same in
    omega (arith, both, rest)

-- where a number is had by one message at most, no other message has it
others_differ : (id at : ℕ) (ms : List MsgRow) (m : MsgRow) → slice_get ms at ≡ Some m → m.id ≡ id → count_by (λ m. m.id == id) ms ≤ 1
    → AllByRecursion (λ m. m.id ≢ id) (remove ms at)
others_differ id at [] m there same alone = absurd (none-some m there)
others_differ id zero (x ∷ xs) m there same alone =
    let both = counted (λ m. m.id == id) x xs in
    let own : x.id ≡ id = let first : x ≡ m = cc in ap (λ (m : MsgRow). m.id) first ∙ same in
    let one = ap one_if (eq-eqb x.id id own) in
    none_counted id xs (omega (arith, both, one, alone))
others_differ id (suc at) (x ∷ xs) m there same alone =
    let both = counted (λ m. m.id == id) x xs in
    let rest = one_counted id at xs m there same in (
      λ own. let one = ap one_if (eq-eqb x.id id own) in omega (arith, both, one, rest, alone),
      others_differ id at xs m there same (omega (arith, both, alone)),
    )

pub due_taken : (ids : List ℕ) (ms : List MsgRow) (at : ℕ) (m : MsgRow) (alone : Bool) (keeps : List ℕ → ℕ) (before after : Option DueRows)
    → ids ≡ ids_of ms → slice_get ms at ≡ Some m → (alone ≡ true → count_by (λ i. i == m.id) ids ≤ 1)
    → Loses keeps alone m.id before after → IfDue keeps ms before → IfDue keeps (remove ms at) after
due_taken ids ms at m alone keeps before after is there once loses due =
    loses (remove ms at)
    (λ yes. others_differ m.id at ms m there refl (let few = once yes in let same = ap (count_by (λ i. i == m.id)) is ∙ count_of_ids m.id ms in omega (arith, few, same)))
    (due_removed keeps ms at before due)
