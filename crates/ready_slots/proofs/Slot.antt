-- A change of a slot: for the nameless consumer and for the one that the slot names the row is set, and for no other it would differ.
use Rattle.std.proofs.Common.{◌≡◌, ◌≢◌, ℕ, Bool, true, false, List, Option, Some, None, refl, sym, ap, ◌∙◌, ◌&&◌, subst}
use Rattle.std.proofs.lemmas.Bool.{false≢true}
use Rattle.std.proofs.lemmas.Slice.Eq.{bytes_eq-Decides}
use Rattle.std.specs.Prelude.{is_none, option_and_then, option_map, remove, slice_get}
use Rattle.std.specs.Option.{option_map_or}
use Rattle.std.specs.Str.{bytes_eq}
use Rattle.queue_rows.specs.Rows.{slot_of, with_slot}
use Rattle.queue_rows.specs.Session.{is_same_consumer}
use Rattle.queue_rows.specs.Dequeueing.{is_local_for}
use Rattle.queue_rows.specs.declared.rows.MsgRow.{MsgRow}
use Rattle.queue_rows.specs.declared.rows.SlotRow.{SlotRow}
use Rattle.choice_laws.proofs.Slots.{slot_of-with_same}
use Rattle.sort_index.specs.Ready.{is_of, key, names_cmp}
use Rattle.sort_index.specs.ReadyLaws.{names_exact}
use Rattle.sort_index.specs.declared.group.Group.{Group}
use Rattle.choice_laws.specs.Entries.{Entry, AreRising, rows_for, shows, stands_for, with_message, with_row, without_row}
use Rattle.choice_laws.specs.ShownLaws.{KeepsRecipient, concerns}
use Rattle.choice_laws.proofs.Edited.{rows_after_removal, rows_stay, stamps_rise}
use Rattle.choice_laws.proofs.Shown.{others_are_shown_alike}
use Rattle.ready_slots.specs.Edits.{entry}
use Rattle.ready_slots.specs.Putting.{PutsRow}
use Rattle.ready_slots.specs.Slot.{ChangesSlot, SetsNamed, SetsRow, set_where, slot_name}
use Rattle.ready_slots.specs.Taking.{TakesRow, row_at, told}
use Rattle.ready_slots.proofs.Inserting.{replaced, rows_after_insert}
use Rattle.ready_slots.proofs.Standing.{is_Equal, own_names}

-- ---- the row of one consumer

pub set_shown : (stands : Bool) (m : MsgRow) (consumer : Option (List ℕ)) (stamp : ℕ) (before after : List Group) → stands ≡ shows m consumer → stands ≡ true
    → PutsRow m consumer stamp before after → SetsRow m consumer stamp before after
set_shown stands m consumer stamp before after is so puts q c =
    puts q c ∙ ap (λ b. set_where (is_of q c (key m.queue consumer)) b (row_at stamp m) (told q c before)) (sym so ∙ is)

pub set_hidden : (stands : Bool) (m : MsgRow) (consumer : Option (List ℕ)) (stamp : ℕ) (before after : List Group) → stands ≡ shows m consumer → stands ≡ false
    → TakesRow m.queue consumer m.place stamp before after → SetsRow m consumer stamp before after
set_hidden stands m consumer stamp before after is so takes q c =
    takes q c ∙ ap (λ b. set_where (is_of q c (key m.queue consumer)) b (row_at stamp m) (told q c before)) (sym so ∙ is)

same_group : (queue : List ℕ) (consumer : Option (List ℕ)) (q : List ℕ) (c : Option (List ℕ)) → is_of q c (key queue consumer) ≡ true → (queue ≡ q) × (consumer ≡ c)
same_group queue consumer q c e = names_exact queue consumer q c (is_Equal (names_cmp queue consumer q c) e)

none_is_no_name : (c : Option (List ℕ)) (name : List ℕ) → None ≡ c → Some name ≡ c → ⊥
none_is_no_name c name none some = let both : Some name ≡ None = some ∙ sym none in cc both

same_some : (a b : List ℕ) → Some a ≡ Some b → a ≡ b
same_some a b e = ap (λ (o : Option (List ℕ)). option_map_or (λ x. x) o a) e

-- ---- a slot of a message is changed

module _ (slot : ℕ) (m : MsgRow) (change : SlotRow → SlotRow) (keeps : KeepsRecipient change) where
  abbrev now : MsgRow
  now = with_slot slot change m

  name_is : (s : SlotRow) (name : List ℕ) → slot_of m slot ≡ Some s → s.name ≡ Some name → slot_name now slot ≡ Some name
  name_is s name there is =
      ap (option_and_then (λ (s : SlotRow). s.name)) (slot_of-with_same slot change m ∙ ap (option_map change) there) ∙ keeps.name s ∙ is

  module _ (x : List ℕ) (other : slot_name now slot ≢ Some x) where
    by_name : (s : SlotRow) (o : Option (List ℕ)) → slot_of m slot ≡ Some s → s.name ≡ o → is_same_consumer o (Some x) ≡ false
    by_name s None there is = refl
    by_name s (Some y) there is =
        let P : Bool → Type 0 = λ b. bytes_eq y x ≡ b → b ≡ false in
        elim (bytes_eq y x) as P [
          | true ↦ λ e. absurd (other (name_is s y there is ∙ ap Some ((bytes_eq-Decides y x).0 e)))
          | false ↦ λ e. refl
        ] refl

    by_slot : (o : Option SlotRow) → slot_of m slot ≡ o → option_map_or (is_local_for x) o false ≡ false
    by_slot None there = refl
    by_slot (Some s) there =
        ap (λ o. is_same_consumer o (Some x) && is_none s.address) refl
        ∙ ap (λ b. b && is_none s.address) (by_name s s.name there refl)

  module _ (q : List ℕ) (queue_is : m.queue ≡ q) where
    unconcerned : (c : Option (List ℕ)) → is_of q c (key m.queue None) ≡ false → ((name : List ℕ) → slot_name now slot ≡ Some name → is_of q c (key m.queue (Some name)) ≡ false)
        → concerns m slot c ≡ false
    unconcerned None unnamed named =
        absurd (false≢true (sym unnamed ∙ ap (λ x. is_of q None (key x None)) queue_is ∙ own_names q None))
    unconcerned (Some x) unnamed named =
        let other : slot_name now slot ≢ Some x = λ is. false≢true (sym (named x is) ∙ ap (λ y. is_of q (Some x) (key y (Some x))) queue_is ∙ own_names q (Some x)) in
        by_slot x other (slot_of m slot) refl

  -- a consumer that is not the nameless one, nor that of the slot's name, finds the message where it found it
  alike : (q : List ℕ) (c : Option (List ℕ)) → is_of q c (key m.queue None) ≡ false
      → ((name : List ℕ) → slot_name now slot ≡ Some name → is_of q c (key m.queue (Some name)) ≡ false)
      → stands_for q c now ≡ stands_for q c m
  alike q c unnamed named =
      let P : Bool → Type 0 = λ b. bytes_eq m.queue q ≡ b → (b && shows now c) ≡ (b && shows m c) in
      elim (bytes_eq m.queue q) as P [
        | true ↦ λ e. others_are_shown_alike m slot change c keeps (unconcerned q ((bytes_eq-Decides m.queue q).0 e) c unnamed named)
        | false ↦ λ e. refl
      ] refl

  stands_is : (q : List ℕ) (consumer c : Option (List ℕ)) → m.queue ≡ q → consumer ≡ c → shows now consumer ≡ stands_for q c now
  stands_is q consumer c queue_is name_is =
      ap (shows now) name_is ∙ sym (ap (λ b. b && shows now c) ((bytes_eq-Decides m.queue q).1 queue_is))

  module _ (stamp : ℕ) (entries : List Entry) (at : ℕ) (rising : AreRising entries) (there : slice_get entries at ≡ Some (entry stamp m)) (q : List ℕ) (c : Option (List ℕ)) where
    abbrev final : List Entry
    final = with_message entries at (entry stamp m) now

    row_set : with_row (stands_for q c now) (row_at stamp now) (without_row (row_at stamp now) (rows_for q c entries)) ≡ rows_for q c final
    row_set =
        let e = entry stamp m in
        let same = replaced entries at e (entry stamp now) there in
        let rises = stamps_rise.change entries at e now rising there in
        ap (with_row (stands_for q c now) (row_at stamp now)) (sym (rows_after_removal q c entries at e rising there))
        ∙ sym (rows_after_insert q c (remove entries at) at (entry stamp now) (subst AreRising (sym same) rises))
        ∙ ap (rows_for q c) same

    row_stays : stands_for q c now ≡ stands_for q c m → rows_for q c entries ≡ rows_for q c final
    row_stays same = sym (rows_stay q c entries at (entry stamp m) now rising there refl same)

    module _ (before middle after : List Group) (indexed : told q c before ≡ rows_for q c entries) (sets : SetsRow now None stamp before middle) where
      set_for : (consumer : Option (List ℕ)) (from to : List Group) → SetsRow now consumer stamp from to → told q c from ≡ rows_for q c entries
          → is_of q c (key m.queue consumer) ≡ true → told q c to ≡ rows_for q c final
      set_for consumer from to set old own =
          let same = same_group m.queue consumer q c own in
          set q c
          ∙ ap (λ b. set_where b (shows now consumer) (row_at stamp now) (told q c from)) own
          ∙ ap (λ b. with_row b (row_at stamp now) (without_row (row_at stamp now) (told q c from))) (stands_is q consumer c same.0 same.1)
          ∙ ap (λ rows. with_row (stands_for q c now) (row_at stamp now) (without_row (row_at stamp now) rows)) old
          ∙ row_set

      kept_for : (consumer : Option (List ℕ)) (from to : List Group) → SetsRow now consumer stamp from to → is_of q c (key m.queue consumer) ≡ false → told q c to ≡ told q c from
      kept_for consumer from to set own = set q c ∙ ap (λ b. set_where b (shows now consumer) (row_at stamp now) (told q c from)) own

      -- where the nameless consumer is the one that is asked about
      unnamed : is_of q c (key m.queue None) ≡ true → (o : Option (List ℕ)) → SetsNamed o now stamp middle after → told q c after ≡ rows_for q c final
      unnamed own None named = ap (told q c) named ∙ set_for None before middle sets indexed own
      unnamed own (Some name) named =
          let P : Bool → Type 0 = λ b. is_of q c (key m.queue (Some name)) ≡ b → told q c after ≡ rows_for q c final in
          elim (is_of q c (key m.queue (Some name))) as P [
            | true ↦ λ e. absurd (none_is_no_name c name (same_group m.queue None q c own).1 (same_group m.queue (Some name) q c e).1)
            | false ↦ λ e. kept_for (Some name) middle after named e ∙ set_for None before middle sets indexed own
          ] refl

      -- where it is not
      other : is_of q c (key m.queue None) ≡ false → (o : Option (List ℕ)) → slot_name now slot ≡ o → SetsNamed o now stamp middle after → told q c after ≡ rows_for q c final
      other own None is named =
          ap (told q c) named ∙ kept_for None before middle sets own ∙ indexed
          ∙ row_stays (alike q c own (λ name so. absurd (none_is_no_name (slot_name now slot) name (sym is) (sym so))))
      other own (Some name) is named =
          let old = kept_for None before middle sets own ∙ indexed in
          let P : Bool → Type 0 = λ b. is_of q c (key m.queue (Some name)) ≡ b → told q c after ≡ rows_for q c final in
          elim (is_of q c (key m.queue (Some name))) as P [
            | true ↦ λ e. set_for (Some name) middle after named old e
            | false ↦ λ e.
                kept_for (Some name) middle after named e ∙ old
                ∙ row_stays (alike q c own (λ x so. ap (λ y. is_of q c (key m.queue (Some y))) (same_some x name (sym so ∙ is)) ∙ e))
          ] refl

      told_after : SetsNamed (slot_name now slot) now stamp middle after → told q c after ≡ rows_for q c final
      told_after named =
          let P : Bool → Type 0 = λ b. is_of q c (key m.queue None) ≡ b → told q c after ≡ rows_for q c final in
          elim (is_of q c (key m.queue None)) as P [
            | true ↦ λ e. unnamed e (slot_name now slot) named
            | false ↦ λ e. other e (slot_name now slot) refl named
          ] refl

pub changes_slot : (stamp slot : ℕ) (n : MsgRow) (before middle after : List Group)
    → SetsRow n None stamp before middle → SetsNamed (slot_name n slot) n stamp middle after → ChangesSlot stamp slot n before after
changes_slot stamp slot n before middle after sets named m change keeps is entries at rising there indexed q c =
    let so : SetsRow (with_slot slot change m) None stamp before middle = subst (λ (x : MsgRow). SetsRow x None stamp before middle) is sets in
    let then : SetsNamed (slot_name (with_slot slot change m) slot) (with_slot slot change m) stamp middle after = subst (λ (x : MsgRow). SetsNamed (slot_name x slot) x stamp middle after) is named in
    told_after slot m change keeps stamp entries at rising there q c before middle after (indexed q c) so then
    ∙ ap (λ x. rows_for q c (with_message entries at (entry stamp m) x)) (sym is)
