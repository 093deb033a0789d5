-- What becomes of a dequeue that names a message, and who holds its slot.
use Rattle.std.proofs.Common.{◌≡◌, ◌≢◌, ℕ, ◌+◌, ◌==◌, suc, zero, List, [], ◌∷◌, Bool, true, false, Option, Some, None, refl, sym, ap, ◌∙◌, subst, inl, inr, arith, ◌&&◌}
use Rattle.std.specs.Prelude.{◌⊎◌, not, slice_get, option_copied, if◌then◌else◌}
use Rattle.std.specs.List.{list_any}
use Rattle.std.specs.Option.{option_or}
use Rattle.std.specs.Str.{bytes_eq}
use Rattle.std.proofs.lemmas.Bool.{false≢true, or_left, or_right, or_cases, and_parts, and_from, both_ways, false_from_ne_true}
use Rattle.aq_base.specs.declared.DbId.{DbId}
use Rattle.slot_marks.specs.declared.mark.Mark.{Mark}
use Rattle.slot_marks.specs.declared.mark.Group.{Group}
use Rattle.slot_marks.specs.Marks.{SessionMarks, marks_of, has_slot, has_any_group, IsFreeSlot, IsFreeGroup, IsHolder, IsFreeFor, AreHeldOnce}
use Rattle.queue_rows.specs.Groups.{group_of}
use Rattle.queue_rows.specs.Meaning.{refused}
use Rattle.queue_rows.specs.Session.{Session, is_same_db, marks_slot, marks_group, marker_from, holder}
use Rattle.queue_rows.specs.Dequeueing.{Look, given_named, given_slot, given_unheld, holder_for, is_browse, slot_for, slot_in}
use Rattle.queue_rows.specs.declared.rows.MsgRow.{MsgRow}
use Rattle.queue_rows.specs.declared.reply.Reply.TheVariants as replies
use Rattle.queue_rows.specs.Session.{AreMarks}
use Rattle.message_choice.specs.Asking.{IsLookOf, look_of}
use Rattle.message_choice.specs.Claimed.{is_lost}
use Rattle.message_choice.specs.declared.asking.Asking.{Asking}
use Rattle.message_choice.proofs.Holding.{OtherHolder, OwnsGroup, db_same, group_any, no_other, not_equal, other_number, same_db}

-- ---- the first session with a mark

module _ (actor : ℕ) (db : DbId) (is_it : Mark → Bool) where
  abbrev pub marked_at : ℕ → Session → Bool
  marked_at i s = not (i == actor) && is_same_db s.at db && list_any is_it s.marks

  marker-none : (n : ℕ) (sessions : List Session) → ((i : ℕ) (s : Session) → slice_get sessions i ≡ Some s → marked_at (n + i) s ≡ false) → marker_from n actor db is_it sessions ≡ None
  marker-none n [] h = refl
  marker-none n (y ∷ ys) h =
      let z : n + 0 ≡ n = omega arith in
      let here : marked_at n y ≡ false = subst (λ (k : ℕ). marked_at k y ≡ false) z (h 0 y refl) in
      rw here (marker-none (n + 1) ys (λ i s e. let u : n + suc i ≡ n + 1 + i = omega arith in subst (λ (k : ℕ). marked_at k s ≡ false) u (h (suc i) s e)))

  marker-some : (n : ℕ) (sessions : List Session) (i : ℕ) (s : Session) → slice_get sessions i ≡ Some s → marked_at (n + i) s ≡ true
      → ((j : ℕ) (x : Session) → slice_get sessions j ≡ Some x → marked_at (n + j) x ≡ true → j ≡ i) → marker_from n actor db is_it sessions ≡ Some (n + i)
  marker-some n [] i s e h only = cc
  marker-some n (y ∷ ys) zero s e h only =
      let z : n + 0 ≡ n = omega arith in
      let same : y ≡ s = cc in
      let here : marked_at n y ≡ true = subst (λ (x : Session). marked_at n x ≡ true) (sym same) (subst (λ (k : ℕ). marked_at k s ≡ true) z h) in
      rw here (ap Some (sym z))
  marker-some n (y ∷ ys) (suc i) s e h only =
      let z : n ≡ n + 0 = omega arith in
      let u : n + suc i ≡ n + 1 + i = omega arith in
      let here : marked_at n y ≡ false = false_from_ne_true (marked_at n y) (λ t. let bad : 0 ≡ suc i = only 0 y refl (subst (λ (k : ℕ). marked_at k y ≡ true) z t) in omega (arith, bad)) in
      rw here (marker-some (n + 1) ys i s e (subst (λ (k : ℕ). marked_at k s ≡ true) u h)
      (λ j x f t. let v : n + 1 + j ≡ n + suc j = omega arith in let same : suc j ≡ suc i = only (suc j) x f (subst (λ (k : ℕ). marked_at k x ≡ true) v t) in omega (arith, same))
      ∙ ap Some (sym u))

-- ---- by the locks

module _ (db : DbId) (sessions : List Session) (locks : List SessionMarks) (are : AreMarks db sessions locks) (actor : ℕ) where
  module _ (is_it : Mark → Bool) where
    shown-at : (i : ℕ) (s : Session) → slice_get sessions i ≡ Some s → marked_at actor db is_it i s ≡ true → (i ≢ actor) × (list_any is_it (marks_of locks i) ≡ true)
    shown-at i s there e =
        let passes = and_parts (not (i == actor) && is_same_db s.at db) (list_any is_it s.marks) e in
        let both = and_parts (not (i == actor)) (is_same_db s.at db) passes.0 in
        (other_number i actor both.0, ap (list_any is_it) (sym (are.own i s there (db_same s.at db both.1))) ∙ passes.1)

    unshown : ((i : ℕ) → i ≢ actor → list_any is_it (marks_of locks i) ≡ false) → marker_from 0 actor db is_it sessions ≡ None
    unshown h = marker-none actor db is_it 0 sessions
        (λ i s e. let z : i ≡ 0 + i = omega arith in
        subst (λ (k : ℕ). marked_at actor db is_it k s ≡ false) z
        (false_from_ne_true (marked_at actor db is_it i s) (λ t. let r = shown-at i s e t in both_ways (list_any is_it (marks_of locks i)) (h i r.0) r.1)))

    shown-by : (i : ℕ) → i ≢ actor → list_any is_it (marks_of locks i) ≡ true → ((j : ℕ) → list_any is_it (marks_of locks j) ≡ true → j ≡ i)
        → (marks_of locks i ≡ []) ⊎ ((s : Session) × (slice_get sessions i ≡ Some s) × (s.at ≡ db)) → marker_from 0 actor db is_it sessions ≡ Some i
    shown-by i other has only (inl none) = absurd (false≢true (sym (ap (list_any is_it) none) ∙ has))
    shown-by i other has only (inr (s, there, at)) =
        let z : i ≡ 0 + i = omega arith in
        let passes : marked_at actor db is_it i s ≡ true = and_from (not (i == actor) && is_same_db s.at db) (list_any is_it s.marks)
        (and_from (not (i == actor)) (is_same_db s.at db) (not_equal i actor other) (ap (λ (x : DbId). is_same_db x db) at ∙ same_db db))
        (ap (list_any is_it) (are.own i s there at) ∙ has) in
        marker-some actor db is_it 0 sessions i s there (subst (λ (k : ℕ). marked_at actor db is_it k s ≡ true) z passes)
        (λ j x f t. let y : 0 + j ≡ j = omega arith in only j (shown-at j x f (subst (λ (k : ℕ). marked_at actor db is_it k x ≡ true) y t)).1)
        ∙ ap Some (sym z)

  module _ (id slot : ℕ) (group : Option Group) where
    either : Option ℕ → Option ℕ → holder sessions actor db id slot group ≡ option_or (marker_from 0 actor db (marks_slot id slot) sessions) (marker_from 0 actor db (marks_group group) sessions)
    either a b = refl

    -- where no other session has the slot or its group, there is no holder
    pub holder-none : (OtherHolder locks actor id slot group → ⊥) → holder sessions actor db id slot group ≡ None
    holder-none none =
        let by_slot : marker_from 0 actor db (marks_slot id slot) sessions ≡ None = unshown (marks_slot id slot) (λ i other. false_from_ne_true (has_slot id slot (marks_of locks i))
        (λ has. none (record { number = i; other = other; has = or_left (has_slot id slot (marks_of locks i)) (has_any_group group (marks_of locks i)) has }))) in
        let by_group : marker_from 0 actor db (marks_group group) sessions ≡ None = unshown (marks_group group) (λ i other. group_any group (marks_of locks i) ∙ false_from_ne_true (has_any_group group (marks_of locks i))
        (λ has. none (record { number = i; other = other; has = or_right (has_slot id slot (marks_of locks i)) (has_any_group group (marks_of locks i)) has }))) in
        rw (by_slot, by_group) refl

    -- another one that the locks tell is the holder
    pub holder-some : (h : ℕ) → AreHeldOnce locks → IsHolder locks id slot group h → h ≢ actor → holder sessions actor db id slot group ≡ Some h
    holder-some h once (inl has) other =
        let by_slot : marker_from 0 actor db (marks_slot id slot) sessions ≡ Some h = shown-by (marks_slot id slot) h other has (λ j f. once.slots j h id slot f has) (are.only h) in
        rw by_slot refl
    holder-some h once (inr (free, has)) other =
        let by_slot : marker_from 0 actor db (marks_slot id slot) sessions ≡ None = unshown (marks_slot id slot) (λ i ne. free i) in
        let by_group : marker_from 0 actor db (marks_group group) sessions ≡ Some h = shown-by (marks_group group) h other (group_any group (marks_of locks h) ∙ has) (λ j f. once.groups j h group (sym (group_any group (marks_of locks j)) ∙ f) has) (are.only h) in
        rw (by_slot, by_group) refl

-- no session has it, so no other one
pub none-free : (locks : List SessionMarks) (actor id slot : ℕ) (group : Option Group) → IsFreeSlot locks id slot → IsFreeGroup locks group → OtherHolder locks actor id slot group → ⊥
none-free locks actor id slot group slot_free group_free r =
    elim (or_cases (has_slot id slot (marks_of locks r.number)) (has_any_group group (marks_of locks r.number)) r.has) [
      | inl has ↦ both_ways (has_slot id slot (marks_of locks r.number)) (slot_free r.number) has
      | inr has ↦ both_ways (has_any_group group (marks_of locks r.number)) (group_free r.number) has
    ]

-- what no other session holds is free for this one
pub free-for : (locks : List SessionMarks) (actor id slot : ℕ) (group : Option Group) (removed : Bool) → (OtherHolder locks actor id slot group → ⊥)
    → IsFreeFor locks actor (record { id = id; slot = slot; removed = removed; group = group })
free-for locks actor id slot group removed none = record {
  slot = λ other ne. false_from_ne_true (has_slot id slot (marks_of locks other))
      (λ has. none (record { number = other; other = ne; has = or_left (has_slot id slot (marks_of locks other)) (has_any_group group (marks_of locks other)) has }));
  group = λ other ne. false_from_ne_true (has_any_group group (marks_of locks other))
      (λ has. none (record { number = other; other = ne; has = or_right (has_slot id slot (marks_of locks other)) (has_any_group group (marks_of locks other)) has }));
}

-- ---- a look that asks for it

module _ (a : Asking) (messages : List MsgRow) (l : Look) (is : IsLookOf a.pick.now a.actor a.locks.now messages l) where
  pub lost-alike : (m : MsgRow) (slot : ℕ) → is_lost l m slot ≡ is_lost (look_of a) m slot
  lost-alike m slot = λ i. is_lost (record l { session = record l.session { marks = is.own i }; table = is.table i; ask = record l.ask { corr = is.corr i }; condition = is.condition i }) m slot

  pub slot-alike : (m : MsgRow) → slot_in l m ≡ slot_for a.pick.now.queue.now (option_copied a.pick.now.consumer) m
  slot-alike m = λ i. slot_for (is.queue i) (is.consumer i) m

  module _ (m : MsgRow) (slot : ℕ) (looked : is_browse a.pick.now.mode ≡ false) where
    abbrev pub group_here : Option Group
    group_here = group_of a.pick.now.table.now m slot

    holder-known : (o : Option ℕ) → holder l.sessions a.actor l.session.at m.id slot group_here ≡ o → holder_for l m slot ≡ o
    holder-known o e =
        (λ i. if is_browse (is.mode i) then None else holder l.sessions (is.actor i) l.session.at m.id slot (group_of (is.table i) m slot))
        ∙ rw looked e

    pub held-by-none : IsFreeSlot a.locks.now m.id slot → IsFreeGroup a.locks.now group_here → holder_for l m slot ≡ None
    held-by-none slot_free group_free =
        holder-known None (holder-none l.session.at l.sessions a.locks.now is.marks a.actor m.id slot group_here (none-free a.locks.now a.actor m.id slot group_here slot_free group_free))

    pub held-by-own : (h : ℕ) → AreHeldOnce a.locks.now → OwnsGroup (marks_of a.locks.now a.actor) m.id slot group_here → IsHolder a.locks.now m.id slot group_here h → h ≡ a.actor → holder_for l m slot ≡ None
    held-by-own h once owns holds same =
        holder-known None (holder-none l.session.at l.sessions a.locks.now is.marks a.actor m.id slot group_here
        (no_other a.locks.now a.actor m.id slot group_here once owns (subst (λ (x : ℕ). IsHolder a.locks.now m.id slot group_here x) same holds)))

    pub held-by-other : (h : ℕ) → AreHeldOnce a.locks.now → IsHolder a.locks.now m.id slot group_here h → h ≢ a.actor → holder_for l m slot ≡ Some h
    held-by-other h once holds other = holder-known (Some h) (holder-some l.session.at l.sessions a.locks.now is.marks a.actor m.id slot group_here h once holds other)

-- ---- what a claim comes to

module _ (l : Look) (moment : ℕ) (m : MsgRow) where
  pub named-elsewhere : bytes_eq m.queue l.queue.name ≡ false → given_named l moment (Some m) ≡ refused l.session replies.NoSuchMessage
  named-elsewhere e = rw e refl

  pub named-here : bytes_eq m.queue l.queue.name ≡ true → given_named l moment (Some m) ≡ given_slot l moment m (slot_in l m)
  named-here e = rw e refl

  pub slot-lost : (slot : ℕ) → is_lost l m slot ≡ true → given_slot l moment m (Some slot) ≡ refused l.session replies.NoSuchMessage
  slot-lost slot e = rw e refl

  pub slot-kept : (slot : ℕ) → is_lost l m slot ≡ false → given_slot l moment m (Some slot) ≡ given_unheld l moment m slot (holder_for l m slot)
  slot-kept slot e = rw e refl
