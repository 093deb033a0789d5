-- What is kept of the groups of all sessions where one session changes.
use Rattle.std.proofs.Common.{◌≡◌, ◌≢◌, ℕ, ◌<◌, ◌≤◌, List, length, map, true, false, ◌⊎◌, inl, inr, Option, Some, None, IfNone, IsSome, is_some, IsTrue, slice_set, slice_index_or, refl, sym, ◌∙◌, ap, subst, arith}
use Rattle.std.specs.Option.{option_map, option_map_or}
use Rattle.std.proofs.lemmas.Bool.{cases_eq, cases_lt, cases_Bool}
use Rattle.std.proofs.lemmas.List.{get_or_past, get_or-set_same, get_or-set_other}
use Rattle.slot_marks.specs.Marks.{kept_beside, is_on, is_in_group, has_group, marks_of}
use Rattle.row_locks.specs.Entries.{SessionEntries, no_entries, shown, unranked, entry_at, mark_at, with_entry, with_room}
use Rattle.row_locks.specs.Groups.{class_of, group_in, group_at, class_at, rank_at, is_in_group_at, cell_of, place_of, count_of, mixed_of, hold_in, group_room, DiffersAt, AreRanked, AreGrouped, IsGroupIndexOf}
use Rattle.row_locks.specs.declared.groups.GroupIndex.{GroupIndex}
use Rattle.row_locks.specs.declared.classes.Place.{Place}
use Rattle.slot_marks.specs.declared.mark.Group.{Group}
use Rattle.slot_marks.specs.declared.mark.Mark.{Mark}
use Rattle.row_locks.proofs.GroupLemmas.{cases_place, not_none, index_same}
use Rattle.row_locks.proofs.CountLemmas.{counted_same, counted_told}
use Rattle.row_locks.proofs.IndexLemmas.{entry_passes, none_passes}
use Rattle.row_locks.proofs.PlaceLemmas.{groups_changed, groups_same, ranks_same, unranked_group, unranked_class}
use Rattle.row_locks.proofs.TableLemmas.{marks_at, set_at}

-- each mark is as it was, or is in no group and not in the index
pub index_each : (old new : List SessionEntries) (I I' : GroupIndex) → IsGroupIndexOf old I
    → ((p : Place) → ((group_at new p ≡ group_at old p) × (rank_at new p ≡ rank_at old p)) ⊎ ((group_at new p ≡ None) × ((group_at old p ≡ None) ⊎ (rank_at old p ≡ None))))
    → ((k r : ℕ) → cell_of I'.classes k r ≡ cell_of I.classes k r) → ((n k : ℕ) → hold_in I'.holds n k ≡ hold_in I.holds n k) → IsGroupIndexOf new I'
index_each old new I I' was each cells holds = record {
  index = index_same (class_at old) (class_at new) (rank_at old) (rank_at new) (place_of I.classes) (place_of I'.classes) (count_of I.classes) (count_of I'.classes) was.index
      (λ p. elim (each p) [
        | inl same ↦ inl (ap (option_map class_of) same.0, same.1)
        | inr gone ↦ inr (ap (option_map class_of) gone.0, elim (gone.1) [ inl none ↦ inl (ap (option_map class_of) none) | inr out ↦ inr out ])
      ])
      (λ k r. ap (option_map (λ cell. cell.place)) (cells k r)) (λ k. ap (λ o. option_map_or (λ cell. cell.count) o 0) (cells k 0));
  counts = counted_told (group_at new) (place_of I.classes) (place_of I'.classes) (count_of I.classes) (count_of I'.classes) (mixed_of I.classes) (mixed_of I'.classes) (hold_in I.holds) (hold_in I'.holds)
      (counted_same (group_at old) (group_at new) (place_of I.classes) (count_of I.classes) (mixed_of I.classes) (hold_in I.holds) was.counts (λ k r p is. elim (each p) [
        | inl same ↦ same.0
        | inr gone ↦
            let real = was.index.real k r p is in
            elim (gone.1) [ inl none ↦ absurd (not_none k (ap (option_map class_of) none) real.0) | inr out ↦ absurd (not_none r out real.1) ]
      ]))
      (λ k r. ap (option_map (λ cell. cell.place)) (cells k r)) (λ k. ap (λ o. option_map_or (λ cell. cell.count) o 0) (cells k 0))
      (λ k. ap (λ o. option_map_or (λ cell. cell.mixed) o false) (cells k 0)) holds;
}

-- all groups and ranks are as they were, and there is more room
pub grouped_same : (old new : List SessionEntries) (I I' : GroupIndex) (spare more : ℕ) → AreGrouped old I spare → ((p : Place) → group_at new p ≡ group_at old p) → ((p : Place) → rank_at new p ≡ rank_at old p)
    → ((k r : ℕ) → cell_of I'.classes k r ≡ cell_of I.classes k r) → ((n k : ℕ) → hold_in I'.holds n k ≡ hold_in I.holds n k) → more ≤ group_room I' → AreGrouped new I' more
grouped_same old new I I' spare more grouped groups ranks cells holds fits = record {
  index = index_each old new I I' grouped.index (λ p. inl (groups p, ranks p)) cells holds;
  ranked = λ p k is. ap is_some (ranks p) ∙ grouped.ranked p k (sym (ap (option_map class_of) (groups p)) ∙ is);
  fits = fits;
}

-- the tables are as they were, some of them empty at the end
pub grouped_prepared : (old new : List SessionEntries) (I I' : GroupIndex) (spare : ℕ) → AreGrouped old I spare → ((s : ℕ) → slice_index_or new s no_entries ≡ slice_index_or old s no_entries)
    → ((k r : ℕ) → cell_of I'.classes k r ≡ cell_of I.classes k r) → ((n k : ℕ) → hold_in I'.holds n k ≡ hold_in I.holds n k) → group_room I ≤ group_room I' → AreGrouped new I' spare
grouped_prepared old new I I' spare grouped same cells holds more =
    grouped_same old new I I' spare spare grouped (λ p. ap (λ t. group_in (entry_at t.entries p.at)) (same p.session)) (λ p. ap (λ t. slice_index_or t.ranks p.at None) (same p.session)) cells holds
    (let fits = grouped.fits in omega arith)

pub grouped_reserved : (tables new : List SessionEntries) (I : GroupIndex) (spare more s : ℕ) → AreGrouped tables I spare → new ≡ slice_set tables s (with_room (slice_index_or tables s no_entries)) → more ≤ group_room I
    → AreGrouped new I more
grouped_reserved tables new I spare more s grouped made fits =
    let F : List SessionEntries → Type 0 = λ ts. AreGrouped ts I more in
    let roomier : SessionEntries = with_room (slice_index_or tables s no_entries) in
    subst F (sym made) (grouped_same tables (slice_set tables s roomier) I I spare more grouped (groups_same tables s roomier refl) (ranks_same tables s roomier refl) (λ k r. refl) (λ n k. refl) fits)

-- the mark with its group stands where it did
pub group_kept : (mark : Mark) (e : Option Mark) → group_in (option_map (kept_beside mark) e) ≡ group_in e
group_kept mark None = refl
group_kept mark (Some own) = elim (cases_Bool (is_on mark.id mark.slot own)) [ inl on ↦ rw on refl | inr off ↦ rw off refl ]

pub grouped_kept : (tables new : List SessionEntries) (I : GroupIndex) (spare s at : ℕ) (mark : Mark) → AreGrouped tables I spare → s < length tables
    → at < length (slice_index_or tables s no_entries).entries
    → new ≡ slice_set tables s (with_entry (slice_index_or tables s no_entries) at (option_map (kept_beside mark) (entry_at (slice_index_or tables s no_entries).entries at)))
    → AreGrouped new I spare
grouped_kept tables new I spare s at mark grouped there within made =
    let F : List SessionEntries → Type 0 = λ ts. AreGrouped ts I spare in
    let e = entry_at (slice_index_or tables s no_entries).entries at in
    let kept : SessionEntries = with_entry (slice_index_or tables s no_entries) at (option_map (kept_beside mark) e) in
    let groups = groups_changed tables (slice_set tables s kept) s at (option_map (kept_beside mark) e) (set_at tables s at (option_map (kept_beside mark) e) there within) in
    let same : (p : Place) → group_at (slice_set tables s kept) p ≡ group_at tables p = λ p. elim (cases_place p (record { session = s; at = at })) [
      | inl here ↦ let G : Place → Type 0 = λ x. group_at (slice_set tables s kept) x ≡ group_at tables x in subst G (sym here) (groups.here ∙ group_kept mark e)
      | inr elsewhere ↦ groups.elsewhere p elsewhere
    ] in
    subst F (sym made) (grouped_same tables (slice_set tables s kept) I I spare spare grouped same (ranks_same tables s kept refl) (λ k r. refl) (λ n k. refl) grouped.fits)

pub ranked_put : (old new : List SessionEntries) (p : Place) (mark : Mark) (count : ℕ → ℕ) → DiffersAt (group_at old) (group_at new) p mark.group
    → DiffersAt (rank_at old) (rank_at new) p (option_map (λ g. count (class_of g)) mark.group) → AreRanked old → AreRanked new
ranked_put old new p mark count groups ranks ranked = λ q k is. elim (cases_place q p) [
  | inl here ↦
      let F : Place → Type 0 = λ x. IsSome (rank_at new x) in
      let own : option_map class_of mark.group ≡ Some k = ap (option_map class_of) (sym groups.here) ∙ (let G : Place → Type 0 = λ x. class_at new x ≡ Some k in subst G here is) in
      subst F (sym here) (ap is_some ranks.here ∙ some mark.group k own)
  | inr elsewhere ↦ ap is_some (ranks.elsewhere q elsewhere) ∙ ranked q k (sym (ap (option_map class_of) (groups.elsewhere q elsewhere)) ∙ is)
]
  where
    some : (o : Option Group) (k : ℕ) → option_map class_of o ≡ Some k → is_some (option_map (λ g. count (class_of g)) o) ≡ true
    some None k is = absurd (not_none k refl is)
    some (Some g) k is = refl

-- the mark at a place left its group, and is then taken out
pub grouped_released : (old left : List SessionEntries) (I I' : GroupIndex) (spare : ℕ) (p : Place) → AreGrouped old I spare → map unranked left ≡ map unranked old → IsGroupIndexOf left I' → rank_at left p ≡ None
    → ((q : Place) → q ≢ p → is_some (rank_at left q) ≡ is_some (rank_at old q)) → p.session < length left → p.at < length (slice_index_or left p.session no_entries).entries → group_room I ≤ group_room I'
    → AreGrouped (slice_set left p.session (with_entry (slice_index_or left p.session no_entries) p.at None)) I' spare
grouped_released old left I I' spare p grouped same index out others there within more =
    let gone : SessionEntries = with_entry (slice_index_or left p.session no_entries) p.at None in
    let new : List SessionEntries = slice_set left p.session gone in
    let groups : DiffersAt (group_at left) (group_at new) p None = groups_changed left new p.session p.at None (set_at left p.session p.at None there within) in
    let ranks : (q : Place) → rank_at new q ≡ rank_at left q = ranks_same left p.session gone refl in
    record {
      index = index_each left new I' I' index (λ q. elim (cases_place q p) [
        | inl here ↦
            let F : Place → Type 0 = λ x. (group_at new x ≡ None) × (rank_at left x ≡ None) in
            let both = subst F (sym here) (groups.here, out) in
            inr (both.0, inr both.1)
        | inr elsewhere ↦ inl (groups.elsewhere q elsewhere, ranks q)
      ]) (λ k r. refl) (λ n k. refl);
      ranked = λ q k is. elim (cases_place q p) [
        | inl here ↦ absurd (not_none k (ap (option_map class_of) groups.here) (let F : Place → Type 0 = λ x. class_at new x ≡ Some k in subst F here is))
        | inr elsewhere ↦
            let before : class_at old q ≡ Some k = sym (unranked_class old left same q) ∙ sym (ap (option_map class_of) (groups.elsewhere q elsewhere)) ∙ is in
            ap is_some (ranks q) ∙ others q elsewhere ∙ grouped.ranked q k before
      ];
      fits = let most = grouped.fits in omega arith;
    }

-- the marks of a session left their groups, and are then taken out
pub grouped_emptied : (old left : List SessionEntries) (I I' : GroupIndex) (spare less s : ℕ) → AreGrouped old I spare → map unranked left ≡ map unranked old → IsGroupIndexOf left I'
    → ((at : ℕ) → at < length (slice_index_or old s no_entries).entries → rank_at left (record { session = s; at = at }) ≡ None)
    → ((q : Place) → q.session ≢ s → is_some (rank_at left q) ≡ is_some (rank_at old q)) → s < length left → less ≤ spare → group_room I ≤ group_room I' → AreGrouped (slice_set left s no_entries) I' less
grouped_emptied old left I I' spare less s grouped same index out others there fewer more =
    let new : List SessionEntries = slice_set left s no_entries in
    let group_gone : (q : Place) → q.session ≡ s → group_at new q ≡ None = λ q here.
    let F : ℕ → Type 0 = λ n. group_in (mark_at new n q.at) ≡ None in
    subst F (sym here) (ap (λ t. group_in (entry_at t.entries q.at)) (get_or-set_same left s no_entries no_entries there)) in
    let group_stays : (q : Place) → q.session ≢ s → group_at new q ≡ group_at left q = λ q ne. ap (λ t. group_in (entry_at t.entries q.at)) (get_or-set_other left s q.session no_entries no_entries ne) in
    let rank_stays : (q : Place) → q.session ≢ s → rank_at new q ≡ rank_at left q = λ q ne. ap (λ t. slice_index_or t.ranks q.at None) (get_or-set_other left s q.session no_entries no_entries ne) in
    record {
      index = index_each left new I' I' index (λ q. elim (cases_eq q.session s) [
        | inl here ↦ inr (
          group_gone q here,
          elim (cases_lt q.at (length (slice_index_or old s no_entries).entries)) [
            | inl below ↦ inr (let F : ℕ → Type 0 = λ n. rank_at left (record { session = n; at = q.at }) ≡ None in subst F (sym here) (out q.at below))
            | inr past ↦
                let F : ℕ → Type 0 = λ n. group_in (mark_at old n q.at) ≡ None in
                inl (unranked_group old left same q ∙ subst F (sym here) (ap group_in (get_or_past (slice_index_or old s no_entries).entries q.at None past)))
          ],
        )
        | inr elsewhere ↦ inl (group_stays q elsewhere, rank_stays q elsewhere)
      ]) (λ k r. refl) (λ n k. refl);
      ranked = λ q k is. elim (cases_eq q.session s) [
        | inl here ↦ absurd (not_none k (ap (option_map class_of) (group_gone q here)) is)
        | inr elsewhere ↦
            let before : class_at old q ≡ Some k = sym (unranked_class old left same q) ∙ sym (ap (option_map class_of) (group_stays q elsewhere)) ∙ is in
            ap is_some (rank_stays q elsewhere) ∙ others q elsewhere ∙ grouped.ranked q k before
      ];
      fits = let most = grouped.fits in omega arith;
    }

-- what that says of the marks that are seen
pub none_everywhere : (tables : List SessionEntries) (group : Group) → ((p : Place) → is_in_group_at tables group p ≡ false) → (s : ℕ) → has_group group (marks_of (map shown tables) s) ≡ false
none_everywhere tables group none s =
    ap (has_group group) (marks_at tables s) ∙ none_passes (is_in_group group) (slice_index_or tables s no_entries).entries (λ k below. none (record { session = s; at = k }))

pub somewhere : (tables : List SessionEntries) (group : Group) (p : Place) → IsTrue (is_in_group_at tables group p) → IsTrue (has_group group (marks_of (map shown tables) p.session))
somewhere tables group p it = ap (has_group group) (marks_at tables p.session) ∙ entry_passes (is_in_group group) (slice_index_or tables p.session no_entries).entries p.at it

pub if_none_given : {X : Type 0} (o : Option X) {P : Type 0} → P → IfNone o P
if_none_given None p = p
if_none_given (Some x) p = tt
