-- How a mark leaves the index of groups: its rank is taken away, and the last mark of its class takes it over.
use Rattle.std.proofs.Common.{◌≡◌, ◌≢◌, ℕ, ◌<◌, ◌-◌, ◌==◌, cond, List, length, map, inl, inr, Option, Some, None, is_some, slice_set, slice_index_or, refl, sym, ◌∙◌, ap, subst}
use Rattle.std.specs.Option.{option_map}
use Rattle.row_locks.specs.Entries.{SessionEntries, no_entries, is_same_slot, unranked, with_rank}
use Rattle.row_locks.specs.Groups.{class_of, key_of, group_at, class_at, is_same_rank, is_same_class, rank_at, place_of, count_of, mixed_of, hold_in, counted_out, DiffersAt, IsDense, IsClassIndex, AreCounted, IsGroupIndexOf}
use Rattle.row_locks.specs.declared.classes.Place.{Place}
use Rattle.row_locks.specs.declared.groups.GroupIndex.{GroupIndex}
use Rattle.row_locks.specs.declared.groups.GroupKey.{GroupKey}
use Rattle.slot_marks.specs.declared.mark.Group.{Group}
use Rattle.row_locks.proofs.CountLemmas.{counted_same, take_counted}
use Rattle.row_locks.proofs.GroupLemmas.{cases_place, not_none, same_some, rank_below, index_same, index_taken, index_beside, moved_last}
use Rattle.row_locks.proofs.PlaceLemmas.{rank_set, unranked_set, unranked_group, unranked_class, unranked_length, unranked_entries, class_there}

-- the tables with another rank at a place
abbrev pub ranked_at : List SessionEntries → Place → Option ℕ → List SessionEntries
ranked_at tables p rank = slice_set tables p.session (with_rank (slice_index_or tables p.session no_entries) p.at rank)

module _ (old one : List SessionEntries) (P : ℕ → ℕ → Option Place) (C : ℕ → ℕ) (p : Place) (there : p.session < length old) (within : p.at < length (slice_index_or old p.session no_entries).entries)
    (index : IsClassIndex (class_at old) (rank_at old) P C) (took : one ≡ ranked_at old p None)
    (whole : length (slice_index_or old p.session no_entries).ranks ≡ length (slice_index_or old p.session no_entries).entries) where
  pub same : map unranked one ≡ map unranked old
  same = ap (λ ts. map unranked ts) took ∙ unranked_set old p.session p.at None

  ranks : DiffersAt (rank_at old) (rank_at one) p None
  ranks = let F : List SessionEntries → Type 0 = λ ts. DiffersAt (rank_at old) (rank_at ts) p None in subst F (sym took) (rank_set old p None there within whole)

  -- it has no key, and was not in the index
  pub left_none : class_at one p ≡ None → IsClassIndex (class_at one) (rank_at one) P C
  left_none none =
      let before : class_at old p ≡ None = sym (unranked_class old one same p) ∙ none in
      index_beside (class_at old) (class_at one) (rank_at old) (rank_at one) P C p None index before (record { here = none; elsewhere = λ q off. unranked_class old one same q }) ranks

  module _ (key : ℕ) (rank : ℕ) (its_key : class_at one p ≡ Some key) (its_rank : rank_at old p ≡ Some rank) where
    before : class_at old p ≡ Some key
    before = sym (unranked_class old one same p) ∙ its_key

    pub left_below : rank < C key
    left_below = rank_below (class_at old) (rank_at old) P C p key rank index before its_rank

    module _ (moved : Option Place) (P' : ℕ → ℕ → Option Place) (C' : ℕ → ℕ) (told : moved ≡ cond (rank == C key - 1) None (P key (C key - 1)))
        (places : (k : ℕ) (r : ℕ) → P' k r ≡ cond (is_same_rank key (C key - 1) k r) None (cond (is_same_rank key rank k r) (P key (C key - 1)) (P k r)))
        (counts : (k : ℕ) → C' k ≡ cond (is_same_class key k) (C key - 1) (C k)) where
      -- no mark takes the rank over
      pub left_alone : moved ≡ None → IsClassIndex (class_at one) (rank_at one) P' C'
      left_alone none =
          let taken = index_taken (class_at old) (rank_at old) (rank_at one) P P' C C' key rank p moved index before its_rank told ranks.here
          (λ q it. absurd (not_none q none it)) (λ q off not_it. ranks.elsewhere q off) places counts in
          index_same (class_at old) (class_at one) (rank_at one) (rank_at one) P' P' C' C' taken (λ q. inl (unranked_class old one same q, refl)) (λ k r. refl) (λ k. refl)

      module _ (q : Place) (it : moved ≡ Some q) where
        -- the mark that takes it over is another one, of the same key
        over_key : (class_at old q ≡ Some key) × (rank_at old q ≡ Some (C key - 1)) × (q ≢ p)
        over_key =
            let last = moved_last P C key rank moved q told it in
            let own = index.real key (C key - 1) q last.1 in
            let F : Place → Type 0 = λ x. rank_at old x ≡ Some (C key - 1) in
            (own.0, own.1, λ e. last.0 (same_some rank (C key - 1) (sym its_rank ∙ subst F e own.1)))

        pub over_there : (q.session < length one) × (q.at < length (slice_index_or one q.session no_entries).entries)
        over_there =
            let inside = class_there old q key over_key.0 in
            (rw (unranked_length old one same) inside.0, rw (unranked_entries old one same q.session) inside.1)

        module _ (two : List SessionEntries) (gave : two ≡ ranked_at one q (Some rank))
            (still_whole : length (slice_index_or one q.session no_entries).ranks ≡ length (slice_index_or one q.session no_entries).entries) where
          over : DiffersAt (rank_at one) (rank_at two) q (Some rank)
          over = let F : List SessionEntries → Type 0 = λ ts. DiffersAt (rank_at one) (rank_at ts) q (Some rank) in subst F (sym gave) (rank_set one q (Some rank) over_there.0 over_there.1 still_whole)

          pub same_with : map unranked two ≡ map unranked old
          same_with = ap (λ ts. map unranked ts) gave ∙ unranked_set one q.session q.at (Some rank) ∙ same

          pub left_out : rank_at two p ≡ None
          left_out = over.elsewhere p (λ e. over_key.2 (sym e)) ∙ ranks.here

          pub left_with : IsClassIndex (class_at two) (rank_at two) P' C'
          left_with =
              let taken = index_taken (class_at old) (rank_at old) (rank_at two) P P' C C' key rank p moved index before its_rank told left_out
              (λ x is. let F : Place → Type 0 = λ y. rank_at two y ≡ Some rank in subst F (same_some q x (sym it ∙ is)) over.here)
              (λ x off not_it. over.elsewhere x (λ e. not_it (it ∙ ap Some (sym e))) ∙ ranks.elsewhere x off) places counts in
              index_same (class_at old) (class_at two) (rank_at two) (rank_at two) P' P' C' C' taken (λ x. inl (unranked_class old two same_with x, refl)) (λ k r. refl) (λ k. refl)

          pub left_others : (x : Place) → x ≢ p → is_some (rank_at two x) ≡ is_some (rank_at old x)
          left_others x off = elim (cases_place x q) [
            | inl here ↦
                let F : Place → Type 0 = λ y. is_some (rank_at two y) ≡ is_some (rank_at old y) in
                subst F (sym here) (ap is_some over.here ∙ sym (ap is_some over_key.1))
            | inr elsewhere ↦ ap is_some (over.elsewhere x elsewhere ∙ ranks.elsewhere x off)
          ]

-- its class is that of its key
pub key_class : (o : Option Group) (key : GroupKey) → option_map key_of o ≡ Some key → option_map class_of o ≡ Some key.names
key_class None key is = absurd (not_none key refl is)
key_class (Some g) key is = ap (option_map (λ k. k.names)) is

pub no_class : (o : Option Group) → option_map key_of o ≡ None → option_map class_of o ≡ None
no_class None is = refl
no_class (Some g) is = absurd (not_none (key_of g) is refl)

-- the groups are as they were
pub counted_still : (old new : List SessionEntries) (I : GroupIndex) → map unranked new ≡ map unranked old → IsGroupIndexOf old I
    → AreCounted (group_at new) (place_of I.classes) (count_of I.classes) (mixed_of I.classes) (hold_in I.holds)
counted_still old new I same was =
    counted_same (group_at old) (group_at new) (place_of I.classes) (count_of I.classes) (mixed_of I.classes) (hold_in I.holds) was.counts (λ k r q is. unranked_group old new same q)

-- what the index without the mark has at its key
record IsTaken (I I' : GroupIndex) (rank : ℕ) (key : GroupKey) : Type 0 where
  pub places : (k r : ℕ) → place_of I'.classes k r ≡ cond (is_same_rank key.names (count_of I.classes key.names - 1) k r) None (cond (is_same_rank key.names rank k r) (place_of I.classes key.names (count_of I.classes key.names - 1)) (place_of I.classes k r))
  pub totals : (k : ℕ) → count_of I'.classes k ≡ cond (is_same_class key.names k) (count_of I.classes key.names - 1) (count_of I.classes k)
  pub holds : (n k : ℕ) → hold_in I'.holds n k ≡ cond (is_same_slot (key.number, key.names) (n, k)) (counted_out (hold_in I.holds key.number key.names)) (hold_in I.holds n k)

-- the counts are those of the marks that are left
pub left_counted : (old one new : List SessionEntries) (I I' : GroupIndex) (p : Place) (key : GroupKey) (rank : ℕ) → map unranked one ≡ map unranked old → map unranked new ≡ map unranked old → IsGroupIndexOf old I
    → option_map key_of (group_at one p) ≡ Some key → rank_at old p ≡ Some rank → IsDense (place_of I'.classes) (count_of I'.classes)
    → ((k r : ℕ) → place_of I'.classes k r ≡ cond (is_same_rank key.names (count_of I.classes key.names - 1) k r) None (cond (is_same_rank key.names rank k r) (place_of I.classes key.names (count_of I.classes key.names - 1)) (place_of I.classes k r)))
    → ((k : ℕ) → count_of I'.classes k ≡ cond (is_same_class key.names k) (count_of I.classes key.names - 1) (count_of I.classes k))
    → ((k : ℕ) → 0 < count_of I'.classes k → mixed_of I'.classes k ≡ mixed_of I.classes k)
    → ((n k : ℕ) → hold_in I'.holds n k ≡ cond (is_same_slot (key.number, key.names) (n, k)) (counted_out (hold_in I.holds key.number key.names)) (hold_in I.holds n k))
    → AreCounted (group_at new) (place_of I'.classes) (count_of I'.classes) (mixed_of I'.classes) (hold_in I'.holds)
left_counted old one new I I' p key rank same_one same_new was its at dense places totals mixed holds =
    by (group_at old p) refl (ap (option_map key_of) (sym (unranked_group old one same_one p)) ∙ its)
  where
    by : (o : Option Group) → group_at old p ≡ o → option_map key_of (group_at old p) ≡ Some key → AreCounted (group_at new) (place_of I'.classes) (count_of I'.classes) (mixed_of I'.classes) (hold_in I'.holds)
    by None none e = absurd (not_none key (ap (option_map key_of) none) e)
    by (Some g) is e =
        let its_key : key ≡ key_of g = same_some key (key_of g) (sym e ∙ ap (option_map key_of) is) in
        let taken : IsTaken I I' rank key = record { places = places; totals = totals; holds = holds } in
        let F : GroupKey → Type 0 = λ k. IsTaken I I' rank k in
        let told = subst F its_key taken in
        let stands : place_of I.classes (class_of g) rank ≡ Some p = was.index.found p (class_of g) rank (ap (option_map class_of) is) at in
        counted_same (group_at old) (group_at new) (place_of I'.classes) (count_of I'.classes) (mixed_of I'.classes) (hold_in I'.holds)
        (take_counted (group_at old) (rank_at old) (place_of I.classes) (place_of I'.classes) (count_of I.classes) (count_of I'.classes) (mixed_of I.classes) (mixed_of I'.classes) (hold_in I.holds) (hold_in I'.holds) g
        was.counts was.index rank p is stands dense told.places told.totals mixed told.holds)
        (λ k r q there. unranked_group old new same_new q)
