-- How a mark enters the index of groups.
use Rattle.std.proofs.Common.{◌≡◌, ℕ, ◌+◌, List, Bool, false, cond, ◌||◌, inl, inr, Some, None, IsTrue, refl, sym, ap, subst}
use Rattle.std.specs.Option.{option_map}
use Rattle.row_locks.specs.Entries.{SessionEntries, is_same_slot}
use Rattle.row_locks.specs.Groups.{class_of, key_of, group_at, class_at, rank_at, has_names_at, is_same_rank, is_same_class, place_of, count_of, mixed_of, hold_in, counted_in, DiffersAt, HasAlone, IsGroupIndexOf}
use Rattle.row_locks.specs.declared.classes.Place.{Place}
use Rattle.row_locks.specs.declared.groups.GroupIndex.{GroupIndex}
use Rattle.row_locks.specs.declared.groups.GroupKey.{GroupKey}
use Rattle.slot_marks.specs.declared.mark.Group.{Group}
use Rattle.row_locks.proofs.GroupLemmas.{cases_place, index_put}
use Rattle.row_locks.proofs.GroupedLemmas.{index_each}
use Rattle.row_locks.proofs.CountLemmas.{put_counted}
use Rattle.row_locks.proofs.HolderLemmas.{names_are}

-- what the index with the mark has at its key
record IsPut (I I' : GroupIndex) (place : Place) (differs : Bool) (key : GroupKey) : Type 0 where
  pub places : (k r : ℕ) → place_of I'.classes k r ≡ cond (is_same_rank key.names (count_of I.classes key.names) k r) (Some place) (place_of I.classes k r)
  pub totals : (k : ℕ) → count_of I'.classes k ≡ cond (is_same_class key.names k) (count_of I.classes key.names + 1) (count_of I.classes k)
  pub mixed : (k : ℕ) → mixed_of I'.classes k ≡ cond (is_same_class key.names k) (mixed_of I.classes key.names || differs) (mixed_of I.classes k)
  pub holds : (n k : ℕ) → hold_in I'.holds n k ≡ cond (is_same_slot (key.number, key.names) (n, k)) (Some (counted_in place.session (hold_in I.holds key.number key.names))) (hold_in I.holds n k)

pub put_grouped : (tables new : List SessionEntries) (I I' : GroupIndex) (g : Group) (place : Place) (differs : Bool) (key : GroupKey) → key ≡ key_of g → IsGroupIndexOf tables I → group_at tables place ≡ None
    → HasAlone tables place.session (Some g) → (differs ≡ false → (p : Place) → place_of I.classes key.names 0 ≡ Some p → IsTrue (has_names_at tables g.queue g.consumer p))
    → ((k r : ℕ) → place_of I'.classes k r ≡ cond (is_same_rank key.names (count_of I.classes key.names) k r) (Some place) (place_of I.classes k r))
    → ((k : ℕ) → count_of I'.classes k ≡ cond (is_same_class key.names k) (count_of I.classes key.names + 1) (count_of I.classes k))
    → ((k : ℕ) → mixed_of I'.classes k ≡ cond (is_same_class key.names k) (mixed_of I.classes key.names || differs) (mixed_of I.classes k))
    → ((n k : ℕ) → hold_in I'.holds n k ≡ cond (is_same_slot (key.number, key.names) (n, k)) (Some (counted_in place.session (hold_in I.holds key.number key.names))) (hold_in I.holds n k))
    → DiffersAt (group_at tables) (group_at new) place (Some g) → DiffersAt (rank_at tables) (rank_at new) place (Some (count_of I.classes (class_of g))) → IsGroupIndexOf new I'
put_grouped tables new I I' g place differs key is was vacant alone first places totals mixed holds groups ranks =
    let F : GroupKey → Type 0 = λ k. IsPut I I' place differs k in
    let N : GroupKey → Type 0 = λ k. differs ≡ false → (p : Place) → place_of I.classes k.names 0 ≡ Some p → IsTrue (has_names_at tables g.queue g.consumer p) in
    let put = subst F is (record { places = places; totals = totals; mixed = mixed; holds = holds }) in
    let named = subst N is first in
    record {
      index = index_put (class_at tables) (class_at new) (rank_at tables) (rank_at new) (place_of I.classes) (place_of I'.classes) (count_of I.classes) (count_of I'.classes) (class_of g) place was.index
          (ap (option_map class_of) vacant)
          (record { here = ap (option_map class_of) groups.here; elsewhere = λ p off. ap (option_map class_of) (groups.elsewhere p off) })
          ranks put.places put.totals;
      counts = put_counted (group_at tables) (rank_at tables) (place_of I.classes) (place_of I'.classes) (count_of I.classes) (count_of I'.classes) (mixed_of I.classes) (mixed_of I'.classes) (hold_in I.holds) (hold_in I'.holds) g
          was.counts was.index (group_at new) place differs vacant groups put.places put.totals put.mixed put.holds
          (λ p there. alone p g refl there)
          (λ same p h at its. names_are g.queue g.consumer (group_at tables p) (named same p at) h its);
    }

-- a mark in no group is put where there was none
pub put_beside : (tables new : List SessionEntries) (I : GroupIndex) (place : Place) → IsGroupIndexOf tables I → group_at tables place ≡ None → DiffersAt (group_at tables) (group_at new) place None
    → DiffersAt (rank_at tables) (rank_at new) place None → IsGroupIndexOf new I
put_beside tables new I place was vacant groups ranks =
    index_each tables new I I was (λ p. elim (cases_place p place) [
      | inl here ↦
          let F : Place → Type 0 = λ x. (group_at new x ≡ None) × (group_at tables x ≡ None) in
          let both = subst F (sym here) (groups.here, vacant) in
          inr (both.0, inl both.1)
      | inr elsewhere ↦ inl (groups.elsewhere p elsewhere, ranks.elsewhere p elsewhere)
    ]) (λ k r. refl) (λ n k. refl)
