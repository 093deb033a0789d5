-- The groups and ranks of the marks in the tables, and how they follow a change there.
use Rattle.std.proofs.Common.{◌≡◌, ◌≢◌, ℕ, ◌+◌, ◌<◌, List, [], ◌∷◌, ◌++◌, length, map, false, inl, inr, Option, Some, None, is_some, slice_set, slice_index_or, refl, sym, ◌∙◌, ap, subst}
use Rattle.std.specs.List.{fold}
use Rattle.std.specs.Option.{option_map}
use Rattle.std.proofs.lemmas.Bool.{cases_eq}
use Rattle.std.proofs.lemmas.List.{length-map, get_or-set_same, get_or-set_other}
use Rattle.std.proofs.Math.Seq.{get_or-append_seam, map-set_same}
use Rattle.std.proofs.Math.ListN.{get_or-map}
use Rattle.row_locks.specs.Entries.{SessionEntries, no_entries, shown, unranked, entry_at, mark_at, all_spare, with_mark, with_rank}
use Rattle.row_locks.specs.Groups.{class_of, group_in, group_at, class_at, rank_at, DiffersAt}
use Rattle.row_locks.specs.declared.classes.Place.{Place}
use Rattle.slot_marks.specs.declared.mark.Mark.{Mark}
use Rattle.row_locks.proofs.GroupLemmas.{not_none}
use Rattle.row_locks.proofs.IndexLemmas.{within}
use Rattle.row_locks.proofs.TableLemmas.{Changes, beside_last, session_there}

-- where one entry changes, one group may
pub groups_changed : (old new : List SessionEntries) (s at : ℕ) (e : Option Mark) → Changes old new s at e → DiffersAt (group_at old) (group_at new) (record { session = s; at = at }) (group_in e)
groups_changed old new s at e change = record {
  here = ap group_in change.here;
  elsewhere = λ p off. ap group_in (elim (cases_eq p.session s) [
    | inl same ↦
        let beside : p.at ≢ at = λ k. off (λ i. record { session = same i; at = k i }) in
        let P : ℕ → Type 0 = λ n. mark_at new n p.at ≡ mark_at old n p.at in
        subst P (sym same) (change.beside p.at beside)
    | inr other ↦ change.others p.session p.at other
  ]);
}

-- where the ranks of one session change at one place, one rank does
ranks_changed : (tables : List SessionEntries) (s at : ℕ) (table : SessionEntries) (rank : Option ℕ) → s < length tables → slice_index_or table.ranks at None ≡ rank
    → ((k : ℕ) → k ≢ at → slice_index_or table.ranks k None ≡ slice_index_or (slice_index_or tables s no_entries).ranks k None)
    → DiffersAt (rank_at tables) (rank_at (slice_set tables s table)) (record { session = s; at = at }) rank
ranks_changed tables s at table rank there here beside =
    let own : (slice_index_or (slice_set tables s table) s no_entries).ranks ≡ table.ranks = ap (λ t. t.ranks) (get_or-set_same tables s table no_entries there) in
    record {
      here = ap (λ ranks. slice_index_or ranks at None) own ∙ here;
      elsewhere = λ p off. elim (cases_eq p.session s) [
        | inl same ↦
            let apart : p.at ≢ at = λ k. off (λ i. record { session = same i; at = k i }) in
            let P : ℕ → Type 0 = λ n. slice_index_or (slice_index_or (slice_set tables s table) n no_entries).ranks p.at None ≡ slice_index_or (slice_index_or tables n no_entries).ranks p.at None in
            subst P (sym same) (ap (λ ranks. slice_index_or ranks p.at None) own ∙ beside p.at apart)
        | inr other ↦ ap (λ t. slice_index_or t.ranks p.at None) (get_or-set_other tables s p.session table no_entries other)
      ];
    }

pub rank_put : (tables : List SessionEntries) (s : ℕ) (mark : Mark) (rank : Option ℕ) → s < length tables
    → length (slice_index_or tables s no_entries).ranks ≡ length (slice_index_or tables s no_entries).entries
    → DiffersAt (rank_at tables) (rank_at (slice_set tables s (with_mark (slice_index_or tables s no_entries) mark rank))) (record { session = s; at = length (slice_index_or tables s no_entries).entries }) rank
rank_put tables s mark rank there whole =
    let ranks = (slice_index_or tables s no_entries).ranks in
    ranks_changed tables s (length (slice_index_or tables s no_entries).entries) (with_mark (slice_index_or tables s no_entries) mark rank) rank there
    (ap (λ n. slice_index_or (ranks ++ rank ∷ []) n None) (sym whole) ∙ get_or-append_seam ranks rank [] None)
    (λ k off. beside_last ranks rank k (λ e. off (e ∙ whole)))

pub rank_set : (tables : List SessionEntries) (p : Place) (rank : Option ℕ) → p.session < length tables → p.at < length (slice_index_or tables p.session no_entries).entries
    → length (slice_index_or tables p.session no_entries).ranks ≡ length (slice_index_or tables p.session no_entries).entries
    → DiffersAt (rank_at tables) (rank_at (slice_set tables p.session (with_rank (slice_index_or tables p.session no_entries) p.at rank))) p rank
rank_set tables p rank there here whole =
    let ranks = (slice_index_or tables p.session no_entries).ranks in
    let inside : p.at < length ranks = rw whole here in
    ranks_changed tables p.session p.at (with_rank (slice_index_or tables p.session no_entries) p.at rank) rank there
    (get_or-set_same ranks p.at rank None inside)
    (λ k off. get_or-set_other ranks p.at k rank None off)

-- a change of ranks alone
pub unranked_set : (tables : List SessionEntries) (s at : ℕ) (rank : Option ℕ) → map unranked (slice_set tables s (with_rank (slice_index_or tables s no_entries) at rank)) ≡ map unranked tables
unranked_set tables s at rank = map-set_same unranked tables s (with_rank (slice_index_or tables s no_entries) at rank) no_entries refl

pub unranked_at : (old new : List SessionEntries) → map unranked new ≡ map unranked old → (s : ℕ) → unranked (slice_index_or new s no_entries) ≡ unranked (slice_index_or old s no_entries)
unranked_at old new same s = sym (get_or-map unranked new s no_entries) ∙ ap (λ tables. slice_index_or tables s no_entries) same ∙ get_or-map unranked old s no_entries

pub unranked_length : (old new : List SessionEntries) → map unranked new ≡ map unranked old → length new ≡ length old
unranked_length old new same = sym (length-map new unranked) ∙ ap length same ∙ length-map old unranked

pub unranked_mark : (old new : List SessionEntries) → map unranked new ≡ map unranked old → (s k : ℕ) → mark_at new s k ≡ mark_at old s k
unranked_mark old new same s k = ap (λ t. entry_at t.entries k) (unranked_at old new same s)

pub unranked_group : (old new : List SessionEntries) → map unranked new ≡ map unranked old → (p : Place) → group_at new p ≡ group_at old p
unranked_group old new same p = ap group_in (unranked_mark old new same p.session p.at)

pub unranked_spare : (old new : List SessionEntries) → map unranked new ≡ map unranked old → all_spare new ≡ all_spare old
unranked_spare old new same = room 0 new ∙ ap all_spare same ∙ sym (room 0 old)
  where
    room : (n : ℕ) (tables : List SessionEntries) → fold (λ a t. a + t.spare) n tables ≡ fold (λ a t. a + t.spare) n (map unranked tables)
    room n [] = refl
    room n (t ∷ ts) = room (n + t.spare) ts

-- where the entries of a session are as they were
pub groups_same : (tables : List SessionEntries) (s : ℕ) (table : SessionEntries) → table.entries ≡ (slice_index_or tables s no_entries).entries → (p : Place) → group_at (slice_set tables s table) p ≡ group_at tables p
groups_same tables s table same p =
    let entries : (ts : List SessionEntries) → slice_index_or (map (λ t. t.entries) ts) p.session [] ≡ (slice_index_or ts p.session no_entries).entries = λ ts. get_or-map (λ t. t.entries) ts p.session no_entries in
    ap (λ es. group_in (entry_at es p.at))
    (sym (entries (slice_set tables s table)) ∙ ap (λ ess. slice_index_or ess p.session []) (map-set_same (λ t. t.entries) tables s table no_entries same) ∙ entries tables)

pub unranked_class : (old new : List SessionEntries) → map unranked new ≡ map unranked old → (p : Place) → class_at new p ≡ class_at old p
unranked_class old new same p = ap (option_map class_of) (unranked_group old new same p)

-- where the ranks of a session are as they were
pub ranks_same : (tables : List SessionEntries) (s : ℕ) (table : SessionEntries) → table.ranks ≡ (slice_index_or tables s no_entries).ranks → (p : Place) → rank_at (slice_set tables s table) p ≡ rank_at tables p
ranks_same tables s table same p =
    let ranks : (ts : List SessionEntries) → slice_index_or (map (λ t. t.ranks) ts) p.session [] ≡ (slice_index_or ts p.session no_entries).ranks = λ ts. get_or-map (λ t. t.ranks) ts p.session no_entries in
    ap (λ rs. slice_index_or rs p.at None)
    (sym (ranks (slice_set tables s table)) ∙ ap (λ rss. slice_index_or rss p.session []) (map-set_same (λ t. t.ranks) tables s table no_entries same) ∙ ranks tables)

-- where the mark with a class stands
pub class_there : (tables : List SessionEntries) (p : Place) (k : ℕ) → class_at tables p ≡ Some k → (p.session < length tables) × (p.at < length (slice_index_or tables p.session no_entries).entries)
class_there tables p k is = by (mark_at tables p.session p.at) refl
  where
    by : (m : Option Mark) → mark_at tables p.session p.at ≡ m → (p.session < length tables) × (p.at < length (slice_index_or tables p.session no_entries).entries)
    by None none = absurd (not_none k (ap (λ m. option_map class_of (group_in m)) none) is)
    by (Some m) some = (session_there tables p.session p.at m some, within (slice_index_or tables p.session no_entries).entries p.at m some)

pub unranked_entries : (old new : List SessionEntries) → map unranked new ≡ map unranked old → (s : ℕ) → length (slice_index_or new s no_entries).entries ≡ length (slice_index_or old s no_entries).entries
unranked_entries old new same s = ap (λ t. length t.entries) (unranked_at old new same s)

pub still_none : {A : Type 0} (o : Option A) → is_some o ≡ false → o ≡ None
still_none None e = refl
still_none (Some x) e = cc e

pub unranked_shown : (old new : List SessionEntries) → map unranked new ≡ map unranked old → map shown new ≡ map shown old
unranked_shown old new same = seen new ∙ ap (map shown) same ∙ sym (seen old)
  where
    seen : (tables : List SessionEntries) → map shown tables ≡ map shown (map unranked tables)
    seen [] = refl
    seen (t ∷ ts) = ap (λ rest. shown t ∷ rest) (seen ts)
