-- Changes that lead from tables to tables, one list behind the other.
use Rattle.std.proofs.Common.{◌≡◌, true, List, [], ◌∷◌, ◌++◌, map, refl, sym, ap, ◌∙◌, append_assoc}
use Rattle.std.proofs.lemmas.Bool.{and_from, and_parts}
use Rattle.std.proofs.lemmas.List.{append-nil}
use Rattle.std.proofs.lemmas.List.Sums.{fold-append}
use Rattle.queue_rows.specs.Fits.{all_name_what_is_there, names_what_is_there}
use Rattle.queue_rows.specs.Tables.{after_all, after_change}
use Rattle.queue_rows.specs.declared.change.Change.{Change}
use Rattle.queue_rows.specs.declared.tables.Tables.{Tables}

-- each change names what is there when it comes, and all of them lead there
pub record Leads (t : Tables) (cs : List Change) (u : Tables) : Type 0 where
  pub names : all_name_what_is_there t cs ≡ true
  pub leads : after_all t cs ≡ u

names_behind : (cs ds : List Change) (t : Tables) → all_name_what_is_there t cs ≡ true → all_name_what_is_there (after_all t cs) ds ≡ true
    → all_name_what_is_there t (cs ++ ds) ≡ true
names_behind [] ds t h g = g
names_behind (c ∷ cs) ds t h g =
    let p = and_parts (names_what_is_there t c) (all_name_what_is_there (after_change t c) cs) h in
    and_from (names_what_is_there t c) (all_name_what_is_there (after_change t c) (cs ++ ds)) p.0 (names_behind cs ds (after_change t c) p.1 g)

pub joined : (t u w : Tables) (cs ds : List Change) → Leads t cs u → Leads u ds w → Leads t (cs ++ ds) w
joined t u w cs ds g h = record {
  names = names_behind cs ds t g.names (ap (λ (x : Tables). all_name_what_is_there x ds) g.leads ∙ h.names);
  leads = fold-append after_change t cs ds ∙ ap (λ (x : Tables). after_all x ds) g.leads ∙ h.leads;
}

-- all rows of a list are put, where each goes behind those before it
module _ {R : Type 0} (put : R → Change) (with_rows : List R → Tables) (rows : List R) (goes : (before : List R) (row : R) (behind : List R) → before ++ row ∷ behind ≡ rows → Leads (with_rows before) (put row ∷ []) (with_rows (before ++ row ∷ []))) where
  go_from : (before behind : List R) → before ++ behind ≡ rows → Leads (with_rows before) (map put behind) (with_rows rows)
  go_from before [] is = record { names = refl; leads = ap with_rows (sym (append-nil before) ∙ is) }
  go_from before (row ∷ behind) is =
      joined (with_rows before) (with_rows (before ++ row ∷ [])) (with_rows rows) (put row ∷ []) (map put behind) (goes before row behind is)
      (go_from (before ++ row ∷ []) behind (append_assoc before (row ∷ []) behind ∙ is))

  pub all_go : Leads (with_rows []) (map put rows) (with_rows rows)
  all_go = go_from [] rows refl
