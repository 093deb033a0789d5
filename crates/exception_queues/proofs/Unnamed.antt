-- What changes settle that name no message.
use Rattle.std.proofs.Common.{◌≡◌, ℕ, List, [], ◌∷◌, ◌++◌, false, ◌||◌, is_some, Option, Some, None, refl, ◌∙◌, ap, append-nil}
use Rattle.std.specs.List.{fold, flat_map, list_any}
use Rattle.std.proofs.lemmas.Bool.{true≢false}
use Rattle.queue_rows.specs.Settling.{named_by, with_name, settling, settled}
use Rattle.queue_rows.specs.declared.tables.Tables.{Tables}
use Rattle.queue_rows.specs.declared.change.Change.{Change}

by_name : (cs : List Change) (ids : List ℕ) (name : Option ℕ) → (list_any (λ c. is_some (named_by c)) cs ≡ false → fold (λ ids c. with_name ids (named_by c)) ids cs ≡ ids)
    → is_some name || list_any (λ c. is_some (named_by c)) cs ≡ false → fold (λ ids c. with_name ids (named_by c)) (with_name ids name) cs ≡ ids
by_name cs ids None rest none = rest none
by_name cs ids (Some id) rest none = absurd (true≢false none)

unnamed : (cs : List Change) (ids : List ℕ) → list_any (λ c. is_some (named_by c)) cs ≡ false → fold (λ ids c. with_name ids (named_by c)) ids cs ≡ ids
unnamed [] ids none = refl
unnamed (c ∷ cs) ids none = by_name cs ids (named_by c) (unnamed cs ids) none

-- they settle nothing
pub settles_none : (t : Tables) (cs : List Change) → list_any (λ c. is_some (named_by c)) cs ≡ false → settled t cs ≡ cs
settles_none t cs none = ap (λ ids. cs ++ flat_map (settling t cs) ids) (unnamed cs [] none) ∙ append-nil cs
