-- What commits do, against what their changes do.
use Rattle.std.proofs.Common.{◌≡◌, ℕ, List, [], ◌∷◌, ◌++◌, max, refl, sym, ap, ◌∙◌}
use Rattle.std.specs.Prelude.{fold}
use Rattle.std.proofs.lemmas.List.Sums.{fold-append}
use Rattle.queue_rows.specs.Rows.{find_message}
use Rattle.queue_rows.specs.Tables.{after_change, after_all, after}
use Rattle.history_laws.specs.Made.{changes_of, after_commits}
use Rattle.queue_rows.specs.declared.tables.Tables.{Tables}
use Rattle.queue_rows.specs.declared.change.Change.{Change}
use Rattle.queue_rows.specs.declared.change.Commit.{Commit}
use Rattle.row_laws.proofs.Latest.{at_latest, all_latest}

pub after_append : (t : Tables) (cs ds : List Change) → after_all t (cs ++ ds) ≡ after_all (after_all t cs) ds
after_append t cs ds = fold-append after_change t cs ds

after_is : (t : Tables) (c : Commit) → after t c ≡ at_latest (max (after_all t c.changes).latest c.moment) (after_all t c.changes)
unfolding after
after_is t c = refl

pub commits_latest : (latest : ℕ) (t : Tables) (commits : List Commit) → (later : ℕ) × (fold after (at_latest latest t) commits ≡ at_latest later (after_all t (changes_of commits)))
commits_latest latest t [] = (latest, refl)
commits_latest latest t (c ∷ commits) =
    let u = at_latest latest t in
    let cs = c.changes in
    let one = all_latest latest t cs in
    let at : after u c ≡ at_latest (max (after_all u cs).latest c.moment) (after_all t cs) = after_is u c ∙ ap (at_latest (max (after_all u cs).latest c.moment)) one.1 in
    let rest = commits_latest (max (after_all u cs).latest c.moment) (after_all t cs) commits in
    (rest.0, ap (λ v. fold after v commits) at ∙ rest.1 ∙ ap (at_latest rest.0) (sym (after_append t cs (changes_of commits))))

pub after_commits_latest : (t : Tables) (commits : List Commit) → (later : ℕ) × (after_commits t commits ≡ at_latest later (after_all t (changes_of commits)))
unfolding after_commits
after_commits_latest t commits = commits_latest t.latest t commits

-- so they leave the same messages
pub finds_after_commits : (t : Tables) (commits : List Commit) (id : ℕ) → find_message (after_commits t commits) id ≡ find_message (after_all t (changes_of commits)) id
finds_after_commits t commits id = ap (λ u. find_message u id) (after_commits_latest t commits).1
