-- Which slots the commit of a session names, and which messages it puts in.
use Rattle.std.proofs.Common.{◌≡◌, ◌<◌, ℕ, List, [], ◌∷◌, true, false, refl, ap, ◌∙◌, ◌==◌, ◌&&◌, ◌||◌}
use Rattle.std.specs.Prelude.{flat_map, nat_lt, All}
use Rattle.std.specs.List.{list_any, list_all}
use Rattle.std.proofs.lemmas.Bool.{and_from, lt-ltb}
use Rattle.std.proofs.lemmas.List.Elements.{All-head, All-tail}
use Rattle.queue_rows.specs.Tables.{after_change}
use Rattle.queue_rows.specs.Settling.{settling, names_of}
use Rattle.queue_rows.specs.Commits.{completed, changes_from, commit_of}
use Rattle.queue_rows.specs.declared.tables.Tables.{Tables}
use Rattle.queue_rows.specs.declared.session.Pending.{Pending}
use Rattle.queue_rows.specs.declared.session.Pending.TheVariants.{Add, Remove}
use Rattle.queue_rows.specs.declared.change.Change.TheVariants as changes
use Rattle.valid_laws.specs.Touching.{is_of_slot, puts_in, is_put_in, puts_below}
use Rattle.valid_laws.proofs.Doing.{all-append}
use Rattle.valid_laws.proofs.Framing.{any_append, settled_none, below_if_none}
use Rattle.valid_laws.proofs.Saying.{completed_id}
use Rattle.statement_laws.specs.Sessions.{is_removal_of, is_addition_of}
use Rattle.statement_laws.specs.SessionLaws.{IsGiven}

changes_name : (id slot : ℕ) (rest : List Pending) (t : Tables) (group moment : ℕ) → list_any (is_of_slot id slot) (changes_from t group moment rest) ≡ list_any (is_removal_of id slot) rest
changes_name id slot [] t group moment = refl
changes_name id slot (Add m ∷ more) t group moment = changes_name id slot more (after_change t (changes.Enqueued (completed t group moment m))) group moment
changes_name id slot (Remove named a ∷ more) t group moment = ap (λ b. ((named == id) && (a == slot)) || b) (changes_name id slot more (after_change t (changes.Done named a moment)) group moment)

changes_put : (id : ℕ) (rest : List Pending) (t : Tables) (group moment : ℕ) → list_any (puts_in id) (changes_from t group moment rest) ≡ list_any (is_addition_of id) rest
changes_put id [] t group moment = refl
changes_put id (Add m ∷ more) t group moment =
    let c = changes.Enqueued (completed t group moment m) in
    ap (λ n. (n == id) || list_any (puts_in id) (changes_from (after_change t c) group moment more)) (completed_id t group moment m) ∙ ap (λ b. (m.id == id) || b) (changes_put id more (after_change t c) group moment)
changes_put id (Remove named a ∷ more) t group moment = changes_put id more (after_change t (changes.Done named a moment)) group moment

changes_below : (n : ℕ) (rest : List Pending) (t : Tables) (group moment : ℕ) → All (IsGiven n) rest → list_all (puts_below n) (changes_from t group moment rest) ≡ true
changes_below n [] t group moment h = refl
changes_below n (Add m ∷ more) t group moment h =
    let c = changes.Enqueued (completed t group moment m) in
    let lt : m.id < n = All-head (IsGiven n) (Add m) more h in
    and_from (nat_lt (completed t group moment m).id n) (list_all (puts_below n) (changes_from (after_change t c) group moment more))
    (ap (λ k. nat_lt k n) (completed_id t group moment m) ∙ lt-ltb m.id n lt) (changes_below n more (after_change t c) group moment (All-tail (IsGiven n) (Add m) more h))
changes_below n (Remove named a ∷ more) t group moment h = changes_below n more (after_change t (changes.Done named a moment)) group moment (All-tail (IsGiven n) (Remove named a) more h)

pub commit_names : (id slot : ℕ) (t : Tables) (moment : ℕ) (pending : List Pending) → list_any (is_removal_of id slot) pending ≡ false → list_any (is_of_slot id slot) (commit_of t moment pending) ≡ false
commit_names id slot t moment pending h =
    let cs = changes_from t t.transaction moment pending in
    any_append (is_of_slot id slot) cs (flat_map (settling t cs) (names_of cs)) (changes_name id slot pending t t.transaction moment ∙ h) (settled_none (is_of_slot id slot) (λ n queue at. refl) (λ n. refl) t cs)

pub commit_puts : (id : ℕ) (t : Tables) (moment : ℕ) (pending : List Pending) → list_any (is_addition_of id) pending ≡ false → list_any (puts_in id) (commit_of t moment pending) ≡ false
commit_puts id t moment pending h =
    let cs = changes_from t t.transaction moment pending in
    any_append (puts_in id) cs (flat_map (settling t cs) (names_of cs)) (changes_put id pending t t.transaction moment ∙ h) (settled_none (puts_in id) (λ n queue at. refl) (λ n. refl) t cs)

pub commit_below : (n : ℕ) (t : Tables) (moment : ℕ) (pending : List Pending) → All (IsGiven n) pending → list_all (puts_below n) (commit_of t moment pending) ≡ true
commit_below n t moment pending h =
    let cs = changes_from t t.transaction moment pending in
    all-append (puts_below n) cs (flat_map (settling t cs) (names_of cs)) (changes_below n pending t t.transaction moment h)
    (below_if_none n (flat_map (settling t cs) (names_of cs)) (settled_none is_put_in (λ m queue at. refl) (λ m. refl) t cs))
