-- What one entry more commits.
use Rattle.std.proofs.Common.{◌≡◌, ℕ, ◌+◌, ◌⊎◌, inl, inr, List, [], ◌∷◌, ◌++◌, Bool, true, false, refl, sym, ap, ◌∙◌, arith, Some, None, ◌==◌, length, append-nil, length-append, suc}
use Rattle.std.specs.Prelude.{fold, count_by, if◌then◌else◌}
use Rattle.std.specs.List.{cons_option}
use Rattle.std.proofs.lemmas.Bool.{eqb-true, and_parts, and_from}
use Rattle.std.proofs.lemmas.Grind.{flat_map-append}
use Rattle.std.proofs.lemmas.List.Sums.{fold-append, sum_by-cons, sum_by-append}
use Rattle.std.proofs.lemmas.List.Elements.{filter_map-append}
use Rattle.aq_base.specs.declared.DbId.{DbId}
use Rattle.queue_rows.specs.Tables.{after}
use Rattle.queue_rows.specs.Fits.{fits}
use Rattle.queue_rows.specs.World.{committed_tables, commits_in}
use Rattle.queue_rows.specs.declared.tables.Tables.{Tables}
use Rattle.queue_rows.specs.declared.change.Change.{Change}
use Rattle.queue_rows.specs.declared.change.Commit.{Commit}
use Rattle.queue_rows.specs.declared.history.Entry.{Entry}
use Rattle.history_laws.specs.Made.{changes_at, commit_at, commits_of, changes_of, after_commits}
use Rattle.history_laws.specs.LegalFates.{all_fit}

pub empty_if : {X : Type 0} (xs : List X) → (length xs == 0) ≡ true → xs ≡ []
empty_if [] e = refl
empty_if (x ∷ xs) e = absurd (let no : suc (length xs) ≡ 0 = eqb-true (length (x ∷ xs)) 0 e in omega (arith, no))

-- one commit more that fits
fit-last : (t : Tables) (xs : List Commit) (c : Commit) → all_fit t xs ≡ true → fits (after_commits t xs) c ≡ true → all_fit t (xs ++ c ∷ []) ≡ true
unfolding after_commits
fit-last t [] c h f = and_from (fits t c) true f refl
fit-last t (x ∷ xs) c h f = let p = and_parts (fits t x) (all_fit (after t x) xs) h in and_from (fits t x) (all_fit (after t x) (xs ++ c ∷ [])) p.0 (fit-last (after t x) xs c p.1 f)

-- these commits, and one of these changes, where there are any
module _ (xs : List Commit) (moment : ℕ) (cs : List Change) where
  abbrev commit_here : Commit
  commit_here = record { moment = moment; changes = cs }

  abbrev behind : Bool → List Commit
  behind b = xs ++ cons_option (if b then None else Some commit_here) []

  tables_by : (opening : Tables) (b : Bool) → after_commits opening (behind b) ≡ (if b then after_commits opening xs else after (after_commits opening xs) commit_here)
  unfolding after_commits
  tables_by opening true = ap (fold after opening) (append-nil xs)
  tables_by opening false = fold-append after opening xs (commit_here ∷ [])

  changes_by : (b : Bool) → (length cs == 0) ≡ b → changes_of (behind b) ≡ changes_of xs ++ cs
  changes_by true e = ap changes_of (append-nil xs) ∙ sym (append-nil (changes_of xs)) ∙ ap (λ ds. changes_of xs ++ ds) (sym (empty_if cs e))
  changes_by false e = flat_map-append (λ c. c.changes) xs (commit_here ∷ []) ∙ ap (λ ds. changes_of xs ++ ds) (append-nil cs)

  fit_by : (opening : Tables) (b : Bool) → all_fit opening xs ≡ true → fits (after_commits opening xs) commit_here ≡ true → all_fit opening (behind b) ≡ true
  fit_by opening true h f = ap (all_fit opening) (append-nil xs) ∙ h
  fit_by opening false h f = fit-last opening xs commit_here h f

  length_by : (b : Bool) → length (behind b) ≡ length xs + (if b then 0 else 1)
  length_by true = ap length (append-nil xs) ∙ omega arith
  length_by false = length-append xs (commit_here ∷ [])

module _ (db : DbId) (entries : List Entry) (e : Entry) where
  all-more : commits_of db (entries ++ e ∷ []) ≡ commits_of db entries ++ cons_option (commit_at db e) []
  all-more = filter_map-append (commit_at db) entries (e ∷ [])

  pub tables-more : (opening : Tables) → after_commits opening (commits_of db (entries ++ e ∷ [])) ≡ committed_tables (after_commits opening (commits_of db entries)) (changes_at db e) e.moment
  tables-more opening = ap (after_commits opening) all-more ∙ tables_by (commits_of db entries) e.moment (changes_at db e) opening (length (changes_at db e) == 0)

  pub changes-more : changes_of (commits_of db (entries ++ e ∷ [])) ≡ changes_of (commits_of db entries) ++ changes_at db e
  changes-more = ap changes_of all-more ∙ changes_by (commits_of db entries) e.moment (changes_at db e) (length (changes_at db e) == 0) refl

  pub count-more : length (commits_of db (entries ++ e ∷ [])) ≡ length (commits_of db entries) + commits_in (changes_at db e)
  count-more = ap length all-more ∙ length_by (commits_of db entries) e.moment (changes_at db e) (length (changes_at db e) == 0)

  pub fit-more : (opening : Tables) → all_fit opening (commits_of db entries) ≡ true → fits (after_commits opening (commits_of db entries)) (record { moment = e.moment; changes = changes_at db e }) ≡ true
      → all_fit opening (commits_of db (entries ++ e ∷ [])) ≡ true
  fit-more opening h f = ap (all_fit opening) all-more ∙ fit_by (commits_of db entries) e.moment (changes_at db e) opening (length (changes_at db e) == 0) h f

  -- where it commits nothing, the commits are those before
  pub none-more : changes_at db e ≡ [] → commits_of db (entries ++ e ∷ []) ≡ commits_of db entries
  none-more none = all-more ∙ ap (λ cs. commits_of db entries ++ cons_option (if length cs == 0 then None else Some (record { moment = e.moment; changes = cs })) []) none ∙ append-nil (commits_of db entries)

-- what the first entry commits, and the others
pub changes-first : (db : DbId) (e : Entry) (rest : List Entry) → changes_of (commits_of db (e ∷ rest)) ≡ changes_at db e ++ changes_of (commits_of db rest)
changes-first db e rest = by (changes_at db e) (length (changes_at db e) == 0) refl
  where
    by : (cs : List Change) (b : Bool) → (length cs == 0) ≡ b → changes_of (cons_option (if b then None else Some (record { moment = e.moment; changes = cs })) (commits_of db rest)) ≡ cs ++ changes_of (commits_of db rest)
    by cs true f = ap (λ ds. ds ++ changes_of (commits_of db rest)) (sym (empty_if cs f))
    by cs false f = refl

-- ---- lists

abbrev pub one_if : Bool → ℕ
one_if b = if b then 1 else 0

pub count-cons : {X : Type 0} (p : X → Bool) (x : X) (xs : List X) → count_by p (x ∷ xs) ≡ one_if (p x) + count_by p xs
count-cons p x xs = sum_by-cons (λ y. if p y then 1 else 0) x xs

pub count-append : {X : Type 0} (p : X → Bool) (xs ys : List X) → count_by p (xs ++ ys) ≡ count_by p xs + count_by p ys
count-append p xs ys = sum_by-append (λ x. if p x then 1 else 0) xs ys

pub no_items : {X : Type 0} (xs : List X) (x : X) (ys : List X) → [] ≡ xs ++ x ∷ ys → ⊥
no_items xs x ys e = let n : 0 ≡ length (xs ++ x ∷ ys) = ap length e in let m = length-append xs (x ∷ ys) in omega (arith, n, m)

-- an item of a list with one more is one of the list, or that one
pub last_or_before : {X : Type 0} (xs : List X) (x : X) (before : List X) (e : X) (rest : List X) → xs ++ x ∷ [] ≡ before ++ e ∷ rest → ((before ≡ xs) × (e ≡ x)) ⊎ ((more : List X) × (xs ≡ before ++ e ∷ more))
last_or_before [] x [] e rest q = inl (refl, let a : x ∷ [] ≡ e ∷ rest = q in cc)
last_or_before [] x (b ∷ before) e rest q = absurd (no_items before e rest (let a : x ∷ [] ≡ b ∷ (before ++ e ∷ rest) = q in cc))
last_or_before (y ∷ ys) x [] e rest q = let same : y ≡ e = (let a : y ∷ (ys ++ x ∷ []) ≡ e ∷ rest = q in cc) in inr (ys, ap (λ z. z ∷ ys) same)
last_or_before {X = X} (y ∷ ys) x (b ∷ before) e rest q =
    let same : y ≡ b = (let a : y ∷ (ys ++ x ∷ []) ≡ b ∷ (before ++ e ∷ rest) = q in cc) in
    let tails : ys ++ x ∷ [] ≡ before ++ e ∷ rest = (let a : y ∷ (ys ++ x ∷ []) ≡ b ∷ (before ++ e ∷ rest) = q in cc) in
    by same (last_or_before ys x before e rest tails)
  where
    by : y ≡ b → ((before ≡ ys) × (e ≡ x)) ⊎ ((more : List X) × (ys ≡ before ++ e ∷ more)) → ((b ∷ before ≡ y ∷ ys) × (e ≡ x)) ⊎ ((more : List X) × (y ∷ ys ≡ b ∷ (before ++ e ∷ more)))
    by same (inl p) = inl (ap (λ zs. b ∷ zs) p.0 ∙ ap (λ z. z ∷ ys) (sym same), p.1)
    by same (inr p) = inr (p.0, ap (λ z. z ∷ ys) same ∙ ap (λ zs. b ∷ zs) p.1)
