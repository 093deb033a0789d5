-- What the commits of a node are: each fits, leaves rows as they were, and puts in a copy of what was sent.
use Rattle.std.proofs.Common.{◌≡◌, ◌⊎◌, inl, inr, ℕ, List, [], ◌∷◌, ◌++◌, true, refl, sym, ap, subst, ◌∙◌, take, drop, append_assoc, take-append-drop}
use Rattle.std.specs.Prelude.{Contains}
use Rattle.std.proofs.lemmas.Bool.{and_parts, and_from}
use Rattle.std.proofs.lemmas.Grind.{flat_map-append}
use Rattle.std.proofs.lemmas.List.Sums.{fold-append}
use Rattle.queue_rows.specs.Tables.{after_change, after_all, after}
use Rattle.queue_rows.specs.Fits.{fits, all_name_what_is_there}
use Rattle.queue_rows.specs.Propagating.{has_seen}
use Rattle.queue_rows.specs.Valid.{is_valid}
use Rattle.queue_rows.specs.declared.tables.Tables.{Tables}
use Rattle.queue_rows.specs.declared.rows.MsgRow.{MsgRow}
use Rattle.queue_rows.specs.declared.change.Change.{Change}
use Rattle.queue_rows.specs.declared.change.Change.TheVariants as changes
use Rattle.queue_rows.specs.declared.change.Commit.{Commit}
use Rattle.queue_rows.specs.declared.history.SlotRef.{SlotRef}
use Rattle.history_laws.specs.Arrivals.{IsCopy}
use Rattle.history_laws.specs.Made.{changes_of, after_commits}
use Rattle.history_laws.specs.LegalFates.{all_fit}
use Rattle.history_laws.proofs.Commits.{no_items, last_or_before}
use Rattle.history_laws.proofs.Seeing.{seen_stays}
use Rattle.link_laws.specs.Laws.{IsSeenWith}
use Rattle.link_laws.proofs.Tracing.{IsTraced, opening_traced}

-- ---- tables after commits

pub after_append : (t : Tables) (xs ys : List Commit) → after_commits t (xs ++ ys) ≡ after_commits (after_commits t xs) ys
unfolding after_commits
after_append t xs ys = fold-append after t xs ys

pub after_last : (t : Tables) (xs : List Commit) (c : Commit) → after_commits t (xs ++ c ∷ []) ≡ after (after_commits t xs) c
unfolding after_commits
after_last t xs c = fold-append after t xs (c ∷ [])

pub changes_append : (xs ys : List Commit) → changes_of (xs ++ ys) ≡ changes_of xs ++ changes_of ys
changes_append xs ys = flat_map-append (λ c. c.changes) xs ys

-- what was seen stays so
seen_all : (cs : List Change) (t : Tables) (at : SlotRef) → has_seen t at ≡ true → has_seen (after_all t cs) at ≡ true
seen_all [] t at h = h
seen_all (c ∷ cs) t at h = seen_all cs (after_change t c) at (seen_stays t c at h)

pub seen_after : (t : Tables) (c : Commit) (at : SlotRef) → has_seen t at ≡ true → has_seen (after t c) at ≡ true
unfolding after
seen_after t c at h = seen_all c.changes t at h

pub seen_commits : (cs : List Commit) (t : Tables) (at : SlotRef) → has_seen t at ≡ true → has_seen (after_commits t cs) at ≡ true
unfolding after_commits
seen_commits [] t at h = h
seen_commits (c ∷ cs) t at h = seen_commits cs (after t c) at (seen_after t c at h)

-- also with the first commits alone
pub seen_first : (n : ℕ) (cs : List Commit) (t : Tables) (at : SlotRef) → has_seen (after_commits t (take n cs)) at ≡ true → has_seen (after_commits t cs) at ≡ true
seen_first n cs t at h =
    ap (λ xs. has_seen (after_commits t xs) at) (sym (take-append-drop n cs)) ∙ ap (λ u. has_seen u at) (after_append t (take n cs) (drop n cs)) ∙ seen_commits (drop n cs) (after_commits t (take n cs)) at h

-- ---- what each commit is

module _ (opening origin : Tables) where
  -- It fits the tables before it, leaves traced what was so, and where it says that a slot was seen it puts in its copy, and nothing else.
  pub record IsRightCommit (t : Tables) (c : Commit) : Type 0 where
    pub fit : fits t c ≡ true
    pub keeps : (id slot : ℕ) → IsTraced opening slot id t → IsTraced opening slot id (after t c)
    pub copies : (at : SlotRef) (copy : ℕ) → Contains c.changes (changes.Seen (record { id = at.id; slot = at.slot; copy = copy })) → IsCopy origin t at copy c.changes
    pub seen : (row : MsgRow) → Contains c.changes (changes.Enqueued row) → IsSeenWith c row

  abbrev pub AreRight : List Commit → Type 0
  AreRight commits = (before : List Commit) (c : Commit) (later : List Commit) → commits ≡ before ++ c ∷ later → IsRightCommit (after_commits opening before) c

  pub none_right : AreRight []
  none_right before c later e = absurd (no_items before c later e)

  pub last_right : (commits : List Commit) (c : Commit) → AreRight commits → IsRightCommit (after_commits opening commits) c → AreRight (commits ++ c ∷ [])
  last_right commits c r k before x later e = by (last_or_before commits c before x later e)
    where
      by : ((before ≡ commits) × (x ≡ c)) ⊎ ((more : List Commit) × (commits ≡ before ++ x ∷ more)) → IsRightCommit (after_commits opening before) x
      by (inl p) = subst (λ b. IsRightCommit (after_commits opening b) x) (sym p.0) (subst (IsRightCommit (after_commits opening commits)) (sym p.1) k)
      by (inr p) = r before x p.0 p.1

  pub first_right : (n : ℕ) (commits : List Commit) → AreRight commits → AreRight (take n commits)
  first_right n commits r before c later e =
      r before c (later ++ drop n commits) (sym (take-append-drop n commits) ∙ ap (λ xs. xs ++ drop n commits) e ∙ append_assoc before (c ∷ later) (drop n commits))

  -- ---- so they fit, and trace all rows

  fit_from : (rest before : List Commit) → AreRight (before ++ rest) → all_fit (after_commits opening before) rest ≡ true
  fit_from [] before r = refl
  fit_from (c ∷ rest) before r =
      let one = (r before c rest refl).fit in
      let more = fit_from rest (before ++ c ∷ []) (subst AreRight (sym (append_assoc before (c ∷ []) rest)) r) in
      and_from (fits (after_commits opening before) c) (all_fit (after (after_commits opening before) c) rest) one (ap (λ t. all_fit t rest) (sym (after_last opening before c)) ∙ more)

  pub right_fit : (commits : List Commit) → AreRight commits → all_fit opening commits ≡ true
  unfolding after_commits
  right_fit commits r = fit_from commits [] r

  valid_from : (rest before : List Commit) → AreRight (before ++ rest) → is_valid (after_commits opening before) ≡ true → is_valid (after_commits (after_commits opening before) rest) ≡ true
  unfolding after_commits fits
  valid_from [] before r v = v
  valid_from (c ∷ rest) before r v =
      let one = (and_parts (all_name_what_is_there (after_commits opening before) c.changes) (is_valid (after (after_commits opening before) c)) (r before c rest refl).fit).1 in
      let more = valid_from rest (before ++ c ∷ []) (subst AreRight (sym (append_assoc before (c ∷ []) rest)) r) (ap is_valid (after_last opening before c) ∙ one) in
      ap (λ t. is_valid (after_commits t rest)) (sym (after_last opening before c)) ∙ more

  pub right_valid : (commits : List Commit) → AreRight commits → is_valid opening ≡ true → is_valid (after_commits opening commits) ≡ true
  unfolding after_commits
  right_valid commits r v = valid_from commits [] r v

  traced_from : (id slot : ℕ) (rest before : List Commit) → AreRight (before ++ rest) → IsTraced opening slot id (after_commits opening before) → IsTraced opening slot id (after_commits (after_commits opening before) rest)
  unfolding after_commits
  traced_from id slot [] before r h = h
  traced_from id slot (c ∷ rest) before r h =
      let one = (r before c rest refl).keeps id slot h in
      let more = traced_from id slot rest (before ++ c ∷ []) (subst AreRight (sym (append_assoc before (c ∷ []) rest)) r) (subst (IsTraced opening slot id) (sym (after_last opening before c)) one) in
      subst (λ t. IsTraced opening slot id (after_commits t rest)) (after_last opening before c) more

  pub right_traced : (id slot : ℕ) (commits : List Commit) → AreRight commits → IsTraced opening slot id (after_commits opening commits)
  unfolding after_commits
  right_traced id slot commits r = traced_from id slot commits [] r (opening_traced opening slot id)
