-- A run that survives a crash survives it still when time passes, and when an entry comes.
use Rattle.std.proofs.Common.{◌≡◌, ◌⊎◌, inl, inr, ◌≤◌, ◌<◌, ℕ, List, [], ◌∷◌, ◌++◌, length, take, sym, ap, ◌∙◌, subst, arith, append_assoc}
use Rattle.std.proofs.lemmas.Bool.{cases_lt}
use Rattle.std.proofs.lemmas.List.{take_all, take-append-le}
use Rattle.aq_base.specs.declared.DbId.{DbId}
use Rattle.aq_disk.specs.Disk.{EachImage, KeepsEarlier}
use Rattle.queue_rows.specs.declared.tables.Tables.{Tables}
use Rattle.queue_rows.specs.declared.change.Commit.{Commit}
use Rattle.queue_rows.specs.declared.history.Entry.{Entry}
use Rattle.history_laws.specs.Made.{commits_of, after_commits}
use Rattle.history_laws.specs.Durability.{made, durable}
use Rattle.crash_laws.specs.Crash.{Run, Recovers, RecoversEither, RecoversFirst, SurvivesCrash, calls_in, calls_after, opened_run, with_entry, tables_at}
use Rattle.crash_laws.proofs.Splitting.{split_last, calls_last, commits-append, made_more}

-- ---- an image

-- commits that come later change nothing of it
later_commits : (opening : Tables) (xs ys : List Commit) (least most : ℕ) (image : List ℕ) → most ≤ length xs
    → RecoversFirst opening xs least most image → RecoversFirst opening (xs ++ ys) least most image
later_commits opening xs ys least most image le r =
    let within : r.k ≤ length xs = omega (arith, r.at_most) in
    record { k = r.k; at_least = r.at_least; at_most = r.at_most; recovers = subst (λ (cs : List Commit). Recovers (after_commits opening cs) image) (sym (take-append-le r.k xs ys within)) r.recovers }

-- wider bounds hold too
wider : (opening : Tables) (xs : List Commit) (least most down up : ℕ) (image : List ℕ) → down ≤ least → most ≤ up → RecoversFirst opening xs least most image → RecoversFirst opening xs down up image
wider opening xs least most down up image le ge r = record { k = r.k; at_least = omega (arith, r.at_least); at_most = omega (arith, r.at_most); recovers = r.recovers }

-- ---- mounting

none_there : {P : Type 0} (front : List Entry) (e : Entry) (rest : List Entry) → [] ≡ front ++ e ∷ rest → P
none_there [] e rest is = absurd (cc)
none_there (f ∷ front) e rest is = absurd (cc)

opened_at : (db : DbId) (opening : Tables) (image : List ℕ) → Recovers opening image → Recovers (after_commits opening (take 0 (commits_of db []))) image
unfolding after_commits
opened_at db opening image h = h

pub opening_survives : (db : DbId) (opening : Tables) (start calls : ℕ) (images : ℕ → List ℕ → Type 0) → start ≤ calls
    → EachImage start calls images (Recovers opening) → SurvivesCrash (opened_run db opening start) calls images
opening_survives db opening start calls images le each = record {
  order = record { each = λ front e rest is. none_there front e rest is; within = λ front e rest is. none_there front e rest is; last = le };
  in_entries = λ front e rest is. none_there front e rest is;
  behind = λ call from to image left. record { k = 0; at_least = omega arith; at_most = omega arith; recovers = opened_at db opening image (each call from to image left) };
}

-- ---- time

module _ (r : Run) (calls later : ℕ) (images after : ℕ → List ℕ → Type 0) (s : SurvivesCrash r calls images) (le : calls ≤ later) (earlier : KeepsEarlier calls images after) where
  as_before : (call : ℕ) (image : List ℕ) → call ≤ calls → after call image → images call image
  as_before call image h left = (earlier call h image).0 left

  pub time_passes : EachImage calls later after (RecoversFirst r.opening (commits_of r.db r.entries) (durable r.db r.entries) (made r.db r.entries)) → SurvivesCrash r later after
  time_passes each = record {
    order = record { each = s.order.each; within = λ front e rest is. let w = s.order.within front e rest is in omega (arith, w, le); last = omega (arith, s.order.last, le) };
    in_entries = λ front e rest is call from to image left.
        let w = s.order.within front e rest is in
        s.in_entries front e rest is call from to image (as_before call image (omega (arith, to, w)) left);
    behind = λ call from to image left. passed call from image to left (cases_lt call calls);
  }
    where
      passed : (call : ℕ) → calls_after r.db r.start r.entries ≤ call → (image : List ℕ) → call ≤ later → after call image → (call < calls) ⊎ (calls ≤ call)
          → RecoversFirst r.opening (commits_of r.db r.entries) (durable r.db r.entries) (made r.db r.entries) image
      passed call from image to left (inl before) = s.behind call from (omega (arith, before)) image (as_before call image (omega (arith, before)) left)
      passed call from image to left (inr now) = each call now to image left

-- ---- an entry

module _ (r : Run) (e : Entry) (calls : ℕ) (images : ℕ → List ℕ → Type 0) (s : SurvivesCrash r calls images) (at : calls_in r.db e ≡ calls) where
  abbrev more : List Commit
  more = commits_of r.db (e ∷ [])

  all : commits_of r.db (r.entries ++ e ∷ []) ≡ commits_of r.db r.entries ++ more
  all = commits-append r.db r.entries (e ∷ [])

  -- what held of the commits before holds of them with the new one
  longer : (least most : ℕ) (image : List ℕ) → most ≤ made r.db r.entries → RecoversFirst r.opening (commits_of r.db r.entries) least most image
      → RecoversFirst r.opening (commits_of r.db (r.entries ++ e ∷ [])) least most image
  longer least most image le h =
      subst (λ (cs : List Commit). RecoversFirst r.opening cs least most image) (sym all) (later_commits r.opening (commits_of r.db r.entries) more least most image le h)

  order_split : (front : List Entry) (f : Entry) → ((r.entries ≡ front) × (e ≡ f)) ⊎ ((rest : List Entry) × (r.entries ≡ front ++ f ∷ rest)) → calls_after r.db r.start front ≤ calls_in r.db f
  order_split front f (inl last) =
      let one = ap (calls_after r.db r.start) last.0 in
      let two = ap (calls_in r.db) last.1 in
      omega (arith, one, two, at, s.order.last)
  order_split front f (inr before) = s.order.each front f before.0 before.1

  within_split : (front : List Entry) (f : Entry) → ((r.entries ≡ front) × (e ≡ f)) ⊎ ((rest : List Entry) × (r.entries ≡ front ++ f ∷ rest)) → calls_in r.db f ≤ calls
  within_split front f (inl last) = let two = ap (calls_in r.db) last.1 in omega (arith, two, at)
  within_split front f (inr before) = s.order.within front f before.0 before.1

  entry_split : (front : List Entry) (f : Entry) → ((r.entries ≡ front) × (e ≡ f)) ⊎ ((rest : List Entry) × (r.entries ≡ front ++ f ∷ rest))
      → EachImage (calls_after r.db r.start front) (calls_in r.db f) images (RecoversFirst r.opening (commits_of r.db (r.entries ++ e ∷ [])) (durable r.db front) (made r.db (front ++ f ∷ [])))
  entry_split front f (inl last) =
      subst (λ (g : Entry). EachImage (calls_after r.db r.start front) (calls_in r.db g) images (RecoversFirst r.opening (commits_of r.db (r.entries ++ e ∷ [])) (durable r.db front) (made r.db (front ++ g ∷ [])))) last.1
      (subst (λ (es : List Entry). EachImage (calls_after r.db r.start es) (calls_in r.db e) images (RecoversFirst r.opening (commits_of r.db (r.entries ++ e ∷ [])) (durable r.db es) (made r.db (es ++ e ∷ [])))) last.0
      (λ call from to image left.
      wider r.opening (commits_of r.db (r.entries ++ e ∷ [])) (durable r.db r.entries) (made r.db r.entries) (durable r.db r.entries) (made r.db (r.entries ++ e ∷ [])) image
      (omega arith) (made_more r.db r.entries (e ∷ []))
      (longer (durable r.db r.entries) (made r.db r.entries) image (omega arith) (s.behind call from (omega (arith, to, at)) image left))))
  entry_split front f (inr before) = λ call from to image left.
      longer (durable r.db front) (made r.db (front ++ f ∷ [])) image (front_made front f before.0 before.1) (s.in_entries front f before.0 before.1 call from to image left)
    where
      front_made : (front : List Entry) (f : Entry) (rest : List Entry) → r.entries ≡ front ++ f ∷ rest → made r.db (front ++ f ∷ []) ≤ made r.db r.entries
      front_made front f rest is =
          let same : r.entries ≡ (front ++ f ∷ []) ++ rest = is ∙ sym (append_assoc front (f ∷ []) rest) in
          let e2 = ap (made r.db) same in
          omega (arith, e2, made_more r.db (front ++ f ∷ []) rest)

  -- a crash behind it recovers what is durable then
  pub entry_comes : EachImage calls calls images (RecoversFirst r.opening (commits_of r.db (r.entries ++ e ∷ [])) (durable r.db (r.entries ++ e ∷ [])) (made r.db (r.entries ++ e ∷ [])))
      → SurvivesCrash (with_entry e r) calls images
  entry_comes each = record {
    order = record {
      each = λ front f rest is. order_split front f (split_last r.entries e front f rest is);
      within = λ front f rest is. within_split front f (split_last r.entries e front f rest is);
      last = let l = calls_last r.db r.start r.entries e in omega (arith, l, at);
    };
    in_entries = λ front f rest is. entry_split front f (split_last r.entries e front f rest is);
    behind = λ call from to image left. each call (let l = calls_last r.db r.start r.entries e in omega (arith, l, at, from)) to image left;
  }

  -- of an entry that makes nothing durable it does so as before
  pub quiet_entry_comes : durable r.db (r.entries ++ e ∷ []) ≡ durable r.db r.entries → SurvivesCrash (with_entry e r) calls images
  quiet_entry_comes same = entry_comes (λ call from to image left.
      wider r.opening (commits_of r.db (r.entries ++ e ∷ [])) (durable r.db r.entries) (made r.db r.entries) (durable r.db (r.entries ++ e ∷ [])) (made r.db (r.entries ++ e ∷ [])) image
      (omega (arith, same)) (made_more r.db r.entries (e ∷ []))
      (longer (durable r.db r.entries) (made r.db r.entries) image (omega arith) (s.behind call (omega (arith, from, s.order.last)) to image left)))

-- ---- what is recovered, by numbers of commits

-- the tables as they are after all commits that were made
pub all_made : (r : Run) → tables_at (made r.db r.entries) r ≡ after_commits r.opening (commits_of r.db r.entries)
all_made r = ap (after_commits r.opening) (take_all (made r.db r.entries) (commits_of r.db r.entries) (omega arith))

pub either_is_first : (r : Run) (k : ℕ) (image : List ℕ) → durable r.db r.entries ≤ k → k ≤ made r.db r.entries
    → RecoversEither (tables_at k r) (after_commits r.opening (commits_of r.db r.entries)) image
    → RecoversFirst r.opening (commits_of r.db r.entries) (durable r.db r.entries) (made r.db r.entries) image
either_is_first r k image least most (inl before) = record { k = k; at_least = least; at_most = most; recovers = before }
either_is_first r k image least most (inr behind) =
    record { k = made r.db r.entries; at_least = omega (arith, least, most); at_most = omega arith; recovers = subst (λ (t : Tables). Recovers t image) (sym (all_made r)) behind }
