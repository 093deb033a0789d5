-- Commits that can be logged: those so far, and the last one.
use Rattle.std.proofs.Common.{◌≡◌, List, [], ◌∷◌, ◌++◌, true, refl}
use Rattle.std.specs.List.{AllByRecursion}
use Rattle.std.proofs.lemmas.Bool.{and_parts, and_from}
use Rattle.std.proofs.lemmas.List.Sums.{fold-append}
use Rattle.queue_rows.specs.Fits.{fits}
use Rattle.queue_rows.specs.Tables.{after}
use Rattle.queue_rows.specs.declared.tables.Tables.{Tables}
use Rattle.queue_rows.specs.declared.change.Commit.{Commit}
use Rattle.redo_records.specs.Spellable.{CanBeSpelled}
use Rattle.history_laws.specs.Made.{after_commits}
use Rattle.crash_laws.specs.LegalFates.{all_fit}
use Rattle.commit_log.specs.Logged.{AreLoggable}
use Rattle.commit_log.specs.LogLaws.{LoggableSoFar}

all_front : {A : Type 0} (P : A → Type 0) (front rest : List A) → AllByRecursion P (front ++ rest) → AllByRecursion P front
all_front P [] rest h = tt
all_front P (x ∷ front) rest h = (h.0, all_front P front rest h.1)

all_last : {A : Type 0} (P : A → Type 0) (front : List A) (x : A) → AllByRecursion P (front ++ x ∷ []) → P x
all_last P [] x h = h.0
all_last P (y ∷ front) x h = all_last P front x h.1

fit_front : (t : Tables) (front rest : List Commit) → all_fit t (front ++ rest) ≡ true → all_fit t front ≡ true
fit_front t [] rest h = refl
fit_front t (c ∷ front) rest h =
    let p = and_parts (fits t c) (all_fit (after t c) (front ++ rest)) h in
    and_from (fits t c) (all_fit (after t c) front) p.0 (fit_front (after t c) front rest p.1)

fit_last : (t : Tables) (front : List Commit) (c : Commit) → all_fit t (front ++ c ∷ []) ≡ true → fits (after_commits t front) c ≡ true
unfolding after_commits
fit_last t [] c h = (and_parts (fits t c) true h).0
fit_last t (x ∷ front) c h = fit_last (after t x) front c (and_parts (fits t x) (all_fit (after t x) (front ++ c ∷ [])) h).1

-- the tables after one commit more
pub after_last : (t : Tables) (front : List Commit) (c : Commit) → after_commits t (front ++ c ∷ []) ≡ after (after_commits t front) c
unfolding after_commits
after_last t front c = fold-append after t front (c ∷ [])

pub loggable_so_far : LoggableSoFar
loggable_so_far opening front rest h = record { fit = fit_front opening front rest h.fit; spellable = all_front CanBeSpelled front rest h.spellable }

-- the last one fits the tables that the others leave, and can be spelled
pub last_fits : (opening : Tables) (front : List Commit) (c : Commit) → AreLoggable opening (front ++ c ∷ []) → fits (after_commits opening front) c ≡ true
last_fits opening front c h = fit_last opening front c h.fit

pub last_spells : (opening : Tables) (front : List Commit) (c : Commit) → AreLoggable opening (front ++ c ∷ []) → CanBeSpelled c
last_spells opening front c h = all_last CanBeSpelled front c h.spellable
