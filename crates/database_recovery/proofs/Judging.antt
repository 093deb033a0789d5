-- A commit that is made change by change.
use Rattle.std.proofs.Common.{◌≡◌, ℕ, Bool, true, false, List, [], ◌∷◌, Option, Some, Result, Ok, Err, IfOk, max, refl, sym, ap, subst, ◌∙◌, arith}
use Rattle.std.specs.Bool.{OnTrue}
use Rattle.std.specs.Prelude.{◌&&◌, IfSome}
use Rattle.queue_rows.specs.Fits.{all_name_what_is_there, fits}
use Rattle.queue_rows.specs.Tables.{after, after_all, after_change}
use Rattle.queue_rows.specs.Valid.{is_valid}
use Rattle.queue_rows.specs.declared.change.Change.{Change}
use Rattle.queue_rows.specs.declared.change.Commit.{Commit}
use Rattle.queue_rows.specs.declared.tables.Tables.{Tables}
use Rattle.redo_records.specs.Reading.{decode}
use Rattle.redo_records.specs.Recovered.{after_body}
use Rattle.redo_records.specs.Spelled.{HasSpelling}
use Rattle.fit_laws.specs.FitLaws.{are_local}
use Rattle.commit_fits.specs.Told.{TellsFit}
use Rattle.database_recovery.specs.Recovering.{Makes}
use Rattle.database_recovery.specs.Sound.{IsSound}
use Rattle.database_recovery.proofs.Folding.{commit_makes}
use Rattle.database_recovery.proofs.Keeping.{stays_sound}

max_zero : (n : ℕ) → max n 0 ≡ n
max_zero n = omega arith

-- one change at the moment 0 is just that change
pub after_one : (t : Tables) (c : Change) → after t (record { moment = 0; changes = c ∷ [] }) ≡ after_change t c
unfolding after
after_one t c = ap (λ (n : ℕ). record (after_change t c) { latest = n }) (max_zero (after_change t c).latest)

-- no change raises the latest moment alone
pub after_none : (t : Tables) (moment : ℕ) → after t (record { moment = moment; changes = [] }) ≡ record t { latest = max t.latest moment }
unfolding after
after_none t moment = refl

-- ---- commits

pub unnamed_is_unfit : (t : Tables) (c : Commit) → all_name_what_is_there t c.changes ≡ false → fits t c ≡ false
unfolding fits
unnamed_is_unfit t c e = ap (λ b. b && is_valid (after t c)) e

pub raised_is_after : (t u new : Tables) (c : Commit) → u ≡ after_all t c.changes → new ≡ record u { latest = max u.latest c.moment } → new ≡ after t c
unfolding after
raised_is_after t u new c made raised = raised ∙ ap (λ (v : Tables). record v { latest = max v.latest c.moment }) made

pub where_some : {A : Type 0} (P : A → Type 0) (o : Option A) (a : A) → o ≡ Some a → IfSome o P → P a
where_some P o a e h = subst (λ x. IfSome x P) e h

-- what is told of the tables after the commit is whether it fits
pub told_fits : {E : Type 0} (answer : Result Bool E) (t new : Tables) (c : Commit) (named : List Change) (local : Bool) → named ≡ c.changes → is_valid t ≡ true
    → all_name_what_is_there t c.changes ≡ true → local ≡ are_local t c.changes → new ≡ after t c → IfOk answer (TellsFit new named local) → IfOk answer (λ fitting. fitting ≡ fits t c)
told_fits (Ok told) t new c named local same valid all_named are made tells =
    tells t c.moment (record { valid = valid; named = rw same all_named; locality = λ e. rw same (sym are ∙ e); made = made ∙ ap (λ cs. after t (record { moment = c.moment; changes = cs })) (sym same) })
    ∙ ap (λ cs. fits t (record { moment = c.moment; changes = cs })) same
told_fits (Err e) t new c named local same valid all_named are made tells = tt

pub made_if_told : {E : Type 0} (answer : Result Bool E) (t u : Tables) → t ≡ u → IfOk answer (λ fitting. OnTrue fitting (t ≡ u))
made_if_told (Ok true) t u e = e
made_if_told (Ok false) t u e = tt
made_if_told (Err x) t u e = tt

-- ---- bodies

pub judged_makes : {E : Type 0} (version : ℕ) (t new : Tables) (body : List ℕ) (c : Commit) (answer : Result Bool E) → decode version body ≡ Some c
    → IfOk answer (λ fitting. fitting ≡ fits t c) → IfOk answer (λ fitting. OnTrue fitting (new ≡ after t c))
    → IfOk answer (λ made. Makes (after_body version t body) made new)
judged_makes version t new body c (Ok true) read judged made = commit_makes version t new body c true read judged (λ _. made)
judged_makes version t new body c (Ok false) read judged made = commit_makes version t new body c false read judged (λ e. cc)
judged_makes version t new body c (Err e) read judged made = tt

pub judged_stays_sound : {E : Type 0} (version : ℕ) (t new : Tables) (c : Commit) (answer : Result Bool E) → HasSpelling version c → IsSound t
    → IfOk answer (λ fitting. fitting ≡ fits t c) → IfOk answer (λ fitting. OnTrue fitting (new ≡ after t c))
    → IfOk answer (λ made. OnTrue made (IsSound new))
judged_stays_sound version t new c (Ok true) spelled sound judged made = rw made (stays_sound version t c spelled (sym judged) sound)
judged_stays_sound version t new c (Ok false) spelled sound judged made = tt
judged_stays_sound version t new c (Err e) spelled sound judged made = tt
