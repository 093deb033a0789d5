-- An answer by what is named, or by all rows, is exact.
use Rattle.std.proofs.Common.{◌≡◌, List, Bool, true, sym, ap, ◌∙◌, ◌&&◌}
use Rattle.std.specs.Prelude.{IfOk, Ok, Err, Result}
use Rattle.queue_rows.specs.Tables.{after}
use Rattle.queue_rows.specs.Valid.{is_valid}
use Rattle.queue_rows.specs.Fits.{all_name_what_is_there, fits}
use Rattle.queue_rows.specs.declared.tables.Tables.{Tables}
use Rattle.queue_rows.specs.declared.change.Change.{Change}
use Rattle.queue_rows.specs.declared.change.Commit.{Commit}
use Rattle.fit_laws.specs.FitLaws.{FitIsLocal, leaves_all_right}
use Rattle.commit_fits.specs.Told.{TellsValid, TellsFit}

pub by_names : (t : Tables) (cs : List Change) (local : Bool) → FitIsLocal → local ≡ true → (told : Bool) → told ≡ leaves_all_right t cs → TellsValid t cs local told
by_names t cs local law are told is before moment a =
    is ∙ ap (λ u. leaves_all_right u cs) a.made ∙ law before (record { moment = moment; changes = cs }) a.valid a.named (a.locality are) ∙ sym (ap is_valid a.made)

fits_is : (before : Tables) (commit : Commit) → all_name_what_is_there before commit.changes ≡ true → fits before commit ≡ is_valid (after before commit)
unfolding fits
fits_is before commit named = ap (λ b. b && is_valid (after before commit)) named

pub tells_fit : (t : Tables) (cs : List Change) (local told : Bool) → TellsValid t cs local told → TellsFit t cs local told
tells_fit t cs local told h before moment a = h before moment a ∙ ap is_valid a.made ∙ sym (fits_is before (record { moment = moment; changes = cs }) a.named)

pub if_ok : {A E : Type 0} (P Q : A → Type 0) → ((a : A) → P a → Q a) → (r : Result A E) → IfOk r P → IfOk r Q
if_ok P Q k (Ok a) h = k a h
if_ok P Q k (Err e) h = tt
