-- What each legal history has: fates, commits that fit, and the tables that they leave.
use Rattle.std.proofs.Common.{◌≡◌, ℕ, List, refl, sym, ap, ◌∙◌, subst, true}
use Rattle.std.specs.Prelude.{map}
use Rattle.aq_base.specs.declared.DbId.{DbId}
use Rattle.aq_base.specs.declared.DbId.TheVariants.{Home, Away}
use Rattle.queue_rows.specs.World.{World, database_at}
use Rattle.queue_rows.specs.Valid.{is_valid}
use Rattle.queue_rows.specs.declared.tables.Tables.{Tables}
use Rattle.queue_rows.specs.declared.history.History.{History}
use Rattle.queue_rows.specs.declared.history.SessionScript.{SessionScript}
use Rattle.history_laws.specs.Made.{commits_of, changes_of, after_commits, opening_of, tables_after}
use Rattle.history_laws.specs.Proper.{AreProper}
use Rattle.history_laws.specs.Lasting.{HasFates}
use Rattle.history_laws.proofs.Fating.{proper_has_fates}
use Rattle.history_laws.specs.WorldLaws.{MayBegin}
use Rattle.history_laws.specs.LegalFates.{opening_at, all_fit, IsMade}
use Rattle.history_laws.proofs.Lasting.{commits_uncounted, opening_is}
use Rattle.queue_rows.specs.Legal.{IsLegalBy, IsLegalHistory}
use Rattle.run_fates.proofs.Making.{legal_is_sound}

opening_valid : (home away : Tables) (scripts : List SessionScript) → MayBegin home away scripts → (db : DbId) → is_valid (opening_at db home away) ≡ true
opening_valid home away scripts b Home = b.home_valid
opening_valid home away scripts b Away = b.away_valid

module _ (home away : Tables) (scripts : List SessionScript) (readings : List ℕ) (h : History) (b : MayBegin home away scripts) (legal : IsLegalBy readings home away scripts h) (db : DbId) where
  abbrev end : World
  end = legal.end

  made : IsMade (opening_at db home away) db end
  made = (legal_is_sound home away scripts readings end b legal.legal).made db

  from : opening_of db h ≡ opening_at db home away
  from = opening_is home away scripts h legal.begins db

  same_commits : commits_of db end.entries ≡ commits_of db h.entries
  same_commits = ap (commits_of db) (sym legal.entries_are) ∙ commits_uncounted db h.entries

  pub fates : HasFates db h
  fates =
      proper_has_fates db h (ap is_valid from ∙ opening_valid home away scripts b db)
      (subst (λ t. AreProper t (changes_of (commits_of db h.entries))) (sym from) (subst (λ cs. AreProper (opening_at db home away) (changes_of cs)) same_commits made.proper))

  pub fit : all_fit (opening_of db h) (commits_of db h.entries) ≡ true
  fit = ap (λ t. all_fit t (commits_of db h.entries)) from ∙ ap (all_fit (opening_at db home away)) (sym same_commits) ∙ made.fit

  pub ends : (database_at db legal.end).tables ≡ tables_after db h
  ends = made.tables ∙ ap (after_commits (opening_at db home away)) same_commits ∙ ap (λ t. after_commits t (commits_of db h.entries)) (sym from)

pub legal_has_fates : (home away : Tables) (scripts : List SessionScript) (h : History) → MayBegin home away scripts → IsLegalHistory home away scripts h → (db : DbId) → HasFates db h
legal_has_fates home away scripts h b legal db = fates home away scripts legal.0 h b legal.1 db

pub legal_commits_fit : (home away : Tables) (scripts : List SessionScript) (h : History) → MayBegin home away scripts → IsLegalHistory home away scripts h → (db : DbId) → all_fit (opening_of db h) (commits_of db h.entries) ≡ true
legal_commits_fit home away scripts h b legal db = fit home away scripts legal.0 h b legal.1 db

pub legal_ends_in : (home away : Tables) (scripts : List SessionScript) (readings : List ℕ) (h : History) → MayBegin home away scripts → (legal : IsLegalBy readings home away scripts h) → (db : DbId) → (database_at db legal.end).tables ≡ tables_after db h
legal_ends_in home away scripts readings h b legal db = ends home away scripts readings h b legal db
