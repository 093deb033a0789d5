-- With what a history begins, and its commits without the numbers of disk calls.
use Rattle.std.proofs.Common.{◌≡◌, ℕ, List, [], ◌∷◌, refl, sym, ap, ◌∙◌, subst, true}
use Rattle.std.specs.Prelude.{map}
use Rattle.std.specs.List.{cons_option}
use Rattle.aq_base.specs.declared.DbId.{DbId}
use Rattle.aq_base.specs.declared.DbId.TheVariants.{Home, Away}
use Rattle.queue_rows.specs.World.{uncounted}
use Rattle.queue_rows.specs.Serial.{Begins}
use Rattle.queue_rows.specs.declared.tables.Tables.{Tables}
use Rattle.queue_rows.specs.declared.history.Entry.{Entry}
use Rattle.queue_rows.specs.declared.history.History.{History}
use Rattle.queue_rows.specs.declared.history.SessionScript.{SessionScript}
use Rattle.history_laws.specs.Made.{commit_at, commits_of, opening_of}
use Rattle.history_laws.specs.LegalFates.{opening_at}

-- numbers of calls of a disk are no part of commits
commit_uncounted : (db : DbId) (e : Entry) → commit_at db (uncounted e) ≡ commit_at db e
commit_uncounted Home e = refl
commit_uncounted Away e = refl

pub commits_uncounted : (db : DbId) (entries : List Entry) → commits_of db (map uncounted entries) ≡ commits_of db entries
commits_uncounted db [] = refl
commits_uncounted db (e ∷ more) = ap (λ o. cons_option o (commits_of db (map uncounted more))) (commit_uncounted db e) ∙ ap (cons_option (commit_at db e)) (commits_uncounted db more)

pub opening_is : (home away : Tables) (scripts : List SessionScript) (h : History) → Begins home away scripts h → (db : DbId) → opening_of db h ≡ opening_at db home away
opening_is home away scripts h b Home = b.home_is
opening_is home away scripts h b Away = b.away_is
