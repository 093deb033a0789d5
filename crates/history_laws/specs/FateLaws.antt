-- The law of fates.
use Rattle.std.specs.Prelude.{◌≡◌, true}
use Rattle.aq_base.specs.declared.DbId.{DbId}
use Rattle.queue_rows.specs.Valid.{is_valid}
use Rattle.history_laws.specs.Proper.{AreProper}
use Rattle.history_laws.specs.Made.{commits_of, changes_of, opening_of}
use Rattle.history_laws.specs.Lasting.{HasFates}
use Rattle.queue_rows.specs.declared.history.History.{History}

-- where the opening is valid and the changes are proper, the history has the facts on fates, whoever made it
abbrev pub ProperHasFates : Type 0
ProperHasFates = (db : DbId) (h : History) → is_valid (opening_of db h) ≡ true
    → AreProper (opening_of db h) (changes_of (commits_of db h.entries)) → HasFates db h
