-- Examples of what can be spelled, and of what cannot.
use Rattle.std.specs.Prelude.{◌≡◌, ◌++◌, ℕ, pos, List, [], ◌∷◌, false, None, Some, Ok, codes}
use Rattle.payload_records.specs.declared.record.Datum.{Datum}
use Rattle.payload_records.specs.declared.record.Datum.TheVariants as data_of
use Rattle.rule_conditions.specs.Print.{print}
use Rattle.rule_conditions.specs.Reading.{condition_of}
use Rattle.rule_conditions.specs.declared.condition.Atom.{Atom}
use Rattle.rule_conditions.specs.declared.condition.Atom.TheVariants as atoms
use Rattle.rule_conditions.specs.declared.condition.Cmp.TheVariants as cmps
use Rattle.rule_conditions.specs.declared.condition.Cond.{Cond, roll-Cond}
use Rattle.rule_conditions.specs.declared.condition.Cond.TheOpen.{Compare}
use Rattle.rule_conditions.specs.declared.condition.Sum.{Sum}
use Rattle.queue_rows.specs.declared.rows.MsgRow.{MsgRow}
use Rattle.queue_rows.specs.declared.history.SessionScript.{SessionScript}
use Rattle.queue_rows.specs.declared.statement.Admin.TheVariants as asks
use Rattle.queue_rows.specs.declared.statement.Statement.TheVariants as statements
use Rattle.valid_laws.specs.Examples.{example_message, example_tables, example_left}
use Rattle.history_laws.specs.Examples.{script_of}
use Rattle.redo_records.specs.Spellable.{HasFullData}
use Rattle.run_spellings.specs.SpellableRun.{have_text_rules, MayBeSpelled}

-- ---- rules

abbrev pub example_sum : Atom → Sum
example_sum atom = record { terms = record { minus = false; product = record { atoms = atom ∷ [] } } ∷ [] }

-- the correlation is this text
abbrev pub correlates : List ℕ → Cond
correlates text = roll-Cond (Compare (example_sum atoms.Corr) cmps.Equal (example_sum (atoms.Text text)))

-- the byte 255 between apostrophes, which is no UTF-8
abbrev pub no_text : List ℕ
no_text = codes "tab.corrid='" ++ 255 ∷ codes "'"

abbrev pub adding : List ℕ → List SessionScript
adding rule = script_of (statements.Admin (asks.AddSubscriber (codes "q") (codes "n") None (Some rule)) ∷ [])

-- A rule is printed in another way than it was written, and read as the same condition. One that is no text is read too, but its print has
-- lost a byte, and a script that gives it is none of those of which the laws speak.
pub record ExampleRules : Type 0 where
  pub read : condition_of (codes "TAB.CORRID='a'") ≡ Ok (correlates (codes "a"))
  pub printed : print (correlates (codes "a")) ≡ codes "tab.corrid = 'a'"
  pub again : condition_of (print (correlates (codes "a"))) ≡ Ok (correlates (codes "a"))
  pub begins : MayBeSpelled example_tables example_left (adding (codes "TAB.CORRID='a'"))
  pub read_too : condition_of no_text ≡ Ok (correlates (255 ∷ []))
  pub lost : condition_of (print (correlates (255 ∷ []))) ≡ Ok (correlates [])
  pub not_given : have_text_rules (adding no_text) ≡ false

-- ---- data

abbrev pub with_cell : Datum → MsgRow
with_cell cell = record example_message { facts = record { priority = pos 1; corr = None; cells = record { cells = cell ∷ [] }; props = [] } }

abbrev pub with_property : Datum → MsgRow
with_property value = record example_message { facts = record { priority = pos 1; corr = None; cells = record { cells = [] }; props = record { name = codes "p"; value = value } ∷ [] } }

-- a null is no empty text
pub record ExampleData : Type 0 where
  pub null_cell : HasFullData (with_cell data_of.Null)
  pub text_cell : HasFullData (with_cell (data_of.Text (codes "a")))
  pub empty_cell : HasFullData (with_cell (data_of.Text [])) → ⊥
  pub text_property : HasFullData (with_property (data_of.Text (codes "a")))
  pub empty_property : HasFullData (with_property (data_of.Text [])) → ⊥
