use Rattle.std.proofs.Common.{[], refl, sym, subst}
use Rattle.queue_rows.specs.Tables.{empty_tables}
use Rattle.aq_run.specs.Histories.{empty_history, HoldsOf}
use Rattle.aq_run.proofs.Playing.{none_may, none_legal}
use Rattle.aq_run.proofs.unbegun.without_run.Goals as goal

pub returns-clause-none : goal.returns-clause-none
returns-clause-none g c = record {
  history = c.empty_history.ensures;
  holds = subst HoldsOf (sym c.empty_history.ensures) (c.legal_holds.ensures empty_tables empty_tables [] empty_history none_may none_legal tt);
  home_is = refl;
  away_is = refl;
  clock_is = refl;
}
