use Rattle.std.proofs.Common.{◌≡◌, true, sym, ap, ◌∙◌}
use Rattle.std.specs.Prelude.{is_some}
use Rattle.queue_rows.specs.Tables.{after, after_all}
use Rattle.queue_rows.specs.Fits.{all_name_what_is_there}
use Rattle.fit_laws.specs.FitLaws.{are_local}
use Rattle.database_recovery.proofs.Judging.{made_if_told, raised_is_after, told_fits, where_some}
use Rattle.database_recovery.proofs.judge.make_fitting.Goals as goal

all_named : (c : goal.After-stays_valid) → all_name_what_is_there c.args.store.now.tables c.args.commit.changes ≡ true
all_named c = sym c.in_ok-local.ensures.named ∙ ap is_some c.in-Some.is

all_local : (c : goal.After-stays_valid) → c.in-Some.local ≡ are_local c.args.store.now.tables c.args.commit.changes
all_local c =
    where_some (λ local. local ≡ are_local c.args.store.now.tables c.args.commit.changes) c.in_ok-local.field-0 c.in-Some.local c.in-Some.is c.in_ok-local.ensures.local

made : (c : goal.After-stays_valid) → c.raise_latest.new.store.tables ≡ after c.args.store.now.tables c.args.commit
made c =
    raised_is_after c.args.store.now.tables c.make_changes.new.store.tables c.raise_latest.new.store.tables c.args.commit
    (where_some (λ local. c.make_changes.new.store.tables ≡ after_all c.args.store.now.tables c.args.commit.changes) c.in_ok-local.field-0 c.in-Some.local c.in-Some.is
    c.in_ok-local.ensures.made)
    c.in_ok-raise_latest.ensures

pub returns-clause-judged : goal.returns-clause-judged
returns-clause-judged c =
    told_fits c.stays_valid.result c.args.store.now.tables c.raise_latest.new.store.tables c.args.commit c.args.named.now c.in-Some.local c.requires.same c.requires.valid
    (all_named c) (all_local c) (made c) c.stays_valid.ensures.fits

pub returns-clause-made : goal.returns-clause-made
returns-clause-made c = made_if_told c.stays_valid.result _ _ (made c)
