use Rattle.std.proofs.Common.{◌≡◌, true, ◌∙◌, ap}
use Rattle.queue_rows.specs.Valid.{is_valid}
use Rattle.fit_laws.specs.FitLaws.{leaves_all_right}
use Rattle.commit_fits.specs.Told.{TellsFit}
use Rattle.commit_fits.proofs.Exactly.{by_names, tells_fit, if_ok}
use Rattle.commit_fits.proofs.stays.stays_valid.Goals as goal

pub returns-then-local-clause-fits : goal.returns-then-local-clause-fits
returns-then-local-clause-fits g c =
    let tables = g.T.MessageTables.tables c.args.tables.now in
    let changes = c.args.changes.now in
    let local : c.args.local ≡ true = cc in
    if_ok (λ told. told ≡ leaves_all_right tables changes) (TellsFit tables changes c.args.local)
    (λ told is. tells_fit tables changes c.args.local told (by_names tables changes c.args.local c.fit_is_local.ensures local told is))
    c.leaves_all_right.result c.leaves_all_right.ensures

pub returns-clause-fits : goal.returns-clause-fits
returns-clause-fits g c =
    let tables = g.T.MessageTables.tables c.args.tables.now in
    let changes = c.args.changes.now in
    if_ok (λ told. told ≡ is_valid c.tables.result.now) (TellsFit tables changes c.args.local)
    (λ told is. tells_fit tables changes c.args.local told (λ before moment a. is ∙ ap is_valid c.tables.ensures)) c.is_valid.result c.is_valid.ensures
