use Rattle.std.proofs.Common.{◌≤◌, ℕ, Bool, List, Option, filter, not, length, option_copied, ap, sym, ◌∙◌, arith, subst}
use Rattle.std.specs.Prelude.{◌==◌}
use Rattle.std.specs.List.{find}
use Rattle.std.specs.Option.{option_map}
use Rattle.row_tree.specs.Changes.{change_where}
use Rattle.sort_index.specs.Fitting.{AllFit}
use Rattle.sort_index.specs.Ready.{EditsRows, is_of, is_row, rows_of, without_row}
use Rattle.sort_index.specs.declared.group.Group.{Group}
use Rattle.sort_index.specs.declared.group.Ready.{Ready}
use Rattle.sort_index.proofs.Changed.{edited, fit_changed, group_gone, kept_few, no_rows_left, rows_left, rows_changed, rows_emptied, rows_none, told_rows, told_some}
use Rattle.sort_index.proofs.Groups.{edits_none, fit_kept}
use Rattle.sort_index.proofs.index.take_row.Goals as goal

pub returns-in_default-clause-rows : goal.returns-in_default-clause-rows
returns-in_default-clause-rows c =
    let queue = c.args.queue.now in
    let consumer = option_copied c.args.consumer in
    let place = c.args.place.now in
    let id = c.args.id in
    let gs = c.args.groups.now in
    let none = rows_none queue consumer gs c.in_default.ensures.none in
    subst (λ (after : List Group). EditsRows queue consumer (without_row place id) gs after) (sym c.in_default.ensures.kept)
    (edits_none queue consumer (without_row place id) gs (ap (without_row place id) none ∙ sym none))

pub returns-then-is_empty-clause-rows : goal.returns-then-is_empty-clause-rows
returns-then-is_empty-clause-rows c =
    let queue = c.args.queue.now in
    let consumer = option_copied c.args.consumer in
    let place = c.args.place.now in
    let id = c.args.id in
    let gs = c.args.groups.now in
    let tells : List Ready → Option ℕ × Bool = λ rows. (option_map (λ (row : Ready). row.slot) (find (is_row place id) rows), length (without_row place id rows) == 0) in
    let some = told_some (λ (g : Group). tells g.rows) (c.in-Ok.slot, c.in-Ok.is_empty) (find (is_of queue consumer) gs) c.in-Ok.ensures.told in
    let told = told_rows tells (c.in-Ok.slot, c.in-Ok.is_empty) (find (is_of queue consumer) gs) c.in-Ok.ensures.told in
    let empty = no_rows_left (without_row place id (rows_of queue consumer gs)) (sym (ap (λ (t : Option ℕ × Bool). t.1) told) ∙ c.if-is_empty.true) in
    let after = c.take_at-group.ensures.rest ∙ ap (filter (λ g. not (is_of queue consumer g))) c.in-Ok.ensures.rows in
    subst (λ (groups : List Group). EditsRows queue consumer (without_row place id) gs groups) (sym after) (rows_emptied queue consumer (without_row place id) gs some empty)

pub returns-else-is_empty-clause-rows : goal.returns-else-is_empty-clause-rows
returns-else-is_empty-clause-rows c =
    let queue = c.args.queue.now in
    let consumer = option_copied c.args.consumer in
    let place = c.args.place.now in
    let id = c.args.id in
    let gs = c.args.groups.now in
    let tells : List Ready → Option ℕ × Bool = λ rows. (option_map (λ (row : Ready). row.slot) (find (is_row place id) rows), length (without_row place id rows) == 0) in
    let some = told_some (λ (g : Group). tells g.rows) (c.in-Ok.slot, c.in-Ok.is_empty) (find (is_of queue consumer) gs) c.in-Ok.ensures.told in
    subst (λ (groups : List Group). EditsRows queue consumer (without_row place id) gs groups) (sym c.in-Ok.ensures.rows) (rows_changed queue consumer (without_row place id) gs some)

pub returns-then-is_empty-clause-fit : goal.returns-then-is_empty-clause-fit
returns-then-is_empty-clause-fit c = λ n fit.
    let queue = c.args.queue.now in
    let consumer = option_copied c.args.consumer in
    let place = c.args.place.now in
    let id = c.args.id in
    let gs = c.args.groups.now in
    let changed = change_where (is_of queue consumer) (edited (without_row place id)) gs in
    let same : n ≤ n = omega arith in
    let kept : AllFit n changed = fit_changed n n (is_of queue consumer) (without_row place id) same (λ rs few. let less = kept_few (λ row. not (is_row place id row)) rs in omega arith) gs fit in
    let after = c.take_at-group.ensures.rest ∙ ap (filter (λ g. not (is_of queue consumer g))) c.in-Ok.ensures.rows in
    subst (λ (groups : List Group). AllFit n groups) (sym after) (fit_kept n (λ g. not (is_of queue consumer g)) changed kept)

pub returns-else-is_empty-clause-fit : goal.returns-else-is_empty-clause-fit
returns-else-is_empty-clause-fit c = λ n fit.
    let queue = c.args.queue.now in
    let consumer = option_copied c.args.consumer in
    let place = c.args.place.now in
    let id = c.args.id in
    let gs = c.args.groups.now in
    let changed = change_where (is_of queue consumer) (edited (without_row place id)) gs in
    let same : n ≤ n = omega arith in
    let kept : AllFit n changed = fit_changed n n (is_of queue consumer) (without_row place id) same (λ rs few. let less = kept_few (λ row. not (is_row place id row)) rs in omega arith) gs fit in
    subst (λ (groups : List Group). AllFit n groups) (sym c.in-Ok.ensures.rows) kept

pub returns-in_default-clause-gone : goal.returns-in_default-clause-gone
returns-in_default-clause-gone c = λ none.
    ap (find (is_of c.args.queue.now (option_copied c.args.consumer))) c.in_default.ensures.kept ∙ c.in_default.ensures.none

pub returns-then-is_empty-clause-gone : goal.returns-then-is_empty-clause-gone
returns-then-is_empty-clause-gone c = λ none.
    let queue = c.args.queue.now in
    let consumer = option_copied c.args.consumer in
    ap (find (is_of queue consumer)) c.take_at-group.ensures.rest ∙ group_gone queue consumer c.change_at.new.self

pub returns-else-is_empty-clause-gone : goal.returns-else-is_empty-clause-gone
returns-else-is_empty-clause-gone c = λ none.
    let queue = c.args.queue.now in
    let consumer = option_copied c.args.consumer in
    let place = c.args.place.now in
    let id = c.args.id in
    let gs = c.args.groups.now in
    let tells : List Ready → Option ℕ × Bool = λ rows. (option_map (λ (row : Ready). row.slot) (find (is_row place id) rows), length (without_row place id rows) == 0) in
    let told = told_rows tells (c.in-Ok.slot, c.in-Ok.is_empty) (find (is_of queue consumer) gs) c.in-Ok.ensures.told in
    absurd (rows_left (without_row place id (rows_of queue consumer gs)) (sym (ap (λ (t : Option ℕ × Bool). t.1) told) ∙ c.if-is_empty.false) none)
