use Rattle.std.proofs.Common.{◌≡◌, ◌+◌, true, false, Option, length, slice_get, option_copied, ap, sym, ◌∙◌, arith}
use Rattle.std.specs.Option.{option_map_or}
use Rattle.std.specs.Ordering.{is_eq, is_lt}
use Rattle.row_tree.proofs.Seats.{all_ahead, got_within, none_past}
use Rattle.row_tree.proofs.tree.Tree.seat_from_last.Goals as goal

pub returns-then-is_lt-clause-rank : goal.returns-then-is_lt-clause-rank
returns-then-is_lt-clause-rank g c =
    let now = c.args.self.now in
    let standing = g.B.Bound.standing c.args.bound.now in
    let row = c.in-Some.last.now in
    let there = sym c.get.ensures ∙ ap option_copied c.in-Some.is in
    let ahead : is_lt (standing row) ≡ true = cc in
    let within = got_within now c.saturating_sub.result row there in
    let last : length now ≡ c.saturating_sub.result + 1 = omega (arith, within, c.saturating_sub.ensures, c.len.ensures) in
    c.len-then-is_lt.ensures ∙ all_ahead (λ y. is_lt (standing y)) now c.saturating_sub.result row c.requires there ahead last

pub returns-then-is_lt-clause-at : goal.returns-then-is_lt-clause-at
returns-then-is_lt-clause-at g c =
    let none = ap (slice_get c.args.self.now) c.len-then-is_lt.ensures ∙ none_past c.args.self.now in
    sym (ap (λ (o : Option g.row.T.Denot). option_map_or (λ y. is_eq (g.B.Bound.standing c.args.bound.now y)) o false) none)
