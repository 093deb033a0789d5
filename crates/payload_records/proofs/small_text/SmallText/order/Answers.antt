use Rattle.std.proofs.Common.{sym, ap, ◌∙◌, nat_cmp}
use Rattle.std.specs.Cmp.Lexicographic.{slice_cmp, nat_list_cmp_total}
use Rattle.std.proofs.lemmas.Cmp.{tied_itself}
use Rattle.std.proofs.lemmas.Slice.Eq.{bytes_eq-Decides}
use Rattle.payload_records.proofs.small_text.SmallText.order.Goals as goal

pub returns-then-is_same : goal.returns-then-is_same
returns-then-is_same c =
    let same = (bytes_eq-Decides c.args.self.now c.args.other.now).0 (sym c.is_same.ensures ∙ c.if-is_same.true) in
    sym (tied_itself nat_list_cmp_total c.args.self.now) ∙ ap (slice_cmp nat_cmp c.args.self.now) same
