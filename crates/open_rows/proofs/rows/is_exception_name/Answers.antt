use Rattle.std.proofs.Common.{◌≡◌, ◌+◌, length, arith, sym, ap, ◌∙◌, [], ◌∷◌}
use Rattle.std.specs.Str.{bytes_eq}
use Rattle.open_rows.proofs.SuffixLemmas.{suffix_decides, other_front}
use Rattle.open_rows.proofs.rows.is_exception_name.Goals as goal

pub returns-then-eq : goal.returns-then-eq
returns-then-eq c =
    let q = c.args.queue.now in
    let t = c.args.table.now in
    let fits : c.in-Some.at + 2 ≡ length q = omega (arith, c.in-Some.ensures) in
    let front = ap (λ x. bytes_eq x t) (sym c.split_at.ensures.front) ∙ sym c.eq.ensures ∙ c.if-eq.true in
    c.eq-then-eq.ensures ∙ ap (bytes_eq c.split_at.result.1.now) c.as_slice.ensures ∙ ap (λ x. bytes_eq x (95 ∷ 101 ∷ [])) c.split_at.ensures.back ∙ suffix_decides q t (95 ∷ 101 ∷ []) c.in-Some.at fits front

pub returns-else-eq : goal.returns-else-eq
returns-else-eq c =
    let q = c.args.queue.now in
    let t = c.args.table.now in
    let fits : c.in-Some.at + 2 ≡ length q = omega (arith, c.in-Some.ensures) in
    let front = ap (λ x. bytes_eq x t) (sym c.split_at.ensures.front) ∙ sym c.eq.ensures ∙ c.if-eq.false in
    c.if-eq.false ∙ other_front q t (95 ∷ 101 ∷ []) c.in-Some.at fits front
