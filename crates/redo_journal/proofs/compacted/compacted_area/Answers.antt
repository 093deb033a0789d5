use Rattle.std.proofs.Common.{◌≡◌, ◌++◌, ◌∷◌, [], length, ℕ, ◌+◌, List, ◌∙◌, ap, arith}
use Rattle.redo_journal.proofs.Same.{area_put}
use Rattle.redo_journal.proofs.compacted.compacted_area.Goals as goal

pub returns : goal.returns
returns c =
    let counts = c.in_ok-counts.counts.items in
    let body = c.args.body.now in
    let size = c.len.result + length body in
    let long : size ≡ length counts + length body = omega (arith, c.len.ensures, c.in_ok-counts.counts.ok.0) in
    let opened = c.in_ok-extend_from_slice.ensures.items ∙ ap (λ (l : List ℕ). l ++ 0 ∷ 0 ∷ 0 ∷ 2 ∷ 1 ∷ []) c.in_ok-area.ensures.items in
    let sized = c.in_ok-extend_from_slice-2.ensures.items ∙ ap (λ (l : List ℕ). l ++ c.to_be_bytes.result) opened in
    let counted = c.in_ok-extend_from_slice-3.ensures.items ∙ ap (λ (l : List ℕ). l ++ c.deref.result.now) sized ∙ ap (λ (l : List ℕ). (0 ∷ 0 ∷ 0 ∷ 2 ∷ 1 ∷ c.to_be_bytes.result) ++ l) c.deref.ensures.value in
    c.in_ok-push.ensures.items ∙ ap (λ (l : List ℕ). l ++ 0 ∷ []) (c.in_ok-extend_from_slice-4.ensures.items ∙ ap (λ (l : List ℕ). l ++ body) counted)
    ∙ ap (λ (l : List ℕ). (((0 ∷ 0 ∷ 0 ∷ 2 ∷ 1 ∷ l) ++ counts) ++ body) ++ 0 ∷ []) c.to_be_bytes.ensures ∙ area_put counts body size c.in_ok-counts.ensures long
