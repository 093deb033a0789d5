use Rattle.std.proofs.Common.{◌≡◌, [], ◌∷◌, ◌++◌, map, codes, string_bytes, rules, refl, ap, ◌∙◌, append_assoc}
use Rattle.rule_conditions.specs.Print.{Printed, in_any, in_all, printed, print}
use Rattle.rule_conditions.specs.declared.condition.Cond.{Cond}
use Rattle.rule_text.specs.Printing.{opening_in_all, closing_in_all}
use Rattle.rule_text.proofs.PrintPieces.{led_step, led_end, put_around_any, put_around_all}
use Rattle.rule_text.proofs.PrintEquations.{print_any, print_all, print_not, print_compare, print_is_null, print_like}
use Rattle.rule_text.proofs.printer.+put.Goals as goal

pub loop-part-preserved : goal.loop-part-preserved
loop-part-preserved t c =
    let first = c.in-Some.ensures.steps in
    let kept = c.loop-part.invariant in
    let around = c.around_in_any-around in
    let put : string_bytes c.push_str-in-loop-part-2.new.self ≡ (string_bytes c.loop-part.out ++ c.loop-part.before.now) ++ in_any (printed c.in-Some.part.now) =
    put_around_any (printed c.in-Some.part.now) around.result.open.now around.result.close.now _ _ _ _ around.ensures.open around.ensures.close
    (rw (c.in_ok-push_str-in-Any-2.ensures.bytes, c.in_ok-push_str-in-Any.ensures.bytes) refl) c.in_ok-put-in-Any.ensures c.in_ok-push_str-in-Any-3.ensures.bytes in (
      search rules,
      (kept.1.0 ++ c.in-Some.part.now ∷ [], rw append_assoc (rw first at kept.1.1)),
      led_step (codes " OR ") c.loop-part.before.now _ (string_bytes c.loop-part.out) (in_any (printed c.in-Some.part.now)) _ (map in_any (map printed c.next.new.self)) (rw first at kept.2) put,
    )

pub loop-part-2-preserved : goal.loop-part-2-preserved
loop-part-2-preserved t c =
    let first = c.in-Some-part.ensures.steps in
    let kept = c.loop-part-2.invariant in
    let around = c.around_in_all-around in
    let put : string_bytes c.push_str-in-loop-part-2-4.new.self ≡ (string_bytes c.loop-part-2.out ++ c.loop-part-2.before.now) ++ in_all (printed c.in-Some-part.part.now) =
    put_around_all (printed c.in-Some-part.part.now) around.result.open.now around.result.close.now _ _ _ _ around.ensures.open around.ensures.close
    (rw (c.in_ok-push_str-in-All-2.ensures.bytes, c.in_ok-push_str-in-All.ensures.bytes) refl) c.in_ok-put-in-All.ensures c.in_ok-push_str-in-All-3.ensures.bytes in (
      search rules,
      (kept.1.0 ++ c.in-Some-part.part.now ∷ [], rw append_assoc (rw first at kept.1.1)),
      led_step (codes " AND ") c.loop-part-2.before.now _ (string_bytes c.loop-part-2.out) (in_all (printed c.in-Some-part.part.now)) _ (map in_all (map printed c.next-in-loop-part-2.new.self)) (rw first at kept.2) put,
    )

pub returns-in-None : goal.returns-in-None
returns-in-None t c =
    rw (print_any c.args.condition.now _ c.in-Any.is, ← c.into_iter-part-iterator.ensures.into_iter_gives)
    (led_end (codes " OR ") c.loop-part.before.now _ _ (rw (c.in-None.ensures.steps.0) at c.loop-part.invariant.2))

pub returns-in-None-part : goal.returns-in-None-part
returns-in-None-part t c =
    rw (print_all c.args.condition.now _ c.in-All.is, ← c.into_iter-part-iterator-in-All.ensures.into_iter_gives)
    (led_end (codes " AND ") c.loop-part-2.before.now _ _ (rw (c.in-None-part.ensures.steps.0) at c.loop-part-2.invariant.2))

pub returns-in_ok-push_str-in-Not-3 : goal.returns-in_ok-push_str-in-Not-3
returns-in_ok-push_str-in-Not-3 t c =
    let around = c.around_in_all-around-in-Not in
    let part = c.in-Not.part in
    let same : printed c.get.result.now ≡ printed part = ap printed c.get.ensures in
    let text : string_bytes c.put-in-Not.new.out ≡ string_bytes c.push_str-in-Not-2.new.self ++ (printed part).text = c.in_ok-put-in-Not.ensures ∙ ap (λ (x : Cond). string_bytes c.push_str-in-Not-2.new.self ++ print x) c.get-in-Not.ensures in
    let put : string_bytes c.push_str-in-Not-3.new.self ≡ string_bytes c.push_str-in-Not.new.self ++ in_all (printed part) =
    put_around_all (printed part) around.result.open.now around.result.close.now _ _ _ _
    (around.ensures.open ∙ ap (λ (p : Printed). opening_in_all p.form) same) (around.ensures.close ∙ ap (λ (p : Printed). closing_in_all p.form) same)
    c.in_ok-push_str-in-Not-2.ensures.bytes text c.in_ok-push_str-in-Not-3.ensures.bytes in
    rw (print_not c.args.condition.now _ c.in-Not.is, put, c.in_ok-push_str-in-Not.ensures.bytes) (append_assoc (string_bytes c.args.out.now) (codes "NOT ") (in_all (printed part)))

pub returns-in-Compare : goal.returns-in-Compare
returns-in-Compare t c = rw (print_compare c.args.condition.now _ _ _ c.in-Compare.is) (search rules)

pub returns-in-IsNull : goal.returns-in-IsNull
returns-in-IsNull t c = rw (print_is_null c.args.condition.now _ _ c.in-IsNull.is) (search rules)

pub returns-in-Like : goal.returns-in-Like
returns-in-Like t c = rw (print_like c.args.condition.now _ _ _ c.in-Like.is) (search rules)
