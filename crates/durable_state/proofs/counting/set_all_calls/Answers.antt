use Rattle.std.proofs.Common.{◌≡◌, ◌<◌, length, Some, None, sym, ap, ◌∙◌, arith}
use Rattle.std.specs.Prelude.{option_copied, slice_get}
use Rattle.durable_state.specs.Counted.{counted_at}
use Rattle.durable_state.proofs.Counts.{counted_next, counted_none, there_is}
use Rattle.durable_state.proofs.counting.set_all_calls.Goals as goal
use Rattle.durable_state.proofs.counting.set_all_calls.Goals.{in-Some, in_default}

pub loop-at-init : goal.loop-at-init
loop-at-init c = sym (counted_none c.args.entries.now)

pub loop-at-preserved : goal.loop-at-preserved
loop-at-preserved c =
    let at = c.loop-at.at in
    let calls = c.args.calls.now.items in
    elim c.match-get.branch [
      | in-Some w ↦
          let got : slice_get calls at ≡ Some w.in-Some.numbers.now = sym c.get.ensures ∙ ap option_copied w.in-Some.is in
          w.entries-is ∙ w.set_calls.ensures ∙ ap (counted_at at w.in-Some.numbers.now) c.loop-at.invariant
          ∙ counted_next c.args.entries.now calls at w.in-Some.numbers.now got
      | in_default w ↦
          let none : slice_get calls at ≡ None = sym c.get.ensures ∙ ap option_copied w.in_default.is in
          let below : at < length calls = omega (arith, c.loop-at-test.true, c.len-at-end.ensures) in
          there_is calls at below none
    ]
