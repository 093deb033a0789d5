use Rattle.std.proofs.Common.{◌≡◌, ◌+◌, ◌<◌, suc, Bool, Some, true, false, length, sym, ap, ◌∙◌, subst, arith}
use Rattle.std.specs.Prelude.{option_map, slice_get}
use Rattle.std.specs.Str.{bytes_eq}
use Rattle.std.proofs.lemmas.List.Edits.{length-remove}
use Rattle.queue_rows.specs.declared.rows.MsgRow.{MsgRow}
use Rattle.open_rows.specs.Rows.{Rows}
use Rattle.message_index.proofs.OthersLemmas.{walked, one_stays, one_goes, none_left}
use Rattle.message_index.proofs.open_messages.OpenMessages.remove_of_queue.Goals as goal

pub loop-goes-preserved-then-goes : goal.loop-goes-preserved-then-goes
loop-goes-preserved-then-goes c =
    let goes : MsgRow → Bool = λ m. bytes_eq m.queue c.args.queue.now in
    let ms = c.loop-goes.self.items in
    let at = c.loop-goes.at in
    let within : at < length ms = c.in-Some.ensures.within in
    let rest : c.remove_at.new.self.items ≡ _ = ap (λ (r : Rows MsgRow). r.items) c.remove_at.ensures in
    let is : Some true ≡ option_map goes (slice_get ms at) = subst (λ (b : Bool). Some b ≡ option_map goes (slice_get ms at)) c.if-goes.true c.in-Some.ensures.stands in
    record {
      within = omega (arith, within, length-remove ms at within, ap length rest);
      room = ap (λ (r : Rows MsgRow). r.room) c.remove_at.ensures ∙ c.loop-goes.invariant.room;
      left = ap (walked goes at) rest ∙ one_goes goes at ms is ∙ c.loop-goes.invariant.left;
    }

pub loop-goes-preserved : goal.loop-goes-preserved
loop-goes-preserved c =
    let goes : MsgRow → Bool = λ m. bytes_eq m.queue c.args.queue.now in
    let ms = c.loop-goes.self.items in
    let at = c.loop-goes.at in
    let within : at < length ms = c.in-Some.ensures.within in
    let is : Some false ≡ option_map goes (slice_get ms at) = subst (λ (b : Bool). Some b ≡ option_map goes (slice_get ms at)) c.if-goes.false c.in-Some.ensures.stands in
    let next : at + 1 ≡ suc at = omega arith in
    record {
      within = omega (arith, within);
      room = c.loop-goes.invariant.room;
      left = ap (λ n. walked goes n ms) next ∙ one_stays goes at ms is ∙ c.loop-goes.invariant.left;
    }

pub returns : goal.returns
returns c =
    let goes : MsgRow → Bool = λ m. bytes_eq m.queue c.args.queue.now in
    let ms = c.loop-goes.self.items in
    let at = c.loop-goes.at in
    let items = none_left goes at ms (sym c.in_default.is ∙ c.stands_in.ensures.stands) ∙ c.loop-goes.invariant.left in
    λ i. record { items = items i; room = c.loop-goes.invariant.room i }
