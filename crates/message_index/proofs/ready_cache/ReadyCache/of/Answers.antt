use Rattle.std.proofs.Common.{[], ◌∷◌, ◌++◌, length, refl, ap, ◌∙◌}
use Rattle.std.proofs.lemmas.List.{length-map}
use Rattle.remote_slots.specs.Indexed.{IndexesReady}
use Rattle.message_index.proofs.EntryLemmas.{all_gone, as_long, index_grown, longer, split_on, stamp_left}
use Rattle.message_index.proofs.ready_cache.ReadyCache.of.Goals as goal

pub loop-message-init : goal.loop-message-init
loop-message-init c = record {
  done = [];
  all = c.into_iter-message-iterator.ensures.into_iter_gives;
  count = refl;
  ready = c.new-ready.ensures;
}

pub stamp_at-requires : goal.stamp_at-requires
stamp_at-requires c =
    let so = c.loop-message.invariant in
    let ms = c.args.messages.now in
    let long = ap length c.requires.ids ∙ length-map ms (λ m. m.id) in
    stamp_left (length c.args.index.now.ids) c.loop-message.at c.in-Some.message.now so.done c.next.new.self c.loop-message.message-iterator ms c.in-Some.ensures.steps so.all so.count long

pub loop-message-preserved : goal.loop-message-preserved
loop-message-preserved c =
    let so = c.loop-message.invariant in
    let m = c.in-Some.message.now in
    let at = c.loop-message.at in
    let stamps = c.args.index.now.stamps in
    record {
      done = so.done ++ m ∷ [];
      all = split_on m so.done c.next.new.self c.loop-message.message-iterator c.args.messages.now c.in-Some.ensures.steps so.all;
      count = longer at m so.done so.count;
      ready = index_grown IndexesReady stamps c.args.messages.now so.done at c.stamp_at.result m c.loop-message.ready.slots c.put.new.self.slots c.requires.stamped.rise so.count c.stamp_at.ensures c.put.ensures so.ready;
    }

pub returns : goal.returns
returns c =
    let so = c.loop-message.invariant in
    let ms = c.args.messages.now in
    let long = as_long c.args.index.now.ids c.args.index.now.stamps ms c.requires.ids c.requires.stamped in
    all_gone IndexesReady c.args.index.now.stamps c.loop-message.at so.done c.loop-message.message-iterator ms c.loop-message.ready.slots c.in-None.ensures.steps.0 so.all so.count long so.ready
