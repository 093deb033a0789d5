use Rattle.std.proofs.Common.{◌++◌, ◌∷◌, [], ap, ◌∙◌, sym}
use Rattle.std.proofs.lemmas.List.{map-append}
use Rattle.remote_slots.specs.Indexed.{IndexesReady}
use Rattle.remote_slots.specs.Remote.{IndexesRemote}
use Rattle.message_index.proofs.IndexLemmas.{due_pushed, pushed}
use Rattle.message_index.proofs.indexed_messages.push_message.Goals as goal

pub returns-clause-indexed : goal.returns-clause-indexed
returns-clause-indexed c =
    let i = c.args.index.now in
    let ms = c.args.rows.now in
    let caches = c.args.caches.now in
    let own = c.requires.indexed in
    let row = c.args.row in
    let ready = pushed IndexesReady i.ids i.stamps c.push-spare.new.self.ids c.push-spare.new.self.stamps ms c.push-spare.result.1 row caches.ready.slots c.put.new.self.slots
    own.ids own.stamped c.push-spare.ensures.stamps c.push-spare.ensures.stamped c.put.ensures own.caches.ready in
    let remote = pushed IndexesRemote i.ids i.stamps c.push-spare.new.self.ids c.push-spare.new.self.stamps ms c.push-spare.result.1 row caches.remote.slots c.put-2.new.self.slots
    own.ids own.stamped c.push-spare.ensures.stamps c.push-spare.ensures.stamped c.put-2.ensures own.caches.remote in
    let due = due_pushed ms row caches.due.keeps c.put-3.new.self.keeps caches.due.slots c.put-3.new.self.slots c.put-3.ensures.keeps c.put-3.ensures.rows own.caches.due in
    record {
      ids = rw c.push.ensures (c.push-spare.ensures.ids ∙ ap (λ ids. ids ++ row.id ∷ []) own.ids ∙ sym (map-append (λ m. m.id) ms (row ∷ [])));
      stamped = c.push-spare.ensures.stamped;
      caches = record { ready = rw c.push.ensures ready; remote = rw c.push.ensures remote; due = rw c.push.ensures due };
    }
