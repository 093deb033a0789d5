use Rattle.std.proofs.Common.{arith}
use Rattle.std.proofs.lemmas.Result.{on_ok_weaker}
use Rattle.redo_records.specs.Spellable.{IsFull}
use Rattle.redo_records.specs.Spelled.{IsDatum, IsProp}
use Rattle.redo_records.proofs.Typed.{all_apply}
use Rattle.redo_records.proofs.messages.put_msg_row.Goals as goal

pub returns-clause-typed : goal.returns-clause-typed
returns-clause-typed c =
    let row = c.args.row.now in
    let front = c.in_ok-put_msg_front.ensures.typed in
    let cells = c.in_ok-put_cells.ensures.typed in
    on_ok_weaker c.put_list-2.result (λ props full. record {
      id = front.id;
      queue = front.queue;
      place = front.place;
      priority = front.priority;
      corr = front.corr;
      exception = front.exception;
      cells = (cells.0, all_apply IsFull IsDatum row.facts.cells.cells cells.1 full.cells);
      enq = c.put_num.ensures.typed;
      group = c.put_num-2.ensures.typed;
      slots = c.in_ok-put_list.ensures.typed;
      props = (λ e. absurd (omega arith), (props.0, all_apply (λ p. IsFull p.value) IsProp row.facts.props props.1 full.props));
    }) c.put_list-2.ensures.typed
