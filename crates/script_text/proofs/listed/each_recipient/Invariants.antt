use Rattle.std.proofs.Common.{◌≡◌, true, drop, length}
use Rattle.std.specs.List.{list_all}
use Rattle.serde_json.specs.View.{items_view}
use Rattle.queue_rows.specs.Within.{is_recipient}
use Rattle.script_text.specs.Member.{each_item}
use Rattle.script_text.specs.Parts.{recipient_in}
use Rattle.script_text.proofs.Items.{onto}
use Rattle.script_text.proofs.listed.each_recipient.Given as goal

abbrev pub invariant-loop-item : goal.invariant-loop-item
invariant-loop-item l = record {
  read : onto l.recipients (each_item recipient_in (items_view (drop l.item-index l.items))) ≡ each_item recipient_in (items_view l.items);
  count : length l.recipients ≡ l.item-index;
  within : list_all is_recipient l.recipients ≡ true;
}
