use Rattle.std.proofs.Common.{◌≡◌, true, drop, length}
use Rattle.std.specs.List.{list_all}
use Rattle.serde_json.specs.View.{items_view}
use Rattle.queue_rows.specs.Within.{is_agent}
use Rattle.script_text.specs.Member.{each_item}
use Rattle.script_text.specs.Parts.{agent_in}
use Rattle.script_text.proofs.Items.{onto}
use Rattle.script_text.proofs.listed.each_agent.Given as goal

abbrev pub invariant-loop-item : goal.invariant-loop-item
invariant-loop-item l = record {
  read : onto l.agents (each_item agent_in (items_view (drop l.item-index l.items))) ≡ each_item agent_in (items_view l.items);
  count : length l.agents ≡ l.item-index;
  within : list_all is_agent l.agents ≡ true;
}
