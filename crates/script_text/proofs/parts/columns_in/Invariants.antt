use Rattle.std.proofs.Common.{◌≡◌, drop}
use Rattle.serde_json.specs.View.{items_view}
use Rattle.script_text.specs.Member.{each_item}
use Rattle.script_text.specs.Parts.{column_in}
use Rattle.script_text.proofs.Items.{onto}
use Rattle.script_text.proofs.parts.columns_in.Given as goal

abbrev pub invariant-loop-item : goal.invariant-loop-item
invariant-loop-item l = onto l.columns (each_item column_in (items_view (drop l.item-index l.items))) ≡ each_item column_in (items_view l.items)
