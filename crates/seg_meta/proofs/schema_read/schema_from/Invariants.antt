use Rattle.std.proofs.Common.{drop}
use Rattle.serde_json.specs.View.{view, items_view}
use Rattle.seg_values.specs.SchemaRules.{same_name}
use Rattle.seg_meta.specs.ParsedMetaParts.{entry_from}
use Rattle.seg_meta.proofs.ReadLists.{IsReadSoFar}
use Rattle.seg_meta.proofs.schema_read.schema_from.Given as goal

abbrev pub invariant-loop-item : goal.invariant-loop-item
invariant-loop-item l = IsReadSoFar entry_from same_name (view l.json) l.builder (items_view (drop l.item-index l.item-items)) l.item-index
