use Rattle.std.proofs.Common.{drop}
use Rattle.serde_json.specs.View.{view, items_view}
use Rattle.seg_values.specs.SchemaRules.{same_name}
use Rattle.seg_meta.proofs.Exports.{IsReadSoFar}
use Rattle.seg_script.specs.Fields.{entry_from}
use Rattle.seg_script.proofs.fields.schema_from.Given as goal

abbrev pub invariant-loop-item : goal.invariant-loop-item
invariant-loop-item l = IsReadSoFar entry_from same_name (view l.json) l.builder (items_view (drop l.item-index l.item-items)) l.item-index
