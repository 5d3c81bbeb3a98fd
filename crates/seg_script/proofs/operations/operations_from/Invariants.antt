use Rattle.std.proofs.Common.{◌≡◌, map}
use Rattle.std.specs.Vec.Iter.{into_iter_items}
use Rattle.serde_json.specs.View.{view, items_view}
use Rattle.seg_meta.specs.JsonReaders.{list_of}
use Rattle.seg_meta.proofs.Exports.{so_far}
use Rattle.seg_check.specs.UserOperations.{operation_of}
use Rattle.seg_script.specs.Operations.{operation_from}
use Rattle.seg_script.proofs.operations.operations_from.Given as goal

abbrev pub invariant-loop-item : goal.invariant-loop-item
invariant-loop-item l = so_far (operation_from l.schema) (map operation_of l.operations.items) (items_view (into_iter_items l.item-iterator)) ≡ list_of (operation_from l.schema) (view l.fn.json)
