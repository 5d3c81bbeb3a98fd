use Rattle.std.proofs.Common.{◌≡◌}
use Rattle.std.specs.Vec.Iter.{into_iter_items}
use Rattle.serde_json.specs.View.{view, items_view}
use Rattle.seg_meta.specs.JsonReaders.{list_of}
use Rattle.seg_meta.proofs.Exports.{so_far}
use Rattle.seg_script.specs.Pairs.{pair_from}
use Rattle.seg_script.proofs.pairs.document_from.Given as goal

abbrev pub invariant-loop-item : goal.invariant-loop-item
invariant-loop-item l = so_far (pair_from l.schema) l.document (items_view (into_iter_items l.item-iterator)) ≡ list_of (pair_from l.schema) (view l.fn.json)
