use Rattle.std.proofs.Common.{◌≡◌, drop}
use Rattle.serde_json.specs.View.{view, items_view}
use Rattle.seg_meta.specs.JsonReaders.{below, list_of}
use Rattle.seg_meta.proofs.Exports.{so_far}
use Rattle.seg_script.proofs.filters.dropped_from.Given as goal

abbrev pub invariant-loop-item : goal.invariant-loop-item
invariant-loop-item l = so_far (below l.size) l.dropped.items (items_view (drop l.item-index l.item-items)) ≡ list_of (below l.size) (view l.json)
