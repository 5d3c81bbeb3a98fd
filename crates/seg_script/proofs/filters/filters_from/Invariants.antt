use Rattle.std.proofs.Common.{◌≡◌, drop}
use Rattle.serde_json.specs.View.{view, items_view}
use Rattle.seg_meta.specs.JsonReaders.{nullable, list_of}
use Rattle.seg_meta.proofs.Exports.{so_far}
use Rattle.seg_script.specs.Filters.{filter_from}
use Rattle.seg_script.proofs.filters.filters_from.Given as goal

abbrev pub invariant-loop-item : goal.invariant-loop-item
invariant-loop-item l = so_far (nullable filter_from) l.filters.items (items_view (drop l.item-index l.item-items)) ≡ list_of (nullable filter_from) (view l.json)
