use Rattle.std.proofs.Common.{◌≡◌, drop}
use Rattle.serde_json.specs.View.{view, items_view}
use Rattle.seg_meta.specs.JsonReaders.{list_of}
use Rattle.seg_meta.proofs.Exports.{so_far}
use Rattle.seg_script.specs.Script.{id_of}
use Rattle.seg_script.proofs.ids.ids_from.Given as goal

abbrev pub invariant-loop-item : goal.invariant-loop-item
invariant-loop-item l = so_far (id_of) l.ids.items (items_view (drop l.item-index l.item-items)) ≡ list_of (id_of) (view l.json)
