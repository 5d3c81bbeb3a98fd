use Rattle.std.proofs.Common.{◌≡◌, drop}
use Rattle.serde_json.specs.View.{view, items_view}
use Rattle.seg_meta.specs.JsonReaders.{natural, list_of}
use Rattle.seg_meta.proofs.Exports.{so_far}
use Rattle.seg_script.proofs.cuts.cuts_from.Given as goal

abbrev pub invariant-loop-item : goal.invariant-loop-item
invariant-loop-item l = so_far (natural) l.cuts.items (items_view (drop l.item-index l.item-items)) ≡ list_of (natural) (view l.json)
