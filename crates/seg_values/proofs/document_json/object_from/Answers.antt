use Rattle.std.proofs.Common.{sym, ap, ◌∙◌}
use Rattle.serde_json.specs.View.{view, members_view}
use Rattle.seg_values.specs.ValueTrees.{tree_of}
use Rattle.seg_values.proofs.DocumentObjects.{object_more, field_within, nothing}
use Rattle.seg_values.proofs.document_json.object_from.Goals as goal

pub get_field_entry-entry-requires : goal.get_field_entry-entry-requires
get_field_entry-entry-requires c =
    field_within c.args.schema.now c.args.document.now c.loop-at.at (c.pair-field.result.0, tree_of c.pair-field.result.1.now) c.requires c.pair-field.ensures

pub loop-at-preserved : goal.loop-at-preserved
loop-at-preserved c =
    object_more c.args.document.now c.args.schema.now c.loop-at.at c.pair-field.result.0 (tree_of c.pair-field.result.1.now) c.get_field_entry-entry.result.now c.as_str.result.now (view c.in_ok-json.json) (members_view c.loop-at.map.entries) (members_view c.add_item.new.map.entries)
    c.fields_are_valid.ensures c.pair-field.ensures c.get_field_entry-entry.ensures c.as_str.ensures c.in_ok-json.ensures c.in_ok-add_item.ensures c.loop-at.invariant

pub loop-at-init : goal.loop-at-init
loop-at-init c = ap members_view c.new-map.ensures.empty ∙ sym (nothing 0 c.args.schema.now)
