use Rattle.std.proofs.Common.{◌≡◌, ap, ◌∙◌}
use Rattle.serde_json.proofs.Views.{view-Object}
use Rattle.serde_json.specs.Data as json
use Rattle.serde_json.specs.View.{view}
use Rattle.serde_json.specs.Written.{compact_text, has_float}
use Rattle.serde_json.specs.declared.value.Value.{Object}
use Rattle.seg_values.specs.DocumentJson.{document_object}
use Rattle.seg_values.proofs.FloatFreeJson.{object_none}
use Rattle.seg_values.proofs.document_json.object_text.Goals as goal

pub returns : goal.returns
returns c =
    let seen : view (Object c.in_ok-map.map) ≡ document_object c.args.schema.now c.args.document.now = view-Object c.in_ok-map.map ∙ ap json.object c.in_ok-map.ensures in
    c.in_ok-text.ensures.text (ap has_float seen ∙ object_none c.args.schema.now c.args.document.now) ∙ ap compact_text seen
