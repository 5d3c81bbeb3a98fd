use Rattle.std.proofs.Common.{◌≡◌, take}
use Rattle.serde_json.specs.View.{members_view}
use Rattle.seg_values.specs.DocumentJson.{fields_json}
use Rattle.seg_values.proofs.document_json.object_from.Given as goal

abbrev pub invariant-loop-at : goal.invariant-loop-at
invariant-loop-at l = members_view l.map.entries ≡ fields_json 0 l.schema (take l.at l.document)
