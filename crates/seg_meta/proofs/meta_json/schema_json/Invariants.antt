use Rattle.std.proofs.Common.{◌≡◌, ◌++◌, map, drop}
use Rattle.serde_json.specs.View.{view}
use Rattle.seg_meta.specs.MetaJson.{entry_json}
use Rattle.seg_meta.proofs.meta_json.schema_json.Given as goal

abbrev pub invariant-loop-entry : goal.invariant-loop-entry
invariant-loop-entry l = map view l.items.items ++ map entry_json (drop l.entry-index l.entries) ≡ map entry_json l.entries
