use Rattle.std.proofs.Common.{◌≡◌, drop, map}
use Rattle.serde_json.specs.View.{view}
use Rattle.seg_values.specs.ValueJson.{tokens_items}
use Rattle.seg_values.proofs.WrittenJson.{followed}
use Rattle.seg_values.proofs.write_json.tokens_json.Given as goal

abbrev pub invariant-loop-token : goal.invariant-loop-token
invariant-loop-token l = followed (map view l.items.items) (tokens_items (drop l.token-index l.tokens)) ≡ tokens_items l.tokens
