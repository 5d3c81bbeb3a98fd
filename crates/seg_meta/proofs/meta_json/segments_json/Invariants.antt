use Rattle.std.proofs.Common.{◌≡◌, ◌++◌, map, drop}
use Rattle.serde_json.specs.View.{view}
use Rattle.seg_meta.specs.MetaJson.{segment_json}
use Rattle.seg_meta.proofs.meta_json.segments_json.Given as goal

abbrev pub invariant-loop-segment : goal.invariant-loop-segment
invariant-loop-segment l = map view l.items.items ++ map segment_json (drop l.segment-index l.segments) ≡ map segment_json l.segments
