use Rattle.std.proofs.Common.{◌≡◌, take}
use Rattle.seg_tool.proofs.norm_lines.all_ids.Given as goal

abbrev pub invariant-loop-document : goal.invariant-loop-document
invariant-loop-document l = l.ids.items ≡ take l.document l.reader
