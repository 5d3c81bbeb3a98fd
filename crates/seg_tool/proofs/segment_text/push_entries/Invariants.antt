use Rattle.std.proofs.Common.{◌≡◌, ◌++◌, drop, map}
use Rattle.seg_open.specs.OpenSegment.{terms_in}
use Rattle.seg_text.specs.FieldText.{fields_text}
use Rattle.seg_tool.proofs.segment_text.push_entries.Given as goal

abbrev pub invariant-loop-place : goal.invariant-loop-place
invariant-loop-place l = l.out.items ++ fields_text (drop l.place l.entries) (map terms_in (drop l.place l.reader.fields)) ≡ l.initial.out.items ++ fields_text l.entries (map terms_in l.reader.fields)
