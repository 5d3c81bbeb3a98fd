use Rattle.std.proofs.Common.{◌≡◌, Some, IfSome, take, drop}
use Rattle.seg_directory.specs.CompositeFiles.{low_after}
use Rattle.seg_segment.specs.WrittenLengths.{AscendFrom, parts_with}
use Rattle.seg_segment.proofs.lengths_by_field.add_fields.Given as goal

abbrev pub invariant-loop-field : goal.invariant-loop-field
invariant-loop-field g l = record {
  parts : l.file ≡ Some (parts_with (g.L.LengthsByField.ids l.lengths) (take l.field-index l.fields));
  ascend : IfSome l.file (λ ps. AscendFrom (low_after 0 ps) (drop l.field-index l.fields));
}
